-- Departures of a node by position, the first one met clockwise, and links changed in the numbers of a table.
use Rattle.std.specs.Prelude.{◌≡◌, Bool, cond, not, ◌&&◌, List, [], ◌∷◌, ℕ, ◌+◌, ◌*◌, ◌-◌, ◌/◌, ℤ, set, Option, Some, None}
use Rattle.std.specs.Option.{option_or}
use Rattle.lists.specs.Tests.{same}
use Rattle.lists.specs.Scans.{keep}
use Rattle.lists.specs.Tables.{table, sweep}
use Rattle.plane.specs.Directions.{Way, before}
use Rattle.rotation.specs.Law.{first_clockwise}
use Rattle.map.specs.Limits.{edge_width}
use Rattle.map.specs.Rows.{dart_cell}
use Rattle.curves.specs.Curves.{Run}
use Rattle.tables.specs.Tables.{same_z, replace_at}
use Rattle.map_rows.specs.Rows.{EdgeRow}
use Rattle.darts.specs.Positions.{reverse_of, dart_at, side_place, side_cell, way_at}
use Rattle.links.specs.declared.Choice.{Choice}

-- all positions
abbrev pub positions : ℕ → List ℕ
positions n = table (λ p. p) 0 (n * 2)

-- p leaves the node
abbrev pub leaves_node : List ℤ → ℤ → ℕ → Bool
leaves_node l node p = same_z (side_cell l p 1) node

-- the departures from a node
abbrev pub departures_of : List ℤ → ℕ → ℤ → List ℕ
departures_of l n node = keep (leaves_node l node) (positions n)

-- the departures from a node but for a and b
abbrev pub departures_but : List ℤ → ℕ → ℤ → ℕ → ℕ → List ℕ
departures_but l n node a b = keep (λ p. leaves_node l node p && not (same p a) && not (same p b)) (positions n)

-- the first of the departures met turning clockwise from v
abbrev pub first_met : (ℕ → Way) → Way → List ℕ → Option ℕ
first_met way v [] = None
first_met way v (p ∷ ps) = Some (first_clockwise way v p (p ∷ ps))

-- ---- the scan for it

-- the direction of p can be read where edge row `own` has the curve c
abbrev pub Known : List ℤ → ℕ → List ℤ → ℕ → Type 0
Known l own c p = (p / 2 ≡ own → Run c) × ((p / 2 ≡ own → ⊥) → EdgeRow l (p / 2))

-- the later of k, if there is one, and p, whose direction is w
abbrev pub later_of : (ℕ → Way) → Option ℕ → ℕ → Way → ℕ
later_of way (Some k) p w = cond (before (way k) w) p k
later_of way None p w = p

-- the choice with p besides
abbrev pub chosen_of : (ℕ → Way) → Way → Choice → ℕ → Choice
chosen_of way v h p =
    record {
      all = Some (later_of way h.all p (way p));
      below = cond (before (way p) v) (Some (later_of way h.below p (way p))) h.below;
    }

-- what the choice answers
abbrev pub answer : Choice → Option ℕ
answer h = option_or h.below h.all

-- ---- links changed, in the numbers

-- what led to `old` leads to `new`
abbrev pub redirected : ℤ → ℤ → List ℤ → ℕ → List ℤ
redirected old new l n =
    sweep (λ t i. replace_at old new t (i * edge_width + 4))
    (sweep (λ t i. replace_at old new t (i * edge_width + 3)) l 0 n) 0 n

-- the departure p, of which c is the first one met clockwise, linked in
abbrev pub linked_at : List ℤ → ℕ → ℕ → ℤ → List ℤ
linked_at l n p c = set (redirected c (dart_cell (dart_at l p)) l n) (side_place (reverse_of p) 3) c

abbrev pub linked_where : List ℤ → ℕ → ℕ → Option ℕ → List ℤ
linked_where l n p (Some q) = linked_at l n p (dart_cell (dart_at l q))
linked_where l n p None = linked_at l n p (dart_cell (dart_at l p))

-- the new departure p linked in, the position `other` not being there yet
abbrev pub linked_in : List ℤ → ℕ → ℕ → ℕ → List ℤ
linked_in l n p other = linked_where l n p (first_met (way_at l) (way_at l p) (departures_but l n (side_cell l p 1) p other))

-- the last row linked in, start first, then end
abbrev pub linked_edge : List ℤ → ℕ → List ℤ
linked_edge l n = let p = (n - 1) * 2 in linked_in (linked_in l n p (p + 1)) n (p + 1) (p + 1)

-- row i unlinked, start first, then end
abbrev pub unlinked_edge : List ℤ → ℕ → ℕ → List ℤ
unlinked_edge l n i =
    let p = i * 2 in
    let t = redirected (dart_cell (dart_at l p)) (side_cell l (p + 1) 3) l n in
    redirected (dart_cell (dart_at l (p + 1))) (side_cell t p 3) t n
