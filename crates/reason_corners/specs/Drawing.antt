-- A new edge beside the rows, before it is written: its positions come after theirs. Where it is linked in, and how the
-- links then run.
use Rattle.std.specs.Prelude.{◌≡◌, Bool, true, false, cond, not, ◌&&◌, ◌||◌, List, [], ◌∷◌, ◌++◌, ℕ, ◌+◌, ◌*◌, ◌/◌, ◌<◌, ◌≤◌, ℤ, length}
use Rattle.lists.specs.Tests.{same}
use Rattle.lists.specs.Scans.{keep}
use Rattle.planar_maps.specs.Map.{Dart, fwd, bwd}
use Rattle.tables.specs.Tables.{same_z}
use Rattle.plane.specs.Directions.{Way, before}
use Rattle.curves.specs.Curves.{curve_of, start_way}
use Rattle.curves.specs.Edits.{course}
use Rattle.rotation.specs.Law.{first_clockwise}
use Rattle.map.specs.Limits.{max_edges}
use Rattle.map.specs.Rows.{Map, counts}
use Rattle.map.specs.Darts.{next}
use Rattle.map.specs.Links.{instead}
use Rattle.map_rows.specs.Rows.{edge_at, edges_of, edge_map, EdgeRows}
use Rattle.darts.specs.Positions.{odd, dart_at, way_with}
use Rattle.links.specs.Linking.{positions, leaves_node}
use Rattle.reason_corners.specs.declared.Corners.{Corners}

-- the directed edge at a position, where the row e has the number new
abbrev pub drawn_dart : List ℤ → ℕ → ℕ → ℕ → Dart
drawn_dart l e new p = record { edge = cond (same (p / 2) e) new (edge_at l (p / 2)).number; back = odd p }

-- the rows' edges alone, and the number of the next one
abbrev pub edges_numbered : List ℤ → ℕ → ℕ → Map
edges_numbered l e new = record { nodes = []; edges = edges_of l e; faces = []; next = counts 0 new 0 }

-- the rows' departures from the node
abbrev pub departing : List ℤ → ℕ → ℤ → List ℕ
departing l e node = keep (leaves_node l node) (positions e)

-- what the end finds at its node; the start's departure is there already where both are at one node
abbrev pub at_end : List ℤ → ℕ → ℤ → ℤ → List ℕ
at_end l e from to = departing l e to ++ cond (same_z from to) (e * 2 ∷ []) []

-- the first of the rows' departures from the node that the curve meets turning clockwise; u where there is none
abbrev pub corner_at : List ℤ → ℕ → List ℤ → Bool → ℤ → ℕ → ℕ
corner_at l e c back node u = first_clockwise (way_with l e c) (start_way (course back (curve_of c))) u (departing l e node)

-- the corner at the start; with nothing there, the new edge itself
abbrev pub start_corner : List ℤ → ℕ → List ℤ → ℤ → ℕ
start_corner l e c from = corner_at l e c false from (e * 2)

-- the corner at the end; with nothing there, the reverse of the new edge
abbrev pub end_corner : List ℤ → ℕ → List ℤ → ℤ → ℤ → ℕ
end_corner l e c from to = first_clockwise (way_with l e c) (start_way (course true (curve_of c))) (e * 2 + 1)
    (at_end l e from to)

-- of q, the first one met turning clockwise from v, and x besides
abbrev pub first_of : (ℕ → Way) → Way → ℕ → ℕ → ℕ
first_of way v q x =
    let first = before (way x) v in
    let under = before (way q) v in
    let late = before (way q) (way x) in
    cond (first && not under || late && (first || not under)) x q

-- what a walk over the rows and a new edge requires: corners among their positions
pub record Linkable (l : List ℤ) (e : ℕ) (k : Corners) : Type 0 where
  pub rows : EdgeRows l e
  pub few : e ≤ max_edges
  pub start : k.start < e * 2 + 2
  pub end : k.end < e * 2 + 2

-- m has the rows and the edge new, linked in at these corners
pub record Joined (l : List ℤ) (e : ℕ) (start : ℕ) (end : ℕ) (new : ℕ) (m : Map) : Type 0 where
  pub fresh : (i : ℕ) → i < e → ((edge_at l i).number ≡ new) → ⊥
  pub rows : length m.edges ≡ e + 1
  pub forward : next m (fwd new) ≡ drawn_dart l e new end
  pub backward : next m (bwd new) ≡ instead (drawn_dart l e new end) (bwd new) (drawn_dart l e new start)
  pub others : (p : ℕ) → p < e * 2 → next m (dart_at l p)
      ≡ instead (drawn_dart l e new end) (bwd new)
      (instead (drawn_dart l e new start) (fwd new) (next (edge_map l e) (dart_at l p)))
