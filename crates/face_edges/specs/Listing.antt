-- Rings by position, as a pass over the positions finds them: which are marked, and what is left to write.
use Rattle.std.specs.Prelude.{◌≡◌, Bool, true, not, cond, ◌⊎◌, ℕ, ◌+◌, ◌*◌, ◌-◌, ◌<◌, ◌≤◌, ltb, ℤ, length, get_or}
use mathlib.Core.List.{List, ◌++◌, flat_map}
use Rattle.lists.specs.Tests.{same}
use Rattle.lists.specs.Scans.{any_of, keep}
use Rattle.lists.specs.Members.{Distinct}
use Rattle.lists.specs.Tables.{table}
use Rattle.planar_maps.specs.Map.{Dart, Linked}
use Rattle.planar_maps.specs.Pieces.{nums}
use Rattle.map.specs.Darts.{arcs, leaves, next, bears, ring, among, lower}
use Rattle.map.specs.Ticket.{ring_numbers, face_edges, Listed, list_unless}
use Rattle.map_rows.specs.Rows.{EdgeRows, edge_map}
use Rattle.darts.specs.Positions.{dart_at}

-- edge rows whose rings part the directed edges, and bear one face each
pub record Rings (l : List ℤ) (n : ℕ) : Type 0 where
  pub rows : EdgeRows l n
  pub small : n ≤ 2000
  pub once : Distinct (nums (arcs (edge_map l n)))
  pub linked : Linked (arcs (edge_map l n)) (leaves (edge_map l n)) (next (edge_map l n)) (bears (edge_map l n))

-- the face that position p bears
abbrev pub borne : List ℤ → ℕ → ℕ → ℕ
borne l n p = bears (edge_map l n) (dart_at l p)

-- the ring of position p, and whether position q lies on it
abbrev pub ring_at : List ℤ → ℕ → ℕ → List Dart
ring_at l n p = ring (edge_map l n) (dart_at l p)

abbrev pub on_ring : List ℤ → ℕ → ℕ → ℕ → Bool
on_ring l n p q = among (ring_at l n p) (dart_at l q)

-- d is the first member of its ring
abbrev pub is_first : List ℤ → ℕ → Dart → Bool
is_first l n d = not (any_of (λ c. lower c d) (ring (edge_map l n) d))

-- the marks after p positions: those of the rings of the face that were met
pub record Marked (l : List ℤ) (n f p : ℕ) (marks : List ℕ) : Type 0 where
  pub room : length marks ≡ 4000
  pub by : (q : ℕ) → q < n * 2 → (get_or marks q 0 ≡ 0 → ⊥) → (k : ℕ) × (k < p) × (borne l n k ≡ f)
      × (on_ring l n k q ≡ true)
  pub at : (k q : ℕ) → k < p → q < n * 2 → borne l n k ≡ f → on_ring l n k q ≡ true → get_or marks q 0 ≡ 0 → ⊥

-- the rings of the face whose first members stand from position p on, as they are written
abbrev pub left : List ℤ → ℕ → ℕ → ℕ → List ℤ
left l n f p = flat_map (λ d. ring_numbers (ring (edge_map l n) d))
    (keep (λ d. same (bears (edge_map l n) d) f) (keep (is_first l n) (table (dart_at l) p (n * 2 - p))))

-- r numbers are written at position p: none, or the ring of p
abbrev pub Size : List ℤ → ℕ → ℕ → ℕ → ℕ → Type 0
Size l n f p r = ((r ≡ 0) × (left l n f p ≡ left l n f (p + 1)))
    ⊎ ((r ≡ length (ring_at l n p) + 1) × (left l n f p ≡ ring_numbers (ring_at l n p) ++ left l n f (p + 1)))

-- the list after the rings of the face are written from the front, where there is room for them, and the answer
abbrev pub list_rings : List ℤ → ℕ → ℕ → List ℤ → Listed
list_rings l n f list =
    let written = face_edges (edge_map l n) f in list_unless list written (cond (ltb (length list) (length written)) 20 0)
