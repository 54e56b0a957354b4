-- Tables and head after an edge row goes and the faces on its sides become one.
use Rattle.std.specs.Prelude.{◌≡◌, Bool, false, cond, List, ℕ, suc, ◌+◌, ◌≤◌, ◌<◌, ℤ, pos, negsuc, nat_abs}
use Rattle.lists.specs.Tests.{same, bit}
use Rattle.map.specs.declared.Head.{Head}
use Rattle.map.specs.Limits.{last_number}
use Rattle.map.specs.Rows.{Edge, Map, map_of, rectangle, lent}
use Rattle.map.specs.Edits.{undrawn}
use Rattle.map_rows.specs.Rows.{edge_at, EdgeRow}
use Rattle.outcomes.specs.declared.Carried.{Carried}
use Rattle.outcomes.specs.Outcomes.{Formed}
use Rattle.face_rows.specs.Holds.{TablesOf, face_kept, merged_sides}

-- `remove_edge` of a row, where it is known whether a new face is made
abbrev pub removed_edge : Bool → Edge → Map → Map
removed_edge makes row m = undrawn row.number (face_kept makes row m) (merged_sides makes row m)

-- the face that is left, or -1 where both sides were one
abbrev pub value_left : Bool → Edge → Map → ℤ
value_left makes row m = cond (same row.left row.right) (negsuc 0) (pos (face_kept makes row m))

-- a row in use; no face is made where both sides are one, and where one is made there is a number for it
pub record RemovableEdge (nodes edges faces : List ℤ) (h : Head) (i : ℕ) (makes : Bool) : Type 0 where
  pub formed : Formed nodes edges faces h
  pub row : i < nat_abs h.edges
  pub cells : EdgeRow edges i
  pub kept : (edge_at edges i).left ≡ (edge_at edges i).right → makes ≡ false
  pub number : nat_abs h.next_face + bit makes ≤ suc last_number

-- the rectangles are still those of the edges before
pub record EdgeRemoved (nodes edges faces : List ℤ) (h : Head) (i : ℕ) (makes : Bool) (nodes' edges' faces' : List ℤ)
    (r : Carried) : Type 0 where
  pub holds : TablesOf (rectangle (map_of (lent nodes edges faces h)).edges) nodes edges faces h
      (removed_edge makes (edge_at edges i) (map_of (lent nodes edges faces h))) nodes' edges' faces' r.head
  pub value : r.value ≡ value_left makes (edge_at edges i) (map_of (lent nodes edges faces h))
