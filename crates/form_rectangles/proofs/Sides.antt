-- An edge is taken in by the boxes of the faces on its sides, and widens each by its points. Assumes nothing.
use mathlib.Core.Path.{◌≡◌, sym, ap, ap₂, ◌∙◌}
use mathlib.Core.Bool.{Bool, cond, ◌||◌}
use mathlib.Core.Logic.{inl, inr}
use mathlib.Core.List.{List, [], ◌∷◌}
use Prim.Native.Nat.{ℕ, ◌+◌, ◌*◌, ◌<◌}
use native.Mathlib.Omega.{arith}
use lib.IntN.{ℤ, pos}
use lib.ListN.{get_or}
use Rattle.lists.specs.Tests.{same}
use Rattle.lists.specs.Scans.{fold}
use Rattle.lists.proofs.Bools.{which, same_sym}
use Rattle.tables.specs.Tables.{same_z}
use Rattle.tables.proofs.Order.{same-pos}
use Rattle.tables.proofs.Rows.{rows_all}
use Rattle.bounding_boxes.specs.declared.Extent.{Extent}
use Rattle.bounding_boxes.specs.Extents.{widen, extent_of, union}
use Rattle.bounding_boxes.proofs.Unions.{fold-union}
use Rattle.map.specs.Limits.{face_width}
use Rattle.map.specs.Rows.{Edge, borders, boundary}
use Rattle.map.specs.Form.{face_ranges}
use Rattle.map_rows.specs.Rows.{EdgeRows, FaceRows, edge_at, face_at}
use Rattle.map_rows.proofs.Rows.{edge_cells_lem, edge-row_of, face_cell_lem, face_rows_rising}
use Rattle.darts.specs.Positions.{RowsNamed, side_cell}
use Rattle.darts.proofs.Positions.{side_even, side_odd}
use Rattle.rectangles.proofs.Boundaries.{boundary_hit, boundary_miss}
use Rattle.form_links.proofs.Named.{row_is}

-- ---- an edge taken in

pub edge_widens : (b : Extent) (e : Edge) (f : ℕ) → cond (borders f e) (union b (extent_of e.curve)) b
    ≡ fold widen b (boundary (e ∷ []) f)
edge_widens b e f =
    let chosen : Bool → Extent = λ t. cond t (union b (extent_of e.curve)) b in
    elim (which (borders f e)) [
      | inl h ↦ ap chosen h ∙ sym (fold-union b e.curve) ∙ ap (fold widen b) (sym (boundary_hit e f h))
      | inr h ↦ ap chosen h ∙ ap (fold widen b) (sym (boundary_miss e f h))
    ]

-- ---- the rows of the faces on the sides

module _ {edges : List ℤ} {count : ℕ} {faces : List ℤ} {n : ℕ} (bears : List ℕ) (t : EdgeRows edges count)
    (u : FaceRows faces n) (named : RowsNamed face_width faces n edges 5 bears (count * 2)) where
  side_is : (p k f : ℕ) → p < count * 2 → k < n → side_cell edges p 5 ≡ pos f → same k (get_or bears p 0)
      ≡ same f (face_at faces k)
  side_is p k f h below e =
      same_sym k (get_or bears p 0) ∙ row_is (face_rows_rising u) edges 5 bears named p k h below
      ∙ ap₂ same_z e (face_cell_lem faces k (rows_all face_width faces face_ranges n u.ranges k below))
      ∙ same-pos f (face_at faces k)

  pub sides_are : (i k : ℕ) → i < count → k < n
      → (same k (get_or bears (i * 2) 0) || same k (get_or bears (i * 2 + 1) 0))
      ≡ borders (face_at faces k) (edge_at edges i)
  sides_are i k h below =
      let cells = edge_cells_lem edges i (edge-row_of t i h).ranges in
      ap₂ ◌||◌ (side_is (i * 2) k (edge_at edges i).left (omega arith) below (side_even edges i 5 ∙ cells.left))
      (side_is (i * 2 + 1) k (edge_at edges i).right (omega arith) below (side_odd edges i 5 ∙ cells.right))
