-- The least box around a face's boundary, before it is known to have a point; rectangles set in the face table.
use Rattle.std.specs.Prelude.{cond, ◌||◌, List, [], ◌∷◌, ℕ, suc, ◌+◌, ◌*◌, ◌≤◌, ltb, ℤ, pos, get_or}
use Rattle.std.proofs.Math.Seq.{paste}
use Rattle.lists.specs.Tests.{same}
use Rattle.lists.specs.Scans.{fold}
use Rattle.lists.specs.Tables.{sweep}
use Rattle.tables.specs.Tables.{same_z}
use Rattle.plane.specs.Points.{max_coordinate}
use Rattle.bounding_boxes.specs.declared.Extent.{Extent}
use Rattle.bounding_boxes.specs.Extents.{widen}
use Rattle.map.specs.Limits.{face_width}
use Rattle.map.specs.Rows.{Edge, boundary, box_of}

-- ---- the box around a boundary

-- no point yet: every point is left of it and below
abbrev pub no_point : Extent
no_point = record { left = suc max_coordinate; right = 0; low = suc max_coordinate; high = 0 }

-- the box around the boundary of a face
abbrev pub boundary_box : List Edge → ℕ → Extent
boundary_box es f = fold widen no_point (boundary es f)

-- the box as a rectangle: four zeros where it has no point
abbrev pub settled_box : Extent → Extent
settled_box e = cond (ltb e.right e.left) (box_of []) e

-- none of its numbers is more than one beyond the greatest coordinate
pub record Bounded (e : Extent) : Type 0 where
  pub left : e.left ≤ suc max_coordinate
  pub right : e.right ≤ suc max_coordinate
  pub low : e.low ≤ suc max_coordinate
  pub high : e.high ≤ suc max_coordinate

-- ---- in the face table

-- the numbers of a rectangle: least x, least y, greatest x, greatest y
abbrev pub box_cells : Extent → List ℤ
box_cells e = pos e.left ∷ pos e.low ∷ pos e.right ∷ pos e.high ∷ []

-- the rectangle set in row k, where that is the face's
abbrev pub set_row : ℤ → Extent → List ℤ → ℕ → List ℤ
set_row face e l k = cond (same_z (get_or l (k * face_width) (pos 0)) face)
    (paste l (k * face_width + 1) (box_cells e) 4) l

-- in the rows of face m, among n rows; face 0 keeps what it has
abbrev pub set_face : ℕ → ℕ → Extent → List ℤ → List ℤ
set_face n m e l = cond (same m 0) l (sweep (set_row (pos m) e) l 0 n)

-- those of two faces, by their rectangles
abbrev pub set_two : ℕ → (ℕ → Extent) → ℕ → ℕ → List ℤ → List ℤ
set_two n box a b l = set_face n b (box b) (set_face n a (box a) l)

-- the rectangles by face, with those of two faces new
abbrev pub set_for : ℕ → ℕ → (ℕ → Extent) → (ℕ → Extent) → ℕ → Extent
set_for a b new old f = cond (same f a || same f b) (new f) (old f)
