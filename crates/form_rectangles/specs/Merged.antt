-- Boxes of faces, a row each.
use Rattle.std.specs.Prelude.{Bool, cond, ◌||◌, List, [], ℕ, ltb, ℤ, get_or}
use Rattle.lists.specs.Tests.{same}
use Rattle.bounding_boxes.specs.declared.Extent.{Extent}
use Rattle.tables.specs.Tables.{row_at}
use Rattle.map.specs.Limits.{face_width}
use Rattle.map.specs.Rows.{box_of}
use Rattle.map.specs.Form.{has_box}

-- the box of row k; past the end four zeros, which nothing reads
abbrev pub box_in : List Extent → ℕ → Extent
box_in boxes k = get_or boxes k (record { left = 0; right = 0; low = 0; high = 0 })

-- the rectangle of face f whose boundary has this box: four zeros for face 0, and where the box has no point
abbrev pub settled_for : ℕ → Extent → Extent
settled_for f e = cond (same f 0 || ltb e.right e.left) (box_of []) e

-- row k of the faces has that of its box
abbrev pub row_fits : List ℤ → List Extent → ℕ → Bool
row_fits faces boxes k = has_box (λ f. settled_for f (box_in boxes k)) (row_at face_width faces k)
