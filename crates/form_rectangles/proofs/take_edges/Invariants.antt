-- `form_rectangles::take_edges` meets its contract: what is left of the edges widens the boxes to those of the
-- boundaries. Assumes nothing.
use mathlib.Core.Path.{◌≡◌}
use mathlib.Core.List.{List}
use Prim.Native.Nat.{ℕ, ◌*◌, ◌-◌, ◌<◌, ◌≤◌}
use lib.IntN.{ℤ}
use Rattle.map.specs.Limits.{face_width}
use Rattle.map_rows.specs.Rows.{FaceRows, face_at}
use Rattle.darts.specs.Positions.{RowsNamed}
use Rattle.rectangles.proofs.Boundaries.{Rest}
use Rattle.rectangles.specs.Boxes.{no_point}
use Rattle.form_rectangles.specs.Merged.{box_in}
use Rattle.form_rectangles.proofs.take_edges.Given as goal

abbrev pub invariant-loop-i : goal.invariant-loop-i
invariant-loop-i l =
    (l.i ≤ l.count)
    × ((faces : List ℤ) (n : ℕ) → FaceRows faces n → n ≤ 1000
    → ((j : ℕ) → j < n → box_in l.initial.boxes j ≡ no_point) → RowsNamed face_width faces n l.edges 5 l.bears (l.count * 2)
    → (k : ℕ) → k < n → Rest l.edges l.count (face_at faces k) l.i (box_in l.boxes k))

abbrev pub decreases-loop-i : goal.decreases-loop-i
decreases-loop-i l = l.count - l.i
