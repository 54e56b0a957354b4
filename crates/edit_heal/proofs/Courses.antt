-- The curve of a directed edge as numbers: a run, from which the curve is read again. Assumes nothing.
use mathlib.Core.Path.{◌≡◌, subst}
use mathlib.Core.List.{List}
use Prim.Native.Nat.{ℕ, ◌/◌}
use lib.IntN.{ℤ}
use Rattle.curves.specs.Curves.{points}
use Rattle.curve_edits.specs.declared.Line.{Line}
use Rattle.curve_edits.specs.Lines.{line_of}
use Rattle.map.proofs.RoundTrip.{Stored, run_stored}
use Rattle.map.proofs.Surplus.{course_stored}
use Rattle.map_rows.specs.Rows.{EdgeRow, edge_at, run_at}
use Rattle.map_rows.proofs.RowCurves.{run_at_lem, curve_at}
use Rattle.map_rows.proofs.Lines.{LineRead, line_read}
use Rattle.darts.specs.Positions.{odd}
use Rattle.edit_heal.specs.Heals.{course_at}

pub course-line : (l : List ℤ) (p : ℕ) (x : Line) → EdgeRow l (p / 2) → x ≡ line_of (points (course_at l p))
    → LineRead x (course_at l p)
course-line l p x row e =
    line_read (course_stored (odd p) (edge_at l (p / 2)).curve
    (subst Stored (curve_at row) (run_stored (run_at l (p / 2)) (run_at_lem row).is))) x e
