-- `curve_edits::Line::with_point` meets its contract: the row has room for the point, or only its number grows. Assumes
-- nothing.
use mathlib.Core.Path.{refl}
use native.Mathlib.Nat.{lt_of_le_of_lt}
use lib.Dec.{lit<}
use mir.Syntax.{w64}
use mir.Facts.{to_z_pos}
use Rattle.curve_edits.proofs.Lines.{point_stored, point_counted}
use Rattle.curve_edits.proofs.Line.with_point.Goals as goal
use Rattle.curve_edits.proofs.Line.with_point.Goals.{then-n-lt-POINTS, else-n-lt-POINTS}

pub returns : goal.returns
returns c =
    let s = c in (
      (λ ps e. elim c.if-n-lt-POINTS.branch [
        | then-n-lt-POINTS w ↦ point_stored s.args.self s.args.p _ ps e w.if-n-lt-POINTS.true
            (to_z_pos w64 (lt_of_le_of_lt s.requires.0.x (lit< tt)))
            (to_z_pos w64 (lt_of_le_of_lt s.requires.0.y (lit< tt))) w.cells-is
        | else-n-lt-POINTS w ↦ point_counted s.args.self s.args.p _ ps e w.if-n-lt-POINTS.false w.cells-is
      ]),
      refl,
    )
