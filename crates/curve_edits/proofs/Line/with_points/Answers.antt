-- `curve_edits::Line::with_points` meets its contract: the points from `from` up to i are in the line. Assumes nothing.
use mathlib.Core.Path.{ap, ◌∙◌}
use native.Mathlib.Omega.{arith}
use Rattle.curves.specs.Curves.{point_at}
use Rattle.curves.proofs.Runs.{few_points}
use Rattle.curve_edits.specs.Lines.{line_of}
use Rattle.curve_edits.proofs.Places.{points_more}
use Rattle.curve_edits.proofs.Line.with_points.Goals as goal

pub loop-i-preserved : goal.loop-i-preserved
loop-i-preserved c =
    let a = c.args in
    let inv = c.loop-i.invariant in (
      omega arith,
      omega arith,
      (λ ps e. c.with_point-out.ensures.0 _ (inv.2 ps e)
          ∙ ap line_of (points_more (point_at a.c.now) a.from c.loop-i.i ps inv.0
          c.point_at.ensures.0)),
      omega arith,
    )

pub with_point-out-requires : goal.with_point-out-requires
with_point-out-requires c = (c.point_at.ensures.1, omega (arith, few_points c.requires.0))
