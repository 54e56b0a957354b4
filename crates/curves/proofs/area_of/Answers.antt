-- `curves::area_of` meets its contract: the difference of the two sums and the area of the segments left add up to the
-- area, and each sum is at most a product of coordinates for each segment passed. Assumes nothing.
use mathlib.Core.Path.{sym, ◌∙◌}
use native.Mathlib.Omega.{arith}
use Rattle.curves.proofs.Areas.{area_start, area_step}
use Rattle.curves.proofs.area_of.Goals as goal

pub loop-i-init : goal.loop-i-init
loop-i-init c = (omega arith, omega arith, omega arith, area_start c.requires)

pub loop-i-preserved : goal.loop-i-preserved
loop-i-preserved c =
    let b = c in (
      omega arith,
      omega arith,
      omega arith,
      sym (area_step b.args.c.now b.loop-i.i b.loop-i.plus b.loop-i.minus _ _
          b.segment_count-n.ensures.0 c.loop-i-test.true
          c.point_at-a.ensures.0 c.point_at-b.ensures.0
          c.times-plus.ensures.0 c.times-minus.ensures.0) ∙ b.loop-i.invariant.3,
    )
