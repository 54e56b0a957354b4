-- `curves::odd_below` meets its contract: the segments passed and those left add up to all. Assumes nothing.
use native.Mathlib.Omega.{arith}
use Rattle.curves.specs.Measures.{odd_below}
use Rattle.curves.proofs.Runs.{curve_is}
use Rattle.curves.proofs.Turns.{odd_again}
use Rattle.curves.proofs.odd_below.Goals as goal

pub loop-i-init : goal.loop-i-init
unfolding odd_below
loop-i-init c = (omega arith, rw (curve_is c.requires.0))

pub loop-i-preserved : goal.loop-i-preserved
loop-i-preserved c =
    let b = c in (
      omega arith,
      odd_again b.args.c.now _ b.segment_count-n.ensures.0
          c.loop-i-test.true _ b.loop-i.odd _ c.point_at.ensures.0
          c.point_at-in-loop-i.ensures.0 c.passes_below-odd.ensures b.loop-i.invariant.1,
    )
