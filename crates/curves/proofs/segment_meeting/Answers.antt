-- `curves::segment_meeting` meets its contract: the graver of what was found and of what the segments from point i on
-- do is the whole. Assumes nothing.
use native.Mathlib.Omega.{arith}
use Rattle.curves.proofs.Runs.{curve_is}
use Rattle.curves.proofs.Turns.{meeting_again}
use Rattle.curves.proofs.segment_meeting.Invariants.{with}
use Rattle.curves.proofs.segment_meeting.Goals as goal

pub loop-i-init : goal.loop-i-init
loop-i-init c = (omega arith, rw (curve_is c.requires.3))

pub loop-i-preserved : goal.loop-i-preserved
loop-i-preserved c =
    let b = c in
    let a = b.args in (
      omega arith,
      meeting_again a.c.now _ b.segment_count-n.ensures.0
          c.loop-i-test.true (with a.l a.a a.b) b.loop-i.found
          c.point_at.ensures.0 c.point_at-in-loop-i.ensures.0
          c.segments_meeting-found.ensures b.loop-i.invariant.1,
    )
