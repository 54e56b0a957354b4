-- `curves::first_place` meets its contract: the first place from point i on is the first place. Assumes nothing.
use mathlib.Core.Path.{sym, ◌∙◌}
use native.Mathlib.Omega.{arith}
use Rattle.plane.specs.Segments.{on_segment}
use Rattle.curves.proofs.Runs.{curve_is}
use Rattle.curves.proofs.Turns.{asked, place_miss}
use Rattle.curves.proofs.first_place.Goals as goal

pub loop-i-init : goal.loop-i-init
loop-i-init c = (omega arith, rw (curve_is c.requires.0))

pub loop-i-preserved : goal.loop-i-preserved
loop-i-preserved c =
    let s = c in
    let e = asked (on_segment s.args.p) c.point_at.ensures.0
    c.point_at-in-loop-i.ensures.0 c.on_segment.ensures c.if-on_segment.false in (
      omega arith,
      sym (place_miss s.args.c.now _ s.segment_count-n.ensures.0
          c.loop-i-test.true s.args.p e)
          ∙ c.loop-i.invariant.1,
    )
