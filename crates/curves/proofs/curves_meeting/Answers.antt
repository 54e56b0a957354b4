-- `curves::curves_meeting` meets its contract: the graver of what was found and of what the segments from point i on do
-- is the whole. Assumes nothing.
use mathlib.Core.Path.{ap, ◌∙◌}
use mathlib.Core.List.{List, map}
use native.Mathlib.Omega.{arith}
use Rattle.curves.specs.Curves.{segments, curve_of}
use Rattle.curves.specs.Tests.{seg_meeting, gravest, meeting}
use Rattle.curves.specs.Shares.{shareable}
use Rattle.curves.proofs.Runs.{curve_is}
use Rattle.curves.proofs.Turns.{segments_from, meeting_again}
use Rattle.curves.proofs.curves_meeting.Invariants.{with}
use mathlib.Core.List.{List}
use Rattle.plane.specs.declared.Point.{Point}
use Rattle.curves.specs.Curves.{segments}
use Rattle.curves.specs.Tests.{seg_meeting}
use Rattle.curves.proofs.Turns.{shareable_ends}
use Rattle.curves.proofs.curves_meeting.Goals as goal

pub loop-i-init : goal.loop-i-init
unfolding meeting
loop-i-init c =
    let a = c.args in (
      omega arith,
      ap (λ (k : List Point).
          gravest (map (λ s. gravest (map (λ t. seg_meeting k s.from s.to t.from t.to) (segments (curve_of a.d.now))))
          (segments_from a.c.now 0)))
          (ap shareable c.common_ends-l.ensures.0 ∙ shareable_ends (curve_of a.c.now) (curve_of a.d.now))
          ∙ rw (curve_is c.requires.0),
    )

pub loop-i-preserved : goal.loop-i-preserved
loop-i-preserved c =
    let b = c in
    let a = b.args in (
      omega arith,
      meeting_again a.c.now _ b.segment_count-n.ensures.0
          c.loop-i-test.true
          (with b.common_ends-l.result a.d.now) b.loop-i.found
          c.point_at.ensures.0 c.point_at-in-loop-i.ensures.0
          c.segment_meeting-found.ensures b.loop-i.invariant.1,
    )
