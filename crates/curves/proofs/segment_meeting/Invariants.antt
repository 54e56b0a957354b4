-- `curves::segment_meeting` meets its contract: the graver of what was found and of what the segments from point i on
-- do is the whole. Assumes nothing.
use mathlib.Core.Path.{◌≡◌}
use mathlib.Core.List.{map}
use Prim.Native.Nat.{◌-◌, ◌≤◌}
use Rattle.plane.specs.declared.Point.{Point}
use Rattle.plane.specs.declared.Contact.{Contact}
use Rattle.plane.specs.Below.{Segment}
use Rattle.curves.specs.declared.Shares.{Shares}
use Rattle.curves.specs.Curves.{segments, curve_of}
use Rattle.curves.specs.Tests.{seg_meeting, graver, gravest}
use Rattle.curves.specs.Shares.{shareable}
use Rattle.curves.proofs.Turns.{segments_from}
use Rattle.curves.proofs.segment_meeting.Given as goal

-- how the segment a b meets one of the curve
abbrev pub with : Shares → Point → Point → Segment → Contact
with l a b t = seg_meeting (shareable l) a b t.from t.to

abbrev pub invariant-loop-i : goal.invariant-loop-i
invariant-loop-i v =
    (v.i ≤ v.n) × (graver v.found (gravest (map (with v.l v.a v.b) (segments_from v.c v.i)))
    ≡ graver v.initial.found (gravest (map (with v.l v.a v.b) (segments (curve_of v.c)))))

abbrev pub decreases-loop-i : goal.decreases-loop-i
decreases-loop-i v = v.n - v.i
