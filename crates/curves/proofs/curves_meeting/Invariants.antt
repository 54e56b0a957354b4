-- `curves::curves_meeting` meets its contract: the graver of what was found and of what the segments from point i on do
-- is the whole. Assumes nothing.
use mathlib.Core.Path.{◌≡◌}
use mathlib.Core.List.{List, map}
use Prim.Native.Nat.{◌-◌, ◌≤◌}
use lib.IntN.{ℤ}
use Rattle.plane.specs.declared.Contact.{Contact}
use Rattle.plane.specs.Below.{Segment}
use Rattle.curves.specs.declared.Shares.{Shares}
use Rattle.curves.specs.Curves.{segments, curve_of}
use Rattle.curves.specs.Tests.{seg_meeting, graver, gravest, meeting}
use Rattle.curves.specs.Shares.{shareable}
use Rattle.curves.proofs.Turns.{segments_from}
use Rattle.curves.proofs.curves_meeting.Given as goal

-- how a segment meets the curve of the run
abbrev pub with : Shares → List ℤ → Segment → Contact
with l d s = gravest (map (λ t. seg_meeting (shareable l) s.from s.to t.from t.to) (segments (curve_of d)))

abbrev pub invariant-loop-i : goal.invariant-loop-i
invariant-loop-i v =
    (v.i ≤ v.n) × (graver v.found (gravest (map (with v.l v.d) (segments_from v.c v.i))) ≡ meeting (curve_of v.c) (curve_of v.d))

abbrev pub decreases-loop-i : goal.decreases-loop-i
decreases-loop-i v = v.n - v.i
