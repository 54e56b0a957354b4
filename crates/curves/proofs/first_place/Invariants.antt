-- `curves::first_place` meets its contract: the first place from point i on is the first place. Assumes nothing.
use mathlib.Core.Path.{◌≡◌}
use Prim.Native.Nat.{◌-◌, ◌≤◌}
use Rattle.lists.specs.Tables.{place}
use Rattle.curves.specs.Curves.{curve_of}
use Rattle.curves.specs.Tests.{first_place}
use Rattle.curves.proofs.Turns.{on, segments_from}
use Rattle.curves.proofs.first_place.Given as goal

abbrev pub invariant-loop-i : goal.invariant-loop-i
invariant-loop-i l = (l.i ≤ l.n) × (place (on l.p) l.i (segments_from l.c l.i) ≡ first_place (curve_of l.c) l.p)

abbrev pub decreases-loop-i : goal.decreases-loop-i
decreases-loop-i l = l.n - l.i
