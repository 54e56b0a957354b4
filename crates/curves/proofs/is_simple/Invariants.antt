-- `curves::is_simple` meets its contract: once the first segment is clear of the others, the rest from point i on is an
-- arc if and only if the curve is simple. Assumes nothing.
use mathlib.Core.Path.{◌≡◌}
use Prim.Native.Nat.{◌+◌, ◌-◌, ◌≤◌}
use Rattle.curves.specs.Curves.{point_at, points_from, curve_of}
use Rattle.curves.specs.Tests.{arc, is_simple}
use Rattle.curves.proofs.is_simple.Given as goal

abbrev pub invariant-loop-i : goal.invariant-loop-i
invariant-loop-i l = (l.i ≤ l.n) × (arc (point_at l.c l.i) (points_from l.c (l.i + 1)) ≡ is_simple (curve_of l.c))

abbrev pub decreases-loop-i : goal.decreases-loop-i
decreases-loop-i l = l.n - l.i
