-- `curves::neighbours_differ` meets its contract: neighbours differ from point i on if and only if they differ. Assumes
-- nothing.
use mathlib.Core.Path.{◌≡◌}
use Prim.Native.Nat.{◌+◌, ◌-◌, ◌≤◌}
use Rattle.curves.specs.Curves.{point_at, points_from, curve_of}
use Rattle.curves.specs.Tests.{differs, neighbours_differ}
use Rattle.curves.proofs.neighbours_differ.Given as goal

abbrev pub invariant-loop-i : goal.invariant-loop-i
invariant-loop-i l = (l.i ≤ l.n) × (differs (point_at l.c l.i) (points_from l.c (l.i + 1)) ≡ neighbours_differ (curve_of l.c))

abbrev pub decreases-loop-i : goal.decreases-loop-i
decreases-loop-i l = l.n - l.i
