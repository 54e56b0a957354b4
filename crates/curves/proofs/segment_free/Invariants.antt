-- `curves::segment_free` meets its contract: the segments from point j on are free of segment i if and only if those
-- from point i + 2 on are. Assumes nothing.
use mathlib.Core.Path.{◌≡◌}
use mathlib.Core.List.{[]}
use Prim.Native.Nat.{◌+◌, ◌-◌, ◌≤◌}
use Rattle.curves.specs.Curves.{point_at, points_from}
use Rattle.curves.specs.Tests.{may_share, free}
use Rattle.curves.proofs.segment_free.Given as goal

abbrev pub invariant-loop-j : goal.invariant-loop-j
invariant-loop-j l =
    (l.j ≤ l.n) × (free (may_share l.closed l.end []) l.a l.b (point_at l.c l.j) (points_from l.c (l.j + 1))
    ≡ free (may_share l.closed (point_at l.c 0) []) (point_at l.c l.i) (point_at l.c (l.i + 1)) (point_at l.c (l.i + 2))
    (points_from l.c (l.i + 3)))

abbrev pub decreases-loop-j : goal.decreases-loop-j
decreases-loop-j l = l.n - l.j
