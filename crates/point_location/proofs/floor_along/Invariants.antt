-- `point_location::floor_along` meets its contract: the segments from point k on, from the highest so far, are all
-- segments from the first. Assumes nothing.
use mathlib.Core.Path.{◌≡◌}
use Rattle.std.specs.Prelude.{IfSome}
use Prim.Native.Nat.{◌-◌, ◌≤◌}
use Rattle.lists.specs.Scans.{fold}
use Rattle.curves.specs.Curves.{curve_of, segments}
use Rattle.curves.proofs.Turns.{segments_from}
use Rattle.point_location.specs.Highest.{HighestFits, highest_floor, passed}
use Rattle.point_location.proofs.floor_along.Given as goal

abbrev pub invariant-loop-k : goal.invariant-loop-k
invariant-loop-k l =
    (l.k ≤ l.n) × IfSome l.best HighestFits × (fold (passed l.p l.left l.right) (highest_floor l.best) (segments_from l.c l.k)
    ≡ fold (passed l.p l.left l.right) (highest_floor l.initial.best) (segments (curve_of l.c)))

abbrev pub decreases-loop-k : goal.decreases-loop-k
decreases-loop-k l = l.n - l.k
