-- `rectangles::boundary_boxes` meets its contract: each box, widened by the points of the edges left, is that of the
-- whole boundary. Assumes nothing.
use Prim.Native.Nat.{◌-◌, ◌≤◌}
use lib.IntN.{nat_abs}
use Rattle.rectangles.proofs.Boundaries.{Rest}
use Rattle.rectangles.proofs.boundary_boxes.Given as goal

abbrev pub invariant-loop-i : goal.invariant-loop-i
invariant-loop-i l =
    (l.i ≤ l.count) × Rest l.edges l.count (nat_abs l.a) l.i l.first × Rest l.edges l.count (nat_abs l.b) l.i l.second

abbrev pub decreases-loop-i : goal.decreases-loop-i
decreases-loop-i l = l.count - l.i
