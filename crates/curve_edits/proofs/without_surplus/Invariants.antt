-- `curve_edits::without_surplus` meets its contract: what is left of the points before point i is in the line. Assumes
-- nothing.
use Prim.Native.Nat.{◌-◌, ◌≤◌}
use Rattle.curve_edits.proofs.Curves.{LeftSoFar}
use Rattle.curve_edits.proofs.without_surplus.Given as goal

abbrev pub invariant-loop-i : goal.invariant-loop-i
invariant-loop-i l = (1 ≤ l.i) × (l.i ≤ l.last) × LeftSoFar l.c l.i l.out

abbrev pub decreases-loop-i : goal.decreases-loop-i
decreases-loop-i l = l.last - l.i
