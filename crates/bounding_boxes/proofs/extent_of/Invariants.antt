-- `bounding_boxes::extent_of` meets its contract: the extent, widened by the points from i on, is that of the curve.
-- Assumes nothing.
use mathlib.Core.Path.{◌≡◌}
use Prim.Native.Nat.{◌-◌, ◌≤◌}
use Rattle.lists.specs.Scans.{fold}
use Rattle.curves.specs.Curves.{points_from, curve_of}
use Rattle.bounding_boxes.specs.Extents.{widen, extent_of}
use Rattle.bounding_boxes.proofs.extent_of.Given as goal

abbrev pub invariant-loop-i : goal.invariant-loop-i
invariant-loop-i l = (l.i ≤ l.n) × (fold widen l.e (points_from l.c l.i) ≡ extent_of (curve_of l.c))

abbrev pub decreases-loop-i : goal.decreases-loop-i
decreases-loop-i l = l.n - l.i
