-- `curves::area_of` meets its contract: the difference of the two sums and the area of the segments left add up to the
-- area, and each sum is at most a product of coordinates for each segment passed. Assumes nothing.
use mathlib.Core.Path.{◌≡◌}
use Prim.Native.Nat.{◌*◌, ◌-◌, ◌≤◌}
use lib.IntN.{pos, ◌+ℤ◌, ◌-ℤ◌}
use Rattle.curves.specs.Curves.{curve_of}
use Rattle.curves.specs.Measures.{curve_area}
use Rattle.curves.proofs.Areas.{area_from}
use Rattle.curves.proofs.area_of.Given as goal

abbrev pub invariant-loop-i : goal.invariant-loop-i
invariant-loop-i l =
    (l.i ≤ l.n) × (l.plus ≤ 1099509530625 * l.i) × (l.minus ≤ 1099509530625 * l.i)
    × (pos l.plus -ℤ pos l.minus +ℤ area_from l.c l.i ≡ curve_area (curve_of l.c))

abbrev pub decreases-loop-i : goal.decreases-loop-i
decreases-loop-i l = l.n - l.i
