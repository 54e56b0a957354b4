-- `rings::ring_area` meets its contract: the sum, with the area of what is left of the ring, is the ring's; it is at
-- most a curve's greatest area for each step. Assumes nothing.
use mathlib.Core.Path.{◌≡◌}
use Prim.Native.Nat.{◌*◌, ◌-◌, ◌<◌, ◌≤◌}
use lib.IntN.{◌+ℤ◌}
use Rattle.rings.proofs.Walks.{steps, ring_at}
use Rattle.rings.proofs.Reversed.{Within, curve_most}
use Rattle.rings.proofs.Sums.{area_left}
use Rattle.rings.proofs.ring_area.Given as goal

abbrev pub invariant-loop-k : goal.invariant-loop-k
invariant-loop-k l =
    let rows = l.edges.rows.now in
    let n = l.edges.count in
    (l.c < n * 2) × (l.k ≤ n * 2) × Within (curve_most * l.k) l.sum
    × (l.sum +ℤ area_left rows n (steps rows n l.p (n * 2 - l.k) l.c)
    ≡ area_left rows n (ring_at rows n l.p))

abbrev pub decreases-loop-k : goal.decreases-loop-k
decreases-loop-k l = l.k-end - l.k
