-- `rings::is_lowest` meets its contract: what was passed is not lower, and what is left of the ring has a lower one
-- where the ring has. Assumes nothing.
use mathlib.Core.Path.{◌≡◌}
use Prim.Native.Nat.{◌*◌, ◌-◌, ◌<◌, ◌≤◌}
use Rattle.rings.proofs.Walks.{steps, ring_at}
use Rattle.rings.proofs.Lowest.{any_lower}
use Rattle.rings.proofs.is_lowest.Given as goal

abbrev pub invariant-loop-k : goal.invariant-loop-k
invariant-loop-k l =
    let rows = l.edges.rows.now in
    let n = l.edges.count in
    (l.c < n * 2) × (l.p ≤ l.c) × (l.k < n * 2)
    × (any_lower rows l.p (steps rows n l.p (n * 2 - l.k) l.c) ≡ any_lower rows l.p (ring_at rows n l.p))

abbrev pub decreases-loop-k : goal.decreases-loop-k
decreases-loop-k l = l.k-end - l.k
