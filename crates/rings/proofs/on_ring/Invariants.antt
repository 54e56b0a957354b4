-- `rings::on_ring` meets its contract: what is left of the ring meets the position if the ring does. Assumes nothing.
use mathlib.Core.Path.{◌≡◌}
use Prim.Native.Nat.{◌*◌, ◌-◌, ◌<◌}
use Rattle.map.specs.Darts.{among}
use Rattle.darts.specs.Positions.{dart_at}
use Rattle.rings.proofs.Walks.{steps, ring_at}
use Rattle.rings.proofs.on_ring.Given as goal

abbrev pub invariant-loop-k : goal.invariant-loop-k
invariant-loop-k l =
    let rows = l.edges.rows.now in
    let n = l.edges.count in
    (l.c < n * 2)
    × (among (steps rows n l.p (n * 2 - l.k) l.c) (dart_at rows l.q) ≡ among (ring_at rows n l.p) (dart_at rows l.q))

abbrev pub decreases-loop-k : goal.decreases-loop-k
decreases-loop-k l = l.k-end - l.k
