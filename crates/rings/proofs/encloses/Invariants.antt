-- `rings::encloses` meets its contract: what is counted, with what is left of the ring, is the ring's. Assumes nothing.
use mathlib.Core.Path.{◌≡◌}
use Prim.Native.Nat.{◌*◌, ◌-◌, ◌<◌}
use Rattle.lists.specs.Tests.{◌⊕◌}
use Rattle.rings.proofs.Walks.{steps, ring_at}
use Rattle.rings.proofs.Sums.{odd_left}
use Rattle.rings.proofs.encloses.Given as goal

abbrev pub invariant-loop-k : goal.invariant-loop-k
invariant-loop-k l =
    let rows = l.edges.rows.now in
    let n = l.edges.count in
    (l.c < n * 2) × (l.odd ⊕ odd_left rows n l.q (steps rows n l.p (n * 2 - l.k) l.c)
    ≡ odd_left rows n l.q (ring_at rows n l.p))

abbrev pub decreases-loop-k : goal.decreases-loop-k
decreases-loop-k l = l.k-end - l.k
