-- `rings::mark_ring` meets its contract: the marks that are set, with those of what is left of the ring, are those of
-- the ring. Assumes nothing.
use mathlib.Core.Path.{◌≡◌}
use mathlib.Core.Bool.{cond}
use Prim.Native.Nat.{ℕ, ◌+◌, ◌*◌, ◌-◌, ◌<◌, ◌≤◌}
use lib.ListN.{length, get_or, drop}
use Rattle.map.specs.Darts.{among}
use Rattle.darts.specs.Positions.{dart_at}
use Rattle.rings.proofs.Walks.{steps, ring_at}
use Rattle.rings.proofs.mark_ring.Given as goal

abbrev pub invariant-loop-k : goal.invariant-loop-k
invariant-loop-k l =
    let rows = l.edges.rows.now in
    let n = l.edges.count in
    (l.c < n * 2) × (l.k ≤ n * 2) × (length l.marks ≡ length l.initial.marks)
    × (l.k + length (steps rows n l.p (n * 2 - l.k) l.c) ≡ length (ring_at rows n l.p))
    × ((q : ℕ) → q < n * 2 → cond (among (steps rows n l.p (n * 2 - l.k) l.c) (dart_at rows q)) l.v
    (get_or l.marks q 0) ≡ cond (among (ring_at rows n l.p) (dart_at rows q)) l.v (get_or l.initial.marks q 0))
    × (drop (n * 2) l.marks ≡ drop (n * 2) l.initial.marks)

abbrev pub decreases-loop-k : goal.decreases-loop-k
decreases-loop-k l = l.k-end - l.k
