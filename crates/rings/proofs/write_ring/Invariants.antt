-- `rings::write_ring` meets its contract: k numbers of the ring are written, and c is the next of it. Assumes nothing.
use mathlib.Core.Path.{◌≡◌}
use mathlib.Core.List.{map}
use Prim.Native.Nat.{◌*◌, ◌-◌, ◌<◌, ◌≤◌}
use lib.ListN.{length, drop}
use lib.Seq.{paste}
use Rattle.map.specs.Rows.{dart_cell}
use Rattle.rings.proofs.Walks.{steps, cells}
use Rattle.rings.proofs.write_ring.Given as goal

abbrev pub invariant-loop-k : goal.invariant-loop-k
invariant-loop-k l =
    let rows = l.edges.rows.now in
    let n = l.edges.count in
    (l.c < n * 2) × (l.k ≤ l.n) × (length l.list ≡ length l.initial.list)
    × (l.list ≡ paste l.initial.list l.at (cells rows n l.p) l.k)
    × (l.k < l.n → drop l.k (cells rows n l.p) ≡ map dart_cell (steps rows n l.p (n * 2 - l.k) l.c))

abbrev pub decreases-loop-k : goal.decreases-loop-k
decreases-loop-k l = l.n - l.k
