-- `face_edges::rings_size` meets its contract: the size, and what is left, make up the whole. Assumes nothing.
use mathlib.Core.Path.{◌≡◌}
use Prim.Native.Nat.{◌+◌, ◌*◌, ◌-◌, ◌≤◌}
use lib.ListN.{length}
use Rattle.face_edges.specs.Listing.{Marked, left}
use Rattle.face_edges.proofs.rings_size.Given as goal

abbrev pub invariant-loop-p : goal.invariant-loop-p
invariant-loop-p l =
    let rows = l.edges.rows.now in
    let n = l.edges.count in
    (l.p ≤ n * 2)
    × (l.size + length (left rows n l.face l.p) ≡ length (left rows n l.face 0)) × (l.size ≤ l.p * 4001)
    × Marked rows n l.face l.p l.marks

abbrev pub decreases-loop-p : goal.decreases-loop-p
decreases-loop-p l = l.p-end - l.p
