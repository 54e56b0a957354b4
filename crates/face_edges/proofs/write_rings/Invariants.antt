-- `face_edges::write_rings` meets its contract: what is written, and what is left, make up the whole. Assumes nothing.
use mathlib.Core.Path.{◌≡◌}
use Prim.Native.Nat.{◌*◌, ◌-◌, ◌≤◌}
use lib.ListN.{length, drop}
use lib.Seq.{paste}
use Rattle.face_edges.specs.Listing.{Marked, left}
use Rattle.face_edges.proofs.write_rings.Given as goal

abbrev pub invariant-loop-p : goal.invariant-loop-p
invariant-loop-p l =
    let rows = l.edges.rows.now in
    let n = l.edges.count in
    (l.p ≤ n * 2) × (l.at ≤ length (left rows n l.face 0)) × (length l.list ≡ length l.initial.list)
    × (l.list ≡ paste l.initial.list 0 (left rows n l.face 0) l.at)
    × (drop l.at (left rows n l.face 0) ≡ left rows n l.face l.p) × Marked rows n l.face l.p l.marks

abbrev pub decreases-loop-p : goal.decreases-loop-p
decreases-loop-p l = l.p-end - l.p
