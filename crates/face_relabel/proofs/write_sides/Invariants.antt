-- `face_relabel::write_sides` meets its contract: a sweep of the positions left, from what those passed left, is the
-- sweep of all. Assumes nothing.
use mathlib.Core.Path.{◌≡◌}
use Prim.Native.Nat.{◌*◌, ◌-◌, ◌≤◌}
use lib.ListN.{length}
use Rattle.lists.specs.Tables.{sweep}
use Rattle.face_relabel.specs.Sharing.{side_shared}
use Rattle.face_relabel.proofs.write_sides.Given as goal

abbrev pub invariant-loop-p : goal.invariant-loop-p
invariant-loop-p l =
    (l.p ≤ l.count * 2) × (length l.edges ≡ length l.initial.edges)
    × (sweep (side_shared l.s l.marks) l.edges l.p (l.count * 2 - l.p) ≡ sweep (side_shared l.s l.marks) l.initial.edges 0 (l.count * 2))

abbrev pub decreases-loop-p : goal.decreases-loop-p
decreases-loop-p l = l.p-end - l.p
