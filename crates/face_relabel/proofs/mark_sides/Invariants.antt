-- `face_relabel::mark_sides` meets its contract: positions below p are visited, and rings are marked whole. Assumes
-- nothing.
use Prim.Native.Nat.{◌*◌, ◌-◌, ◌≤◌}
use Rattle.face_relabel.proofs.Marks.{Marking}
use Rattle.face_relabel.proofs.mark_sides.Given as goal

abbrev pub invariant-loop-p : goal.invariant-loop-p
invariant-loop-p l =
    let rows = l.edges.rows.now in
    (l.p ≤ l.edges.count * 2)
    × Marking rows l.edges.count l.nodes.rows.now l.nodes.count l.s.ring l.s.old l.initial.marks l.marks l.p

abbrev pub decreases-loop-p : goal.decreases-loop-p
decreases-loop-p l = l.p-end - l.p
