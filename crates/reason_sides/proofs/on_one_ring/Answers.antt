-- `reason_sides::on_one_ring` meets its contract: where two faces lie beside the edge its sides are two rings. Assumes
-- nothing.
use mathlib.Core.Path.{sym, ◌∙◌}
use Prim.Native.Nat.{◌+◌, ◌*◌, ◌<◌}
use native.Mathlib.Omega.{arith}
use Rattle.map_rows.proofs.Rows.{edge-row_of}
use Rattle.head.proofs.Words.{edges_natural, edges_read}
use Rattle.outcomes.proofs.Formed.{counted}
use Rattle.reason_sides.proofs.Sides.{ended, two_faces}
use Rattle.reason_sides.proofs.on_one_ring.Goals as goal

few : (s : goal.Then-one_face) → s.args.i * 2 + 1 < 4000
few s = omega (arith, s.requires.1, (ended s.requires.0).few_edges)

pub on_ring-requires : goal.on_ring-requires
on_ring-requires c =
    let s = c in
    let n = edges_read (counted s.requires.0) c.to_usize.ensures in
    let t = ended s.requires.0 in
    (rw n t.few_edges, rw n (omega (arith, s.requires.1)), rw n (omega (arith, s.requires.1)))

pub invariant_of-drawn : goal.invariant_of-drawn
invariant_of-drawn c = record {
  ranged = rw (edges_read (counted c.requires.0) c.to_usize.ensures) (ended c.requires.0).edges;
}

pub one_face-requires : goal.one_face-requires
one_face-requires c = edge-row_of (ended c.requires.0).edges c.args.i c.requires.1

pub to_usize-requires : goal.to_usize-requires
to_usize-requires c = edges_natural (counted c.requires.0)

pub overflow_mul-i : goal.overflow_mul-i
overflow_mul-i c = omega (arith, few c)

pub overflow_mul-i-then-one_face : goal.overflow_mul-i-then-one_face
overflow_mul-i-then-one_face c = omega (arith, few c)

pub overflow_add-i : goal.overflow_add-i
overflow_add-i c = omega (arith, few c)

pub returns-then-one_face : goal.returns-then-one_face
returns-then-one_face c = rw (edges_read (counted c.requires.0) c.to_usize.ensures) at c.on_ring.ensures

pub returns-else-one_face : goal.returns-else-one_face
returns-else-one_face c =
    c.if-one_face.false ∙ sym (two_faces c.requires.0 c.args.i c.requires.1 (sym c.if-one_face.ensures))
