-- `face_relabel::share_nodes` meets its contract: a sweep of the rows left, which are as they were, from what those
-- passed left, is the sweep of all. Assumes nothing.
use borrow.Author.Rules.{sfits_of}
use mathlib.Core.Path.{◌≡◌, refl, sym, ap, ◌∙◌}
use mathlib.Core.List.{List}
use Prim.Native.Nat.{◌+◌, ◌*◌, ◌-◌}
use native.Mathlib.Nat.{sub-zero}
use native.Mathlib.Omega.{arith}
use lib.IntN.{ℤ, pos}
use lib.ListN.{length, get_or}
use mir.Syntax.{w64}
use mir.Val.{to_z, of_z, SFits}
use Rattle.integers.specs.Signs.{sent}
use Rattle.lists.specs.Tables.{sweep}
use Rattle.lists.proofs.Scans.{sweep_step, sweep-end}
use Rattle.tables.proofs.Order.{word_is}
use Rattle.map_rows.proofs.Rows.{node-row_of}
use Rattle.face_relabel.specs.Sharing.{node_shared}
use Rattle.face_relabel.proofs.Faces.{row_kept, node_hit, node_miss, node-length, node_kept}
use Rattle.face_relabel.proofs.share_nodes.Goals as goal
use Rattle.face_relabel.proofs.share_nodes.Goals.{then-nodes-i, else-nodes-i}

pub loop-i-init : goal.loop-i-init
loop-i-init c = (omega arith, refl, (λ j h. refl), rw sub-zero)

-- row i lies in the table
pub overflow_mul-i : goal.overflow_mul-i
overflow_mul-i c = omega (arith, c.requires.nodes.fits, c.loop-i-test.true)

pub overflow_add-i : goal.overflow_add-i
overflow_add-i c = omega (arith, c.requires.nodes.fits, c.loop-i-test.true)

pub offset_bounds-nodes-i : goal.offset_bounds-nodes-i
offset_bounds-nodes-i c = omega (arith, c.requires.nodes.fits, c.loop-i-test.true)

pub slice_copy_out-t-14 : goal.slice_copy_out-t-14
slice_copy_out-t-14 c = omega (arith, c.requires.nodes.fits, c.loop-i-test.true, c.loop-i.invariant.1)

pub node_point-requires : goal.node_point-requires
node_point-requires c =
    let t = c in
    let w = t.loop-i in
    let s = t in
    row_kept s.args.nodes.now w.nodes w.i w.invariant.2 w.invariant.1
    (node-row_of s.requires.nodes w.i t.loop-i-test.true)

pub side_of-side-requires : goal.side_of-side-requires
side_of-side-requires c =
    let s = c in
    (s.requires.few, s.requires.ring, c.node_point.ensures.1)

pub overflow_mul-side : goal.overflow_mul-side
overflow_mul-side c = let t = c in
    omega (arith, t.requires.nodes.fits, t.loop-i-test.true)

pub overflow_add-side : goal.overflow_add-side
overflow_add-side c = let t = c in
    omega (arith, t.requires.nodes.fits, t.loop-i-test.true)

pub offset_bounds-nodes-i-then-nodes-i : goal.offset_bounds-nodes-i-then-nodes-i
offset_bounds-nodes-i-then-nodes-i c = let t = c in
    omega (arith, t.requires.nodes.fits, t.loop-i-test.true)

pub bounds-nodes-i : goal.bounds-nodes-i
bounds-nodes-i c = let t = c in
    omega (arith, t.requires.nodes.fits, t.loop-i-test.true, t.loop-i.invariant.1)

pub loop-i-preserved : goal.loop-i-preserved
loop-i-preserved c =
    let b = c in
    let t = b in
    let w = t.loop-i in
    let s = t in
    let a = s.args in
    let fits-old : SFits w64 a.s.old = sfits_of c.struct_told-1.given.0.1 in
    let fits-z : SFits w64 (get_or w.nodes (w.i * 4 + 3) (pos 0)) = sfits_of b.t14-1.given in
    let turn : c.if-nodes-i.nodes ≡ node_shared a.nodes.now a.n a.edges.now a.count a.s w.nodes w.i =
    elim c.if-nodes-i.branch [
      | then-nodes-i x ↦
          let q = x.node_point in
          let side = x.side_of-side in
          x.nodes-is
          ∙ node_hit a.nodes.now a.n a.edges.now a.count a.s s.requires w.nodes w.i
          (word_is fits-z fits-old x.if-nodes-i.true) w.invariant.2 q.result q.ensures.0 (to_z w64 (of_z w64 side.result))
          (sent {z = side.result} side.type_inv ∙ side.ensures)
      | else-nodes-i x ↦ x.nodes-is ∙ node_miss a.nodes.now a.n a.edges.now a.count a.s s.requires w.nodes w.i
          (λ e. x.if-nodes-i.false (ap (of_z w64) e))
    ] in (
      omega (arith, t.loop-i-test.true),
      ap length turn ∙ node-length a.nodes.now a.n a.edges.now a.count a.s s.requires w.nodes w.i
          ∙ w.invariant.1,
      (λ j h. ap (λ (l : List ℤ). get_or l j (pos 0)) turn
          ∙ node_kept a.nodes.now a.n a.edges.now a.count a.s s.requires w.nodes w.i j
          (omega arith) ∙ w.invariant.2 j (omega arith)),
      ap (λ (l : List ℤ). sweep (node_shared a.nodes.now a.n a.edges.now a.count a.s) l (w.i + 1)
          (a.n - (w.i + 1))) turn
          ∙ sym (sweep_step (node_shared a.nodes.now a.n a.edges.now a.count a.s) w.nodes w.i
          a.n t.loop-i-test.true)
          ∙ w.invariant.3,
    )

pub returns : goal.returns
returns c = sym (sweep-end _ _ _ _ c.loop-i-test.false) ∙ c.loop-i.invariant.3

pub shape_of-nodes : goal.shape_of-nodes
shape_of-nodes c = c.loop-i.invariant.1
