-- `face_relabel::write_sides` meets its contract: a sweep of the positions left, from what those passed left, is the
-- sweep of all. Assumes nothing.
use borrow.Author.Rules.{sfits_of}
use mathlib.Core.Path.{◌≡◌, refl, sym, ap, ◌∙◌}
use mathlib.Core.List.{List}
use Prim.Native.Nat.{◌+◌, ◌*◌, ◌-◌, ◌/◌, ◌≤◌}
use native.Mathlib.Nat.{sub-zero}
use native.Mathlib.Omega.{arith}
use lib.IntN.{ℤ}
use lib.ListN.{length}
use mir.Syntax.{w64}
use mir.Val.{to_z, of_z, SFits}
use Rattle.integers.specs.Signs.{sent}
use Rattle.lists.specs.Tests.{same}
use Rattle.lists.specs.Tables.{sweep}
use Rattle.lists.proofs.Scans.{sweep_step, sweep-end}
use Rattle.tables.proofs.Order.{word_is}
use Rattle.face_relabel.specs.Sharing.{side_shared}
use Rattle.face_relabel.proofs.Faces.{side_hit, side_miss, side_length}
use Rattle.face_relabel.proofs.write_sides.Goals as goal
use Rattle.face_relabel.proofs.write_sides.Goals.{then-dart_cell-s, else-dart_cell-s}

pub overflow_mul-p-end : goal.overflow_mul-p-end
overflow_mul-p-end c = omega (arith, c.requires.0)

pub loop-p-init : goal.loop-p-init
loop-p-init c = (omega arith, refl, rw sub-zero)

pub dart_cell-requires : goal.dart_cell-requires
dart_cell-requires c =
    let w = c.loop-p in
    let s = c in
    let h : w.p / 2 * 32 + 32 ≤ length w.edges = omega (arith, s.requires.0, w.invariant.1, c.loop-p-test.true) in
    (h, omega arith)

pub offset_bounds-marks-p : goal.offset_bounds-marks-p
offset_bounds-marks-p c =
    let t = c in
    omega (arith, t.requires.0, t.loop-p-test.true)

pub bounds-marks-p : goal.bounds-marks-p
bounds-marks-p c =
    let t = c in
    omega (arith, t.requires.1, t.loop-p-test.true)

pub set_dart_cell-requires : goal.set_dart_cell-requires
set_dart_cell-requires c =
    let t = c in
    let w = t.loop-p in
    let s = t in
    let h : w.p / 2 * 32 + 32 ≤ length w.edges = omega (arith, s.requires.0, w.invariant.1, t.loop-p-test.true) in
    (h, omega arith)

pub loop-p-preserved : goal.loop-p-preserved
unfolding same
loop-p-preserved c =
    let d = c in
    let t = d in
    let w = t.loop-p in
    let a = t.args in
    let fits-old : SFits w64 a.s.old = sfits_of c.struct_told-1.given.0.1 in
    let cell = d.dart_cell in
    let turn : c.if-dart_cell-s.edges ≡ side_shared a.s a.marks.now w.edges w.p =
    elim c.if-dart_cell-s.branch [
      | then-dart_cell-s x ↦
          let num = x.number in
          x.edges-is ∙ x.set_dart_cell.ensures
          ∙ side_hit a.s a.marks.now w.edges w.p
          (sym cell.ensures ∙ word_is (sfits_of cell.type_inv) fits-old x.if-dart_cell-s.true) (to_z w64 (of_z w64 num.result))
          (sent {z = num.result} num.type_inv ∙ num.ensures)
      | else-dart_cell-s x ↦ x.edges-is ∙ side_miss a.s a.marks.now w.edges w.p
          (λ e. x.if-dart_cell-s.false (ap (of_z w64) (cell.ensures ∙ e)))
    ] in (
      omega (arith, t.loop-p-test.true),
      ap length turn ∙ side_length a.s a.marks.now w.edges w.p ∙ w.invariant.1,
      ap (λ (l : List ℤ). sweep (side_shared a.s a.marks.now) l (w.p + 1) (a.count * 2 - (w.p + 1))) turn
          ∙ sym (sweep_step (side_shared a.s a.marks.now) w.edges w.p (a.count * 2) t.loop-p-test.true)
          ∙ w.invariant.2,
    )

pub returns : goal.returns
returns c = sym (sweep-end _ _ _ _ c.loop-p-test.false) ∙ c.loop-p.invariant.2

pub shape_of-edges : goal.shape_of-edges
shape_of-edges c = c.loop-p.invariant.1
