-- `face_relabel::mark_sides` meets its contract: positions below p are visited, and rings are marked whole. Assumes
-- nothing.
use borrow.Author.Rules.{sfits_of}
use mathlib.Core.Path.{sym, ap, ◌∙◌, subst}
use mathlib.Core.Bool.{Bool, cond, ◌&&◌}
use mathlib.Core.Logic.{inl, inr}
use mathlib.Core.List.{List}
use Prim.Native.Nat.{ℕ, ◌+◌, ◌*◌, ◌/◌, ◌≤◌}
use native.Mathlib.Omega.{arith}
use lib.Dec.{eqb}
use lib.ListN.{length, get_or}
use mir.Syntax.{w64}
use mir.Val.{of_z, SFits}
use borrow.Author.Tests.{eqb-true, eqb-false}
use Rattle.lists.proofs.Bools.{which}
use Rattle.curves.proofs.Runs.{and_left, and_right}
use Rattle.tables.proofs.Order.{word_is}
use Rattle.rings.proofs.Marks.{marked_places}
use Rattle.face_relabel.proofs.Marks.{Marking, marking_start, marking_other, marking_marked, marking_ring}
use Rattle.face_relabel.proofs.mark_sides.Goals as goal
use Rattle.face_relabel.proofs.mark_sides.Goals.{then-dart_cell-s, else-dart_cell-s}

pub overflow_mul-p-end : goal.overflow_mul-p-end
overflow_mul-p-end c = omega (arith, c.requires.0.few)

pub loop-p-init : goal.loop-p-init
loop-p-init c =
    let a = c.args in
    let h = c.requires in (
      omega arith,
      marking_start h.0.edges h.1 a.nodes.rows.now a.nodes.count a.s.ring a.s.old a.marks.now
          h.2,
    )

pub dart_cell-requires : goal.dart_cell-requires
dart_cell-requires c =
    let w = c.loop-p in
    let s = c in
    let h : w.p / 2 * 32 + 32 ≤ length s.args.edges.rows.now =
    omega (arith, s.requires.0.edges.fits, c.loop-p-test.true) in
    (h, omega arith)

pub offset_bounds-marks-p : goal.offset_bounds-marks-p
offset_bounds-marks-p c =
    let t = c in
    omega (arith, t.requires.0.few, t.loop-p-test.true)

pub bounds-marks-p : goal.bounds-marks-p
bounds-marks-p c =
    let t = c in
    omega (arith, t.loop-p.invariant.1.whole.room, t.loop-p-test.true)

pub is_inside-requires : goal.is_inside-requires
is_inside-requires c =
    let t = c in
    (t.requires.0, omega (arith, t.loop-p-test.true))

pub mark_ring-requires : goal.mark_ring-requires
mark_ring-requires c =
    let t = c in
    let h = t.requires.0 in
    (h.few, t.loop-p-test.true, t.loop-p.invariant.1.whole.room)

pub loop-p-preserved : goal.loop-p-preserved
loop-p-preserved c =
    let d = c in
    let t = d in
    let w = t.loop-p in
    let s = t in
    let a = s.args in
    let cell = d.dart_cell in
    let fits-old : SFits w64 a.s.old = sfits_of c.struct_told-1.given.0.1 in
    let is-old = eqb (of_z w64 cell.result) (of_z w64 a.s.old) in
    let is_none = eqb (get_or w.marks w.p 0) 0 in
    let Next : List ℕ → Type 0 = λ ms. Marking a.edges.rows.now a.edges.count a.nodes.rows.now a.nodes.count a.s.ring
    a.s.old a.marks.now ms (w.p + 1) in (
      omega (arith, t.loop-p-test.true),
      elim c.if-dart_cell-s.branch [
        | then-dart_cell-s x ↦
            let face = sym cell.ensures
            ∙ word_is (sfits_of cell.type_inv) fits-old (eqb-true _ _ (and_left is-old is_none x.if-dart_cell-s.true)) in
            let none = eqb-true (get_or w.marks w.p 0) 0 (and_right is-old is_none x.if-dart_cell-s.true) in
            let mark = x.mark_of-mark in
            let ring = x.mark_ring in
            let after = marked_places a.edges.rows.now a.edges.count w.p mark.result w.marks
            w.invariant.1.whole.room ring.ensures.1 in
            subst Next (sym x.marks-is) (marking_ring s.requires.0.edges s.requires.1 a.nodes.rows.now
            a.nodes.count a.s.ring
            a.s.old a.marks.now w.marks w.p w.invariant.1 t.loop-p-test.true face none mark.result
            (mark.ensures ∙ ap (λ (b : Bool). cond b 1 2) x.is_inside.ensures) ring.new.marks after.0 after.1)
        | else-dart_cell-s x ↦
            subst Next (sym x.marks-is)
            (elim (which is-old) [
              | inl o ↦
                  marking_marked s.requires.0.edges s.requires.1 a.nodes.rows.now a.nodes.count a.s.ring a.s.old
                  a.marks.now w.marks w.p w.invariant.1 t.loop-p-test.true
                  (eqb-false (get_or w.marks w.p 0) 0 (ap (λ (b : Bool). b && is_none) (sym o) ∙ x.if-dart_cell-s.false))
              | inr o ↦
                  marking_other s.requires.0.edges s.requires.1 a.nodes.rows.now a.nodes.count a.s.ring a.s.old
                  a.marks.now w.marks w.p w.invariant.1 t.loop-p-test.true
                  (λ e. eqb-false _ _ o (ap (of_z w64) (cell.ensures ∙ e)))
            ])
      ],
    )

pub returns : goal.returns
returns c =
    let w = c.loop-p in
    (w.invariant.1.size, (λ q h is. w.invariant.1.done q h (omega (arith, c.loop-p-test.false)) is))

pub shape_of-marks : goal.shape_of-marks
shape_of-marks c = c.loop-p.invariant.1.size
