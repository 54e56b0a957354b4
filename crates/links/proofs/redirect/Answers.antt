-- `links::redirect` meets its contract: one pass over the rows left, from what the rows passed left, is the two sweeps
-- of all. Assumes nothing.
use mathlib.Core.Path.{◌≡◌, refl, sym, ap, ◌∙◌}
use mathlib.Core.List.{List}
use Prim.Native.Nat.{◌+◌, ◌*◌, ◌-◌}
use native.Mathlib.Nat.{sub-zero}
use native.Mathlib.Omega.{arith}
use lib.IntN.{ℤ}
use lib.ListN.{length}
use mir.Syntax.{w64}
use mir.Val.{to_z, of_z}
use mir.Facts.{to_z-of_z}
use borrow.Author.Rules.{sfits_of}
use Rattle.lists.specs.Tables.{sweep}
use Rattle.lists.proofs.Scans.{sweep_step, sweep-end}
use Rattle.tables.proofs.Order.{word_is, replace_hit, replace_miss, replace_length}
use Rattle.links.specs.Linking.{redirected}
use Rattle.links.proofs.Kept.{replace_swap}
use Rattle.links.proofs.Sweeps.{one_pass}
use Rattle.links.proofs.redirect.Invariants.{link, row}
use Rattle.links.proofs.redirect.Goals as goal
use Rattle.links.proofs.redirect.Goals.{then-edges-i, else-edges-i, then-edges-i-2, else-edges-i-2}

-- the first link of the row
left : (c : goal.Joined-edges-i)
    → (let a = c.args in c.if-edges-i.edges
    ≡ link 3 (to_z w64 (of_z w64 a.old)) (to_z w64 (of_z w64 a.new)) c.loop-i.edges
    c.loop-i.i)
left c =
    let s = c in
    let a = s.args in
    let l = c.loop-i in
    let old = to_z w64 (of_z w64 a.old) in
    let new = to_z w64 (of_z w64 a.new) in
    let read : old ≡ a.old = to_z-of_z {w = w64} s.ranges.old in
    elim c.if-edges-i.branch [
      | then-edges-i w ↦ w.edges-is ∙ sym (replace_hit old new l.edges (l.i * 32 + 3)
          (word_is (sfits_of c.t11-1.given) s.ranges.old w.if-edges-i.true ∙ sym read))
      | else-edges-i w ↦ w.edges-is ∙ sym (replace_miss old new l.edges (l.i * 32 + 3)
          (λ e. w.if-edges-i.false (ap (of_z w64) (e ∙ read))))
    ]

-- and the second
right : (c : goal.Joined-edges-i-2)
    → (let a = c.args in c.if-edges-i-2.edges
    ≡ link 4 (to_z w64 (of_z w64 a.old)) (to_z w64 (of_z w64 a.new)) c.if-edges-i.edges
    c.loop-i.i)
right c =
    let s = c in
    let a = s.args in
    let i = c.loop-i.i in
    let t = c.if-edges-i.edges in
    let old = to_z w64 (of_z w64 a.old) in
    let new = to_z w64 (of_z w64 a.new) in
    let read : old ≡ a.old = to_z-of_z {w = w64} s.ranges.old in
    elim c.if-edges-i-2.branch [
      | then-edges-i-2 w ↦ w.edges-is ∙ sym (replace_hit old new t (i * 32 + 4)
          (word_is (sfits_of c.t11-in-loop-i-1.given) s.ranges.old w.if-edges-i-2.true ∙ sym read))
      | else-edges-i-2 w ↦ w.edges-is ∙ sym (replace_miss old new t (i * 32 + 4)
          (λ e. w.if-edges-i-2.false (ap (of_z w64) (e ∙ read))))
    ]

long : (c : goal.Joined-edges-i) → length c.if-edges-i.edges
    ≡ length c.args.edges.now
long c =
    let a = c.args in
    let l = c.loop-i in
    ap length (left c) ∙ replace_length (to_z w64 (of_z w64 a.old)) (to_z w64 (of_z w64 a.new)) l.edges
    (l.i * 32 + 3) ∙ l.invariant.1

pub loop-i-preserved : goal.loop-i-preserved
loop-i-preserved c =
    let s = c in
    let a = s.args in
    let l = c.loop-i in
    let old = to_z w64 (of_z w64 a.old) in
    let new = to_z w64 (of_z w64 a.new) in
    let turn : c.if-edges-i-2.edges ≡ row old new l.edges l.i = right c
    ∙ ap (λ (t : List ℤ). link 4 old new t l.i) (left c.before.before) in (
      omega arith,
      ap length (right c) ∙ replace_length old new c.if-edges-i.edges (l.i * 32 + 4)
          ∙ long c.before.before,
      ap (λ (t : List ℤ). sweep (row old new) t (l.i + 1) (a.count - (l.i + 1))) turn
          ∙ sym (sweep_step (row old new) l.edges l.i a.count
          c.loop-i-test.true) ∙ l.invariant.2,
    )

pub returns : goal.returns
returns c =
    let s = c in
    let a = s.args in
    let l = c.loop-i in
    let old = to_z w64 (of_z w64 a.old) in
    let new = to_z w64 (of_z w64 a.new) in
    let e : l.edges ≡ redirected old new a.edges.now a.count =
    sym (sweep-end (row old new) l.edges l.i a.count c.loop-i-test.false) ∙ l.invariant.2
    ∙ sym (one_pass (link 3 old new) (link 4 old new)
    (λ t i j. replace_swap old new t (i * 32 + 4) (j * 32 + 3) (λ q. omega arith)) a.count 0 a.edges.now) in
    rw (to_z-of_z {w = w64} s.ranges.old, to_z-of_z {w = w64} s.ranges.new) at e

pub loop-i-init : goal.loop-i-init
loop-i-init c = (omega arith, refl, rw sub-zero)

pub overflow_mul-i-in-loop-i : goal.overflow_mul-i-in-loop-i
overflow_mul-i-in-loop-i c = omega (arith, long c)

pub overflow_add-i-in-loop-i : goal.overflow_add-i-in-loop-i
overflow_add-i-in-loop-i c = omega (arith, long c)

pub offset_bounds-edges-i-in-loop-i : goal.offset_bounds-edges-i-in-loop-i
offset_bounds-edges-i-in-loop-i c = omega (arith, long c)

pub slice_copy_out-t-11-in-loop-i : goal.slice_copy_out-t-11-in-loop-i
slice_copy_out-t-11-in-loop-i c = omega (arith, long c)

pub overflow_mul-new-then-edges-i-2 : goal.overflow_mul-new-then-edges-i-2
overflow_mul-new-then-edges-i-2 c = omega (arith, long c.before.before)

pub overflow_add-new-then-edges-i-2 : goal.overflow_add-new-then-edges-i-2
overflow_add-new-then-edges-i-2 c = omega (arith, long c.before.before)

pub offset_bounds-edges-i-then-edges-i-2 : goal.offset_bounds-edges-i-then-edges-i-2
offset_bounds-edges-i-then-edges-i-2 c = omega (arith, long c.before.before)

pub bounds-edges-i-then-edges-i-2 : goal.bounds-edges-i-then-edges-i-2
bounds-edges-i-then-edges-i-2 c = omega (arith, long c.before.before)

pub shape_of-edges : goal.shape_of-edges
shape_of-edges c = c.loop-i.invariant.1
