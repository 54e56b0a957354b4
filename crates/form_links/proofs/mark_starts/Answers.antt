-- `form_links::mark_starts` meets its contract: the rows where the positions that are passed start are marked. Assumes
-- nothing.
use mathlib.Core.Path.{◌≡◌, refl, sym, ap, ◌∙◌}
use mathlib.Core.Bool.{cond}
use mathlib.Core.Logic.{inl, inr}
use Prim.Native.Nat.{ℕ, ◌*◌}
use native.Mathlib.Numerals.{add-one}
use native.Mathlib.Omega.{arith}
use lib.ListN.{get_or, set, length-set}
use lib.Seq.{get_or-set_same, get_or-set_other}
use Rattle.lists.proofs.Bools.{same_eq, same_false, equal?}
use Rattle.form_links.specs.Chains.{starts_in}
use Rattle.form_links.proofs.mark_starts.Goals as goal

pub overflow_mul-p-end : goal.overflow_mul-p-end
overflow_mul-p-end c = omega (arith, c.requires.0)

pub loop-p-init : goal.loop-p-init
loop-p-init c = (omega arith, refl, (λ i. refl))

pub offset_bounds-starts-p : goal.offset_bounds-starts-p
offset_bounds-starts-p c = omega (arith, c.loop-p-test.true, c.requires.0)

pub bounds-starts-p : goal.bounds-starts-p
bounds-starts-p c = omega (arith, c.loop-p-test.true, c.requires.1)

pub overflow_cast-i : goal.overflow_cast-i
overflow_cast-i c = omega (arith, c.shared_slice_known-1.given c.loop-p.p)

pub bounds-marks-i : goal.bounds-marks-i
bounds-marks-i c = omega (
  arith,
  c.loop-p.invariant.1,
  c.requires.2 c.loop-p.p c.loop-p-test.true,
)

pub overflow_step-p : goal.overflow_step-p
overflow_step-p c = omega (arith, c.loop-p-test.true, c.requires.0)

pub loop-p-smaller : goal.loop-p-smaller
loop-p-smaller c = omega (arith, c.loop-p-test.true)

pub loop-p-preserved : goal.loop-p-preserved
loop-p-preserved c =
    let w = c.loop-p in
    let s = c.args in
    let p = w.p in
    let row = get_or s.starts.now p 0 in (
      omega (arith, c.loop-p-test.true),
      length-set w.marks row 1 ∙ w.invariant.1,
      (λ i. elim (equal? i row) [
        | inl e ↦ ap (λ (x : ℕ). get_or (set w.marks row 1) x 0) e
            ∙ get_or-set_same w.marks row 1 0 (bounds-marks-i c) ∙ rw (add-one p, same_eq row i (sym e))
        | inr d ↦ get_or-set_other w.marks row i 1 0 d ∙ w.invariant.2 i
            ∙ rw (add-one p, same_false row i (λ e. d (sym e)))
      ]),
    )

pub shape_of-marks : goal.shape_of-marks
shape_of-marks c = c.loop-p.invariant.1

pub returns : goal.returns
returns c =
    let w = c.loop-p in
    let s = c.args in
    let e : w.p ≡ s.count * 2 = omega (arith, w.invariant.0, c.loop-p-test.false) in
    λ i. w.invariant.2 i ∙ ap (λ (p : ℕ). cond (starts_in s.starts.now p i) 1 (get_or s.marks.now i 0)) e
