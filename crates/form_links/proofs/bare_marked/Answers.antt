-- `form_links::bare_marked` meets its contract: what is left of the rows decides. Assumes nothing.
use borrow.Author.Rules.{sfits_of}
use mathlib.Core.Path.{◌≡◌, refl, sym, ap, ◌∙◌}
use mathlib.Core.Bool.{Bool, true, false, beq}
use Prim.Native.Nat.{ℕ, ◌+◌, ◌*◌}
use native.Mathlib.Nat.{sub-zero}
use native.Mathlib.Omega.{arith}
use lib.Dec.{eqb}
use lib.IntN.{pos, negsuc}
use lib.ListN.{get_or}
use mir.Syntax.{w64}
use mir.Val.{SFits, of_z}
use Rattle.lists.specs.Tests.{same}
use Rattle.lists.specs.Scans.{all_of}
use Rattle.lists.specs.Tables.{table}
use Rattle.lists.proofs.Scans.{all_hit, all_miss, all_end}
use Rattle.form_links.proofs.Words.{flipped, word_test}
use Rattle.form_links.proofs.bare_marked.Lts as lts
use Rattle.form_links.proofs.bare_marked.Reads as reads
use Rattle.form_links.proofs.bare_marked.Invariants.{bareTest}
use Rattle.form_links.proofs.bare_marked.Goals as goal

-- places in the code, by their names in what is generated
abbrev After-shared_slice_known-1 : Type 0
After-shared_slice_known-1 = lts.After-shared_slice_known reads.Pre reads.Post goal.the-invariant-loop-i goal.the-decreases-loop-i

-- the test of a turn
test-is : (c : After-shared_slice_known-1)
    → bareTest c.args.nodes.now
    c.args.marks.now c.loop-i.i
    ≡ beq (eqb (of_z w64 (get_or c.args.nodes.now
    (c.loop-i.i * 4 + 3) (pos 0))) (of_z w64 (negsuc 0)))
    (eqb (get_or c.args.marks.now c.loop-i.i 0) 1)
unfolding same
test-is c =
    let a = c.args in
    let i = c.loop-i.i in
    let z = get_or a.nodes.now (i * 4 + 3) (pos 0) in
    let minus : SFits w64 (negsuc 0) = record { sfits = omega arith } in
    ap (λ (b : Bool). beq b (eqb (get_or a.marks.now i 0) 1))
    (sym (word_test z (negsuc 0) z (negsuc 0) (sfits_of c.t10-1.given) minus refl refl))

pub loop-i-init : goal.loop-i-init
loop-i-init c = (
  omega arith,
  ap (λ (k : ℕ). all_of (bareTest c.args.nodes.now c.args.marks.now)
      (table (λ k. k) 0 k)) (sub-zero c.args.n),
)

pub overflow_mul-i : goal.overflow_mul-i
overflow_mul-i c = omega (arith, c.loop-i-test.true, c.requires.0)

pub overflow_add-i : goal.overflow_add-i
overflow_add-i c = omega (arith, c.loop-i-test.true, c.requires.0)

pub offset_bounds-nodes-i : goal.offset_bounds-nodes-i
offset_bounds-nodes-i c = omega (arith, c.loop-i-test.true, c.requires.0)

pub bounds-nodes-i : goal.bounds-nodes-i
bounds-nodes-i c = omega (arith, c.loop-i-test.true, c.requires.0)

pub bounds-marks-i : goal.bounds-marks-i
bounds-marks-i c = omega (arith, c.loop-i-test.true, c.requires.1)

pub returns-then-nodes-i : goal.returns-then-nodes-i
returns-then-nodes-i c =
    let b = c in
    let w = b.loop-i in
    let s = b.args in
    sym (sym w.invariant.1 ∙ all_miss (λ k. k) w.i s.n (bareTest s.nodes.now s.marks.now)
    b.loop-i-test.true (test-is c.before.before ∙ flipped _ true c.if-nodes-i.true))

pub overflow_step-i : goal.overflow_step-i
overflow_step-i c = omega (arith, c.loop-i-test.true)

pub loop-i-smaller : goal.loop-i-smaller
loop-i-smaller c = omega (arith, c.loop-i-test.true)

pub loop-i-preserved : goal.loop-i-preserved
loop-i-preserved c =
    let b = c in
    let w = b.loop-i in
    let s = b.args in (
      omega (arith, b.loop-i-test.true),
      sym (all_hit (λ k. k) w.i s.n (bareTest s.nodes.now s.marks.now) b.loop-i-test.true
          (test-is c.before.before ∙ flipped _ false c.if-nodes-i.false)) ∙ w.invariant.1,
    )

pub returns : goal.returns
returns c =
    let w = c.loop-i in
    let s = c.args in
    sym (sym w.invariant.1 ∙ all_end (λ k. k) w.i s.n (bareTest s.nodes.now s.marks.now)
    c.loop-i-test.false)
