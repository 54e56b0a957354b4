-- `tables::numbers_rise` meets its contract: the numbers that are left rise from the last one on if and only if
-- all do. Assumes nothing.
use Prim.Native.Nat.{ℕ, ◌*◌}
use mathlib.Core.Path.{sym, ◌∙◌}
use native.Mathlib.Omega.{arith}
use lib.IntN.{ℤ, pos, nat_abs}
use lib.ListN.{get_or}
use lib.Signed.{non_neg}
use Rattle.lists.proofs.Bools.{≡→T}
use Rattle.tables.proofs.Cells.{row_room}
use Rattle.tables.proofs.Rows.{all_table}
use Rattle.tables.proofs.Rising.{numbered_turn}
use Rattle.tables.proofs.numbers_rise.Goals as goal

pub natural-n-requires : goal.natural-n-requires
natural-n-requires c =
    let a = c.args in
    let i = c.loop-i.i in
    let f : ℕ → ℤ = λ j. get_or a.t.now (j * a.w) (pos 0) in (
      omega (arith, row_room a.w a.count i c.loop-i-test.true),
      ≡→T (non_neg (f i)) (all_table non_neg f a.count c.requires.2 i c.loop-i-test.true),
    )

pub returns-then-not-contains : goal.returns-then-not-contains
returns-then-not-contains c =
    let a = c.args in
    let l = c.loop-i in
    let g : ℕ → ℕ = λ j. nat_abs (get_or a.t.now (j * a.w) (pos 0)) in
    let e = numbered_turn g l.low a.next l.i a.count c.loop-i-test.true c.natural-n.ensures c.contains.ensures.value in
    sym (rw c.if-not-contains.true at e) ∙ l.invariant.1

pub loop-i-preserved : goal.loop-i-preserved
loop-i-preserved c =
    let a = c.args in
    let l = c.loop-i in
    let g : ℕ → ℕ = λ j. nat_abs (get_or a.t.now (j * a.w) (pos 0)) in
    let e = numbered_turn g l.low a.next l.i a.count c.loop-i-test.true c.natural-n.ensures c.contains.ensures.value in
    (omega arith, sym (rw c.if-not-contains.false at e) ∙ l.invariant.1)
