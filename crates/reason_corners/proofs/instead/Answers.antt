-- `reason_corners::instead` meets its contract. Assumes nothing.
use mathlib.Core.Path.{sym, ap}
use mathlib.Core.Bool.{Bool, cond}
use Rattle.lists.proofs.Bools.{same_eq, same_false}
use Rattle.reason_corners.proofs.instead.Goals as goal

pub returns-then-q-old : goal.returns-then-q-old
returns-then-q-old c = let a = c.args in sym
    (ap (λ (b : Bool). cond b a.new a.q) (same_eq a.q a.old c.if-q-old.true))

pub returns-else-q-old : goal.returns-else-q-old
returns-else-q-old c = let a = c.args in
    sym (ap (λ (b : Bool). cond b a.new a.q) (same_false a.q a.old c.if-q-old.false))
