-- `edit_heal::closed_up` meets its contract. Assumes nothing.
use borrow.Author.Tests.{lt-ltb, le-ltb}
use Rattle.edit_heal.proofs.closed_up.Goals as goal

pub returns-then-j-i : goal.returns-then-j-i
returns-then-j-i c = let a = c.args in rw (lt-ltb a.j a.i c.if-j-i.true)

pub returns-else-j-i : goal.returns-else-j-i
returns-else-j-i c = let a = c.args in rw (le-ltb a.j a.i c.if-j-i.false)
