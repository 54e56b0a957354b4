-- `tables::whole_rows` meets its contract. Assumes nothing.
use native.Mathlib.Omega.{arith}
use Rattle.std.proofs.lemmas.Grind.{common_steps}
use Rattle.lists.specs.Tests.{same}
use Rattle.tables.proofs.whole_rows.Goals as goal

pub returns-then-t-w-eq0 : goal.returns-then-t-w-eq0
unfolding same
returns-then-t-w-eq0 c = grind (arith, common_steps)

pub returns-else-t-w-eq0 : goal.returns-else-t-w-eq0
unfolding same
returns-else-t-w-eq0 c = grind (arith, common_steps)
