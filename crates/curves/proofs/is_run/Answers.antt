-- `curves::is_run` meets its contract. Assumes nothing.
use native.Mathlib.Omega.{arith}
use Rattle.std.proofs.lemmas.Grind.{common_steps}
use Rattle.curves.specs.Curves.{is_run_to}
use Rattle.curves.proofs.is_run.Goals as goal

pub returns-then-contains : goal.returns-then-contains
unfolding is_run_to
returns-then-contains c = grind (arith, common_steps)

pub returns-else-contains : goal.returns-else-contains
unfolding is_run_to
returns-else-contains c = grind (arith, common_steps)
