-- `directions::comes_before` meets its contract. Assumes nothing.
use native.Mathlib.Omega.{arith}
use Rattle.std.proofs.lemmas.Grind.{common_steps}
use Rattle.lists.specs.Tests.{same}
use Rattle.plane.specs.Directions.{before}
use Rattle.plane.proofs.Laws.{positive_is}
use Rattle.directions.proofs.comes_before.Goals as goal

pub returns-then-k-l : goal.returns-then-k-l
unfolding before same
returns-then-k-l c = grind (arith, common_steps)

pub returns-then-k-l-2 : goal.returns-then-k-l-2
unfolding before same
returns-then-k-l-2 c = let e = positive_is _ _ _ c.cross_turn.ensures c.eq.ensures in grind (arith, common_steps)

pub returns-else-k-l-2 : goal.returns-else-k-l-2
unfolding before same
returns-else-k-l-2 c = grind (arith, common_steps)
