-- `directions::same_direction` meets its contract. Assumes nothing.
use native.Mathlib.Omega.{arith}
use Rattle.std.proofs.lemmas.Grind.{common_steps}
use Rattle.lists.specs.Tests.{same}
use Rattle.plane.specs.Directions.{same_way}
use Rattle.plane.proofs.Laws.{null_is}
use Rattle.directions.proofs.same_direction.Goals as goal

pub returns-then-class_of : goal.returns-then-class_of
unfolding same_way same
returns-then-class_of c = let e = null_is _ _ _ c.cross_turn.ensures c.eq.ensures in grind (arith, common_steps)

pub returns-else-class_of : goal.returns-else-class_of
unfolding same_way same
returns-else-class_of c = grind (arith, common_steps)
