-- `plane::straight_between` meets its contract. Assumes nothing.
use native.Mathlib.Omega.{arith}
use Rattle.std.proofs.lemmas.Grind.{common_steps}
use Rattle.lists.specs.Tests.{same}
use Rattle.plane.specs.Points.{same_point}
use Rattle.plane.specs.Segments.{straight_between}
use Rattle.plane.proofs.straight_between.Goals as goal

pub returns-then-ne-2 : goal.returns-then-ne-2
unfolding straight_between same_point same
returns-then-ne-2 c = grind (arith, common_steps)

pub returns-else-ne-2 : goal.returns-else-ne-2
unfolding straight_between same_point same
returns-else-ne-2 c = grind (arith, common_steps)
