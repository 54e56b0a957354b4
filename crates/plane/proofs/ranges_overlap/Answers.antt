-- `plane::ranges_overlap` meets its contract. Assumes nothing.
use native.Mathlib.Omega.{arith}
use Rattle.std.proofs.lemmas.Grind.{common_steps}
use Rattle.plane.specs.Segments.{overlap}
use Rattle.plane.proofs.ranges_overlap.Goals as goal

pub returns-then-min-max : goal.returns-then-min-max
unfolding overlap
returns-then-min-max c = grind (arith, common_steps)

pub returns-else-min-max : goal.returns-else-min-max
unfolding overlap
returns-else-min-max c = grind (arith, common_steps)
