-- `plane::segments_meet` meets its contract. Assumes nothing.
use native.Mathlib.Omega.{arith}
use Rattle.std.proofs.lemmas.Grind.{common_steps}
use Rattle.plane.specs.Segments.{meets}
use Rattle.plane.proofs.segments_meet.Goals as goal

pub returns-then-straddles : goal.returns-then-straddles
unfolding meets
returns-then-straddles c = grind (arith, common_steps)

pub returns-else-straddles : goal.returns-else-straddles
unfolding meets
returns-else-straddles c = grind (arith, common_steps)
