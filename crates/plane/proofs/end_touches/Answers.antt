-- `plane::end_touches` meets its contract. Assumes nothing.
use native.Mathlib.Omega.{arith}
use Rattle.std.proofs.lemmas.Grind.{common_steps}
use Rattle.plane.specs.Segments.{ended}
use Rattle.plane.proofs.end_touches.Goals as goal

pub returns-then-on_segment-3 : goal.returns-then-on_segment-3
unfolding ended
returns-then-on_segment-3 c = grind (arith, common_steps)

pub returns-else-on_segment-3 : goal.returns-else-on_segment-3
unfolding ended
returns-else-on_segment-3 c = grind (arith, common_steps)
