-- `plane::segments_stretch` meets its contract. Assumes nothing.
use native.Mathlib.Omega.{arith}
use Rattle.std.proofs.lemmas.Grind.{common_steps}
use Rattle.plane.specs.Segments.{stretches}
use Rattle.plane.proofs.segments_stretch.Goals as goal

pub returns-then-ranges_overlap_more : goal.returns-then-ranges_overlap_more
unfolding stretches
returns-then-ranges_overlap_more c = grind (arith, common_steps)

pub returns-else-ranges_overlap_more : goal.returns-else-ranges_overlap_more
unfolding stretches
returns-else-ranges_overlap_more c = grind (arith, common_steps)

pub returns-else-collinear-2 : goal.returns-else-collinear-2
unfolding stretches
returns-else-collinear-2 c = grind (arith, common_steps)
