-- `plane::contact_of` meets its contract. Assumes nothing.
use native.Mathlib.Omega.{arith}
use Rattle.std.proofs.lemmas.Grind.{common_steps}
use Rattle.plane.specs.Segments.{contact}
use Rattle.plane.proofs.contact_of.Goals as goal

pub returns-then-not-segments_meet : goal.returns-then-not-segments_meet
unfolding contact
returns-then-not-segments_meet c = grind (arith, common_steps)

pub returns-then-segments_stretch : goal.returns-then-segments_stretch
unfolding contact
returns-then-segments_stretch c = grind (arith, common_steps)

pub returns-then-end_touches : goal.returns-then-end_touches
unfolding contact
returns-then-end_touches c = grind (arith, common_steps)

pub returns-else-end_touches : goal.returns-else-end_touches
unfolding contact
returns-else-end_touches c = grind (arith, common_steps)
