-- `darts::signs_at` meets its contract. Assumes nothing.
use mathlib.Core.Path.{ap, ◌∙◌}
use Rattle.plane.specs.Directions.{signs}
use Rattle.darts.proofs.signs_at.Goals as goal

pub returns : goal.returns
returns c = (c.signs_of.ensures.0 ∙ ap signs c.step_at-v.ensures.way, c.signs_of.ensures.1)
