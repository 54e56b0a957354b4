-- `plane::orient` meets its contract: the two parts are those of the doubled area. Assumes nothing.
use mathlib.Core.Path.{ap, ◌∙◌}
use Rattle.plane.specs.Areas.{turn}
use Rattle.plane.proofs.Laws.{area_is}
use Rattle.plane.proofs.orient.Goals as goal

pub returns : goal.returns
returns c = c.turn_of.ensures ∙ ap turn (area_is _ _ _ _ _ c.plus_part.ensures.0 c.plus_part-2.ensures.0)
