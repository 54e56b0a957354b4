-- `directions::cross_turn` meets its contract: the two parts are those of the cross product. Assumes nothing.
use mathlib.Core.Path.{ap, ◌∙◌}
use Rattle.plane.specs.Areas.{turn}
use Rattle.plane.proofs.Laws.{cross_is}
use Rattle.directions.proofs.cross_turn.Goals as goal

pub returns : goal.returns
returns c = c.turn_of.ensures ∙ ap turn (cross_is _ _ _ _ _ _ c.cross_part.ensures.0 c.cross_part-2.ensures.0)
