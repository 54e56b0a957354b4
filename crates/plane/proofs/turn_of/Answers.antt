-- `plane::turn_of` meets its contract. Assumes nothing.
use mathlib.Core.Path.{refl}
use native.Mathlib.Omega.{arith}
use Rattle.std.proofs.lemmas.Grind.{common_steps}
use Rattle.plane.proofs.Laws.{turn-left, turn_right, turn-straight}
use Rattle.plane.proofs.turn_of.Goals as goal

pub returns-in-Less : goal.returns-in-Less
returns-in-Less c = turn_right _ c.args.plus c.args.minus refl (grind (arith, common_steps))

pub returns-in-Equal : goal.returns-in-Equal
returns-in-Equal c = turn-straight _ c.args.plus c.args.minus refl (grind (arith, common_steps)) (grind (arith, common_steps))

pub returns-in-Greater : goal.returns-in-Greater
returns-in-Greater c = turn-left _ c.args.plus c.args.minus refl (grind (arith, common_steps))
