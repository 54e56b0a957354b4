-- `directions::below_ordered` meets its contract. Assumes nothing.
use native.Mathlib.Omega.{arith}
use Rattle.std.proofs.lemmas.Grind.{common_steps}
use Rattle.plane.proofs.Laws.{positive_is}
use Rattle.directions.proofs.below_ordered.Goals as goal

pub returns-then-p-b : goal.returns-then-p-b
returns-then-p-b c = let e = positive_is _ _ _ c.orient.ensures c.eq.ensures in grind (arith, common_steps)
