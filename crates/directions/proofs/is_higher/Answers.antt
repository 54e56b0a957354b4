-- `directions::is_higher` meets its contract. Assumes nothing.
use native.Mathlib.Omega.{arith}
use Rattle.std.proofs.lemmas.Grind.{common_steps}
use Rattle.plane.proofs.Laws.{positive_is}
use Rattle.directions.proofs.Laws.{higher_above, higher_below, higher_equal}
use Rattle.directions.proofs.is_higher.Goals as goal

pub returns-then-n-p : goal.returns-then-n-p
returns-then-n-p c = let e = higher_above _ _ _ _ _ _ _ c.lift_part-p.ensures c.lift_part-n.ensures c.if-n-p.true in grind (arith, common_steps)

pub returns-then-n-p-2 : goal.returns-then-n-p-2
returns-then-n-p-2 c =
    higher_equal _ _ _ _ _ _ _ c.lift_part-p.ensures c.lift_part-n.ensures _ (omega arith) (omega arith)
    (positive_is _ _ _ c.cross_turn.ensures c.eq.ensures)

pub returns-else-n-p-2 : goal.returns-else-n-p-2
returns-else-n-p-2 c = let e = higher_below _ _ _ _ _ _ _ c.lift_part-p.ensures c.lift_part-n.ensures (omega arith) in grind (arith, common_steps)
