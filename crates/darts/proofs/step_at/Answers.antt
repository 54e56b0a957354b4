-- `darts::step_at` meets its contract. Assumes nothing.
use mathlib.Core.Path.{subst}
use Rattle.lists.specs.Tests.{same}
use Rattle.curves.specs.Curves.{Curve}
use Rattle.curves.specs.Edits.{course}
use Rattle.darts.specs.Positions.{odd, Along}
use Rattle.darts.proofs.step_at.Goals as goal

pub returns : goal.returns
unfolding same
returns c =
    subst (λ (k : Curve). Along c.first_step.result (course (odd c.args.p) k))
    c.curve_of.ensures.1 c.first_step.ensures
