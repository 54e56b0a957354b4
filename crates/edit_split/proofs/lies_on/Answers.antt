-- `edit_split::lies_on` meets its contract. Assumes nothing.
use mathlib.Core.Path.{ap, ◌∙◌}
use Rattle.curves.specs.Curves.{Curve}
use Rattle.curves.specs.Tests.{on_curve}
use Rattle.edit_split.proofs.lies_on.Goals as goal

pub returns : goal.returns
returns c = c.on_curve.ensures ∙ ap (λ (d : Curve). on_curve d c.args.p)
    c.curve_of.ensures.1
