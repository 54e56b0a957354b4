-- `reason_sides::passes_over` meets its contract. Assumes nothing.
use mathlib.Core.Path.{ap₂, ◌∙◌}
use mathlib.Core.Bool.{not, beq}
use Rattle.lists.specs.Tests.{◌⊕◌}
use Rattle.lists.proofs.Bools.{eq2}
use Rattle.reason_sides.proofs.passes_over.Goals as goal

pub returns : goal.returns
returns c =
    eq2 (λ a b. not (beq a b)) (λ a b. a ⊕ b) tt c.odd_below.result c.odd_below-2.result
    ∙ ap₂ ◌⊕◌ c.odd_below.ensures c.odd_below-2.ensures
