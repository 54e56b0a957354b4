-- `edit_heal::after_heal` meets its contract. Assumes nothing.
use borrow.Author.Rules.{rules}
use mathlib.Core.Path.{ap, ◌∙◌}
use Rattle.map.specs.Rows.{counts}
use Rattle.head.specs.Heads.{changed_head}
use Rattle.edit_heal.proofs.Told.{few_numbers}
use Rattle.edit_heal.proofs.after_heal.Goals as goal

pub changed-requires : goal.changed-requires
changed-requires c =
    let k = few_numbers c.args.how c.heal_numbers.ensures in
    search rules

pub returns : goal.returns
returns c =
    c.changed.ensures
    ∙ ap (changed_head c.args.h (counts 0 0 0) (counts 1 1 0)) c.heal_numbers.ensures
