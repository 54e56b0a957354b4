-- `edit_split::after_split` meets its contract. Assumes nothing.
use borrow.Author.Rules.{rules}
use mathlib.Core.Path.{ap, ◌∙◌}
use Rattle.map.specs.Rows.{counts}
use Rattle.head.specs.Heads.{changed_head}
use Rattle.edit_split.proofs.Told.{few_numbers}
use Rattle.edit_split.proofs.after_split.Goals as goal

pub changed-requires : goal.changed-requires
changed-requires c =
    let k = few_numbers c.args.how c.split_numbers.ensures in
    search rules

pub returns : goal.returns
returns c =
    c.changed.ensures
    ∙ ap (changed_head c.args.h (counts 1 1 0) (counts 0 0 0)) c.split_numbers.ensures
