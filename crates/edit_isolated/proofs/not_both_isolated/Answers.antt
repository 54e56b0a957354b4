-- `edit_isolated::not_both_isolated` meets its contract: each test in order. Assumes nothing.
use borrow.Author.Rules.{rules}
use mathlib.Core.Path.{sym, ap, ◌∙◌}
use mathlib.Core.Bool.{not}
use Rattle.lists.proofs.Bools.{same_eq, same_false}
use Rattle.edit_isolated.proofs.not_both_isolated.Goals as goal
use Rattle.edit_isolated.proofs.not_both_isolated.Goals.{then-is_isolated, else-is_isolated}

pub returns-then-u-v : goal.returns-then-u-v
returns-then-u-v c = rw (same_eq c.args.u c.args.v c.if-u-v.true) (search rules)

pub returns-after-is_isolated : goal.returns-after-is_isolated
returns-after-is_isolated c =
    elim c.if-is_isolated.branch [
      | then-is_isolated w ↦ ap not (w.result-is ∙ w.is_isolated-then-is_isolated.ensures) ∙ rw (
        same_false c.args.u c.args.v c.if-u-v.false,
        sym c.is_isolated.ensures ∙ w.if-is_isolated.true,
      )
      | else-is_isolated w ↦ ap not (w.result-is ∙ w.if-is_isolated.false) ∙ rw (
        same_false c.args.u c.args.v c.if-u-v.false,
        sym c.is_isolated.ensures ∙ w.if-is_isolated.false,
      )
    ]
