-- `head::check_room` meets its contract: each test answers its reason, in order. Assumes nothing.
use borrow.Author.Rules.{rules}
use mathlib.Core.Path.{sym, ◌∙◌}
use Rattle.map.proofs.Reasons.{first_hit, first_miss, first_none}
use Rattle.head.proofs.check_room.Goals as goal

pub returns-then-is_full : goal.returns-then-is_full
returns-then-is_full c = sym (first_hit 20 _ _ (sym c.is_full.ensures ∙ c.if-is_full.true))

pub returns-then-is_spent : goal.returns-then-is_spent
returns-then-is_spent c =
    sym (first_miss 20 _ _ (sym c.is_full.ensures ∙ c.if-is_full.false)
    ∙ first_hit 21 _ _ (sym c.is_spent.ensures ∙ c.if-is_spent.true))

pub returns : goal.returns
returns c =
    sym (first_miss 20 _ _ (sym c.is_full.ensures ∙ c.if-is_full.false)
    ∙ first_miss 21 _ _ (sym c.is_spent.ensures ∙ c.if-is_spent.false) ∙ first_none)
