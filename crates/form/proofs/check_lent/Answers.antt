-- `form::check_lent` meets its contract: 1 and 2 in order. Assumes nothing.
use borrow.Author.Tests.{not-false}
use mathlib.Core.Path.{◌≡◌, sym, ap, ◌∙◌}
use mathlib.Core.Bool.{true, not}
use Rattle.map.specs.Rows.{whole, lent}
use Rattle.map.proofs.Reasons.{first_hit, first_miss, first_none}
use Rattle.form.proofs.check_lent.Goals as goal

whole_in : (c : goal.Else-not-is_whole) → let a = c.args in
    whole (lent a.nodes.now a.edges.now a.faces.now a.h) ≡ true
whole_in c = sym (c.is_whole.ensures c.args.h) ∙ not-false _ c.if-not-is_whole.false-raw

pub returns-then-not-is_whole : goal.returns-then-not-is_whole
returns-then-not-is_whole c =
    sym (first_hit 1 _ _ (ap not (sym (c.is_whole.ensures c.args.h)) ∙ c.if-not-is_whole.true-raw))

pub in_form-requires : goal.in_form-requires
in_form-requires c = whole_in c

pub returns-then-not-in_form : goal.returns-then-not-in_form
returns-then-not-in_form c =
    sym (first_miss 1 _ _ (ap not (whole_in c.before.before))
    ∙ first_hit 2 _ _ (ap not (sym c.in_form.ensures) ∙ c.if-not-in_form.true-raw))

pub returns : goal.returns
returns c =
    sym (first_miss 1 _ _ (ap not (whole_in c.before.before))
    ∙ first_miss 2 _ _ (ap not (sym c.in_form.ensures) ∙ c.if-not-in_form.false-raw) ∙ first_none)
