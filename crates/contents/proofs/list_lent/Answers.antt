-- `contents::list_lent` meets its contract: 1 and 2 are looked at first. Assumes nothing.
use Rattle.std.specs.Prelude.{Result}
use mathlib.Core.Path.{sym, ap, ◌∙◌}
use lib.IntN.{ℤ}
use Rattle.map.specs.declared.Refusal.{Refusal}
use Rattle.map.specs.Refusals.{answer_of}
use Rattle.map.specs.Rows.{lent}
use Rattle.form.proofs.Lent.{lent_whole, lent_in_form}
use Rattle.outcomes.proofs.Results.{number_some, handed_on}
use Rattle.contents.proofs.Answers.{turned}
use Rattle.contents.proofs.list_lent.Goals as goal

pub returns-in_err-check_lent : goal.returns-in_err-check_lent
returns-in_err-check_lent c =
    let a = c.args in
    let e = c.in_err-check_lent.field-0.0 in
    ap (λ (r : Result ℤ Refusal). record { list = a.list.now; answer = answer_of r })
    (handed_on c.from_residual.result e c.from_residual.ensures.1)
    ∙ sym (turned (lent a.nodes.now a.edges.now a.faces.now a.h) a.list.now (number_some e)
    (sym c.in_err-check_lent.ensures))

pub list_contents-requires : goal.list_contents-requires
list_contents-requires c =
    let e = sym c.in_ok-check_lent.ensures in
    record { whole = lent_whole _ e; in_form = lent_in_form _ e }
