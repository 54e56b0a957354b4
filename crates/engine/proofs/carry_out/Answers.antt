-- `engine::carry_out` meets its contract: 1 and 2 first, then the kinds' own reasons. Assumes nothing.
use mathlib.Core.Path.{sym, ap, ◌∙◌}
use Rattle.std.specs.Prelude.{Result}
use Rattle.map.specs.declared.Refusal.{Refusal}
use Rattle.map.specs.Rows.{lent}
use Rattle.outcomes.specs.declared.Carried.{Carried}
use Rattle.outcomes.specs.Outcomes.{done_of, outcome}
use Rattle.outcomes.proofs.Results.{number_some, handed_on}
use Rattle.form.proofs.Lent.{lent_whole, lent_in_form}
use Rattle.engine.proofs.Answers.{ticket-turned}
use Rattle.engine.proofs.carry_out.Goals as goal

pub returns-in_err-check_lent : goal.returns-in_err-check_lent
returns-in_err-check_lent c =
    let a = c.args in
    let e = c.in_err-check_lent.field-0.0 in
    ap (λ (r : Result Carried Refusal). outcome a.nodes.now a.edges.now a.faces.now (done_of a.h r))
    (handed_on c.from_residual.result e c.from_residual.ensures.1)
    ∙ sym (ticket-turned (lent a.nodes.now a.edges.now a.faces.now a.h) (number_some e) a.t.now
    (sym c.in_err-check_lent.ensures))

pub edit-requires : goal.edit-requires
edit-requires c =
    let a = c.args in
    let l = lent a.nodes.now a.edges.now a.faces.now a.h in
    let e = sym c.in_ok-check_lent.ensures in
    record { whole = lent_whole l e; in_form = lent_in_form l e }
