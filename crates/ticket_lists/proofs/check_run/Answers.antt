-- `ticket_lists::check_run` meets its contract: creation's reasons, and 20 behind them. Assumes nothing.
use mathlib.Core.Path.{◌≡◌, refl, sym, ap, ◌∙◌}
use mir.Syntax.{w64}
use mir.Facts.{to_z-of_z}
use Rattle.map.specs.Reasons.{first_reason}
use Rattle.map.specs.Rows.{Lent, lent}
use Rattle.map.specs.Refusals.{number, refusal_of}
use Rattle.map.specs.Ticket.{create_reasons}
use Rattle.map.specs.declared.Head.{Head}
use Rattle.map.proofs.Reasons.{first_hit, first_miss, first_none, first_append, first_after}
use Rattle.outcomes.proofs.Results.{handed_number, number_some}
use Rattle.ticket_lists.proofs.check_run.Lts as lts
use Rattle.ticket_lists.proofs.check_run.Tie as tie
use Rattle.ticket_lists.proofs.check_run.Reads as reads
use Rattle.ticket_lists.proofs.check_run.Goals as goal

-- places in the code, by their names in what is generated
abbrev After-check_create : Type 0
After-check_create = lts.After-check_create tie.the-claims reads.Pre reads.Post tie.handed_clauses

abbrev In_ok-check_create : Type 0
In_ok-check_create = lts.Past-After-known_told tie.the-claims reads.Pre reads.Post tie.handed_clauses

-- creation's first reason, of the number as it was passed
created : (c : After-check_create) (h : Head) → let a = c.args in
    first_reason (create_reasons (lent a.nodes.now a.edges.now a.faces.now h) a.points) ≡ refusal_of c.check_create.result
created c h =
    let a = c.args in
    ap (λ k. first_reason (create_reasons (lent a.nodes.now a.edges.now a.faces.now h) k))
    (sym (to_z-of_z {w = w64} c.ranges.points)) ∙ sym (c.check_create.ensures h)

-- none of these holds
passed : (c : In_ok-check_create) (h : Head) → let a = c.args in
    first_reason (create_reasons (lent a.nodes.now a.edges.now a.faces.now h) a.points) ≡ 0
passed c h = created c.before.before h ∙ ap refusal_of c.in_ok-check_create.was

pub returns-in_err-check_create : goal.returns-in_err-check_create
returns-in_err-check_create c h =
    let s = c.before.before.before.before in
    let e = c.in_err-check_create.field-0.0 in
    let a = c.args in
    handed_number c.from_residual.result e c.from_residual.ensures.1
    ∙ sym (first_append (create_reasons (lent a.nodes.now a.edges.now a.faces.now h) a.points) _ (number e)
    (number_some e) (created s h ∙ ap refusal_of c.in_err-check_create.was))

pub returns-then-refusals-n : goal.returns-then-refusals-n
returns-then-refusals-n c h =
    let a = c.args in
    sym (first_after (create_reasons (lent a.nodes.now a.edges.now a.faces.now h) a.points) _ refl (passed c.before.before h)
    ∙ first_hit 20 _ _ c.if-refusals-n.true)

pub returns : goal.returns
returns c h =
    let a = c.args in
    sym (first_after (create_reasons (lent a.nodes.now a.edges.now a.faces.now h) a.points) _ refl (passed c.before.before h)
    ∙ first_miss 20 _ _ c.if-refusals-n.false ∙ first_none)
