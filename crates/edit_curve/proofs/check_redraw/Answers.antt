-- `edit_curve::check_redraw` meets its contract: 22 behind the reasons that rows tell. Assumes nothing.
use mathlib.Core.Path.{sym, ◌∙◌}
use Rattle.outcomes.proofs.Results.{number_some, handed_number}
use Rattle.edge_rows.proofs.Formed.{held}
use Rattle.edit_curve.proofs.ChangeReasons.{redraw_changed, redraw_sides, redraw_free}
use Rattle.edit_curve.proofs.Changed.{change_reasons_lem}
use Rattle.edit_curve.proofs.check_redraw.Goals as goal

pub returns-in_err-check_change : goal.returns-in_err-check_change
returns-in_err-check_change c =
    let a = c.args in
    let p = c.requires in
    handed_number _ _ c.from_residual.ensures.1
    ∙ redraw_changed a.nodes.now a.edges.now a.h a.i a.u a.v a.c.now _
    c.in_err-check_change.ensures (number_some c.in_err-check_change.field-0.0)
    ∙ sym (change_reasons_lem p.0 a.i p.1 a.c.now a.u a.v p.2)

pub returns-then-sides_change : goal.returns-then-sides_change
returns-then-sides_change c =
    let a = c.args in
    let p = c.requires in
    redraw_sides a.nodes.now a.edges.now a.h a.i a.u a.v a.c.now _ (sym c.in_ok-check_change.ensures)
    (sym c.sides_change.ensures ∙ c.if-sides_change.true)
    ∙ sym (change_reasons_lem p.0 a.i p.1 a.c.now a.u a.v p.2)

pub returns : goal.returns
returns c =
    let a = c.args in
    let p = c.requires in
    redraw_free a.nodes.now a.edges.now a.h a.i a.u a.v a.c.now _ (sym c.in_ok-check_change.ensures)
    (sym c.sides_change.ensures ∙ c.if-sides_change.false)
    ∙ sym (change_reasons_lem p.0 a.i p.1 a.c.now a.u a.v p.2)

pub check_change-requires : goal.check_change-requires
check_change-requires c = let p = c.requires in (held p.0, p.1, p.2.start_in, p.2.end_in, p.3)
