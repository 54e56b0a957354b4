-- `edit_curve::check_turns` meets its contract: each test answers its reason, in order. Assumes nothing.
use mathlib.Core.Path.{sym, ◌∙◌}
use Rattle.outcomes.proofs.Results.{number_some, handed_number}
use Rattle.edit_curve.proofs.ChangeReasons.{turn-taken, turn-meeting, turn-turned, turn-free}
use Rattle.edit_curve.proofs.check_turns.Goals as goal

pub returns-then-direction_is_taken : goal.returns-then-direction_is_taken
returns-then-direction_is_taken c =
    let a = c.args in
    turn-taken a.nodes.rows.now a.nodes.count a.edges.rows.now a.edges.count a.i a.c.now
    c.direction_is_taken.ensures c.if-direction_is_taken.true

pub returns-in_err-check_meeting : goal.returns-in_err-check_meeting
returns-in_err-check_meeting c =
    let a = c.args in
    handed_number _ _ c.from_residual.ensures.1
    ∙ turn-meeting a.nodes.rows.now a.nodes.count a.edges.rows.now a.edges.count a.i a.c.now
    c.direction_is_taken.ensures c.if-direction_is_taken.false c.in_err-check_meeting.ensures
    (number_some c.in_err-check_meeting.field-0.0)

pub returns-then-order_changes : goal.returns-then-order_changes
returns-then-order_changes c =
    let a = c.args in
    turn-turned a.nodes.rows.now a.nodes.count a.edges.rows.now a.edges.count a.i a.c.now
    c.direction_is_taken.ensures c.if-direction_is_taken.false
    (sym c.in_ok-check_meeting.ensures) c.order_changes.ensures c.if-order_changes.true

pub returns : goal.returns
returns c =
    let a = c.args in
    turn-free a.nodes.rows.now a.nodes.count a.edges.rows.now a.edges.count a.i a.c.now
    c.direction_is_taken.ensures c.if-direction_is_taken.false
    (sym c.in_ok-check_meeting.ensures) c.order_changes.ensures c.if-order_changes.false
