-- `reason_curves::check_meeting` meets its contract: 14, or the number of what was found. Assumes nothing.
use mathlib.Core.Path.{sym, ap, ◌∙◌}
use Rattle.curves.specs.Curves.{curve_of}
use Rattle.map.specs.Reasons.{edge_meeting, contact_reason}
use Rattle.map.proofs.Reasons.{first_hit, first_miss, first_contact}
use Rattle.reason_curves.specs.Sent.{edges_but}
use Rattle.reason_curves.proofs.check_meeting.Goals as goal

pub returns-then-node_inside : goal.returns-then-node_inside
returns-then-node_inside c = sym (first_hit 14 _ _ (sym c.node_inside.ensures ∙ c.if-node_inside.true))

pub returns : goal.returns
returns c =
    let a = c.args in
    c.check_contact.ensures ∙ ap contact_reason c.edge_meeting.ensures
    ∙ sym (first_contact (edge_meeting (edges_but a.edges.rows.now a.edges.count a.own) (curve_of a.c.now)))
    ∙ sym (first_miss 14 _ _ (sym c.node_inside.ensures ∙ c.if-node_inside.false))
