-- `edit_isolated::check_isolated` meets its contract: each test answers its reason, in order. Assumes nothing.
use mathlib.Core.Path.{sym, ◌∙◌}
use Rattle.map_rows.proofs.Rows.{node-row_of}
use Rattle.outcomes.proofs.Results.{number_some, handed_number}
use Rattle.edit_isolated.proofs.IsolatedReasons.{isolated_ends, isolated-joined, both-isolated, isolated-apart}
use Rattle.edit_isolated.proofs.IsolatedReasons.{isolated_late}
use Rattle.edit_isolated.proofs.check_isolated.Goals as goal

pub returns-in_err-check_curve : goal.returns-in_err-check_curve
returns-in_err-check_curve c =
    let a = c.args in
    handed_number _ _ c.from_residual.ensures.1
    ∙ isolated_ends a.nodes.now a.edges.now a.faces.now a.h a.u a.v a.c.now
    c.in_err-check_curve.ensures (number_some c.in_err-check_curve.field-0.0)

pub returns-then-not_both_isolated : goal.returns-then-not_both_isolated
returns-then-not_both_isolated c =
    let a = c.args in
    isolated-joined a.nodes.now a.edges.now a.faces.now a.h a.u a.v a.c.now
    (sym c.in_ok-check_curve.ensures) c.not_both_isolated.ensures c.if-not_both_isolated.true

pub faces_differ-requires : goal.faces_differ-requires
faces_differ-requires c =
    let a = c.args in
    let p = c.requires in
    let w = both-isolated a.nodes.now a.edges.now a.faces.now a.h a.u a.v a.c.now
    (sym c.in_ok-check_curve.ensures) c.not_both_isolated.ensures c.if-not_both_isolated.false in
    (node-row_of p.0.node_table_lem.rows a.u p.1, node-row_of p.0.node_table_lem.rows a.v p.2, w.0, w.1)

pub returns-then-faces_differ : goal.returns-then-faces_differ
returns-then-faces_differ c =
    let a = c.args in
    isolated-apart a.nodes.now a.edges.now a.faces.now a.h a.u a.v a.c.now
    (sym c.in_ok-check_curve.ensures) c.not_both_isolated.ensures c.if-not_both_isolated.false
    c.faces_differ.ensures c.if-faces_differ.true

pub returns : goal.returns
returns c =
    let a = c.args in
    isolated_late a.nodes.now a.edges.now a.faces.now a.h a.u a.v a.c.now
    (sym c.in_ok-check_curve.ensures) c.not_both_isolated.ensures c.if-not_both_isolated.false
    c.faces_differ.ensures c.if-faces_differ.false c.check_meeting_or_room.ensures

pub check_curve-requires : goal.check_curve-requires
check_curve-requires c = let p = c.requires in let t = p.0.node_table_lem.rows in
    (node-row_of t c.args.u p.1, node-row_of t c.args.v p.2, p.3)

pub not_both_isolated-requires : goal.not_both_isolated-requires
not_both_isolated-requires c = let p = c.requires in let t = p.0.node_table_lem.rows in
    (node-row_of t c.args.u p.1, node-row_of t c.args.v p.2)
