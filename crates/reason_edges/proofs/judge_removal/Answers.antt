-- `reason_edges::judge_removal` meets its contract: the edge is found, or 4. Assumes nothing.
use Rattle.map_rows.proofs.Rows.{edge-row_of, edge_rows_rising}
use Rattle.head.proofs.Words.{edges_natural, edges_read}
use Rattle.outcomes.proofs.Formed.{counted, edge_rows_lem}
use Rattle.outcomes.proofs.FoundRows.{edge_in}
use mathlib.Core.Path.{◌∙◌}
use Rattle.outcomes.proofs.Results.{handed_number}
use Rattle.reason_edges.proofs.Removing.{row_told, removal_missing, removal_makes, removal_found}
use Rattle.reason_edges.proofs.judge_removal.Goals as goal

pub returns-in_default-clause-refused : goal.returns-in_default-clause-refused
returns-in_default-clause-refused c =
    let r = row_told c.requires c.ranges.edge c.to_usize-e.ensures c.find_row.ensures c.in_default.is in
    removal_missing c.requires c.args.how c.args.edge r

pub makes_face-makes-requires : goal.makes_face-makes-requires
makes_face-makes-requires c =
    let r = row_told c.requires c.ranges.edge c.to_usize-e.ensures c.find_row.ensures c.in-Some.is in
    edge-row_of (edge_rows_lem c.requires) _ (edge_in c.requires c.args.edge _ r)

pub returns-in_err-check_face-clause-refused : goal.returns-in_err-check_face-clause-refused
returns-in_err-check_face-clause-refused c =
    let r = row_told c.requires c.ranges.edge c.to_usize-e.ensures c.find_row.ensures c.in-Some.is in
    handed_number _ _ c.from_residual.ensures.1
    ∙ removal_found c.requires c.args.edge _ r c.args.how c.makes_face-makes.ensures c.in_err-check_face.ensures

pub returns-clause-refused : goal.returns-clause-refused
returns-clause-refused c =
    let r = row_told c.requires c.ranges.edge c.to_usize-e.ensures c.find_row.ensures c.in-Some.is in
    removal_found c.requires c.args.edge _ r c.args.how c.makes_face-makes.ensures c.in_ok-check_face.ensures

pub returns-clause-judged : goal.returns-clause-judged
returns-clause-judged c =
    let r = row_told c.requires c.ranges.edge c.to_usize-e.ensures c.find_row.ensures c.in-Some.is in
    (r, removal_makes c.requires c.args.edge _ r c.args.how c.makes_face-makes.ensures)

pub to_usize-e-requires : goal.to_usize-e-requires
to_usize-e-requires c = edges_natural (counted c.requires)

pub find_row-requires : goal.find_row-requires
find_row-requires c = rw (edges_read (counted c.requires) c.to_usize-e.ensures) (edge_rows_rising (edge_rows_lem c.requires))

pub check_face-requires : goal.check_face-requires
check_face-requires c = counted c.requires
