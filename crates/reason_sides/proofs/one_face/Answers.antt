-- `reason_sides::one_face` meets its contract: cells that name faces are compared as words. Assumes nothing.
use borrow.Author.Rules.{sfits_of}
use Rattle.map_rows.specs.Rows.{edge_at}
use Rattle.map_rows.proofs.Rows.{edge_cells_lem}
use Rattle.outcomes.proofs.Words.{number_test}
use Rattle.reason_sides.proofs.one_face.Goals as goal

pub returns : goal.returns
returns c =
    let s = c in
    let l = s.args.edges.now in
    let k = edge_cells_lem l s.args.i s.requires.ranges in
    number_test _ _ (edge_at l s.args.i).left (edge_at l s.args.i).right (sfits_of c.result-1.given)
    (sfits_of c.result-2-1.given) k.left k.right
