-- `reason_sides::starts_at_end` meets its contract: cells that name nodes are compared as words. Assumes nothing.
use borrow.Author.Rules.{sfits_of}
use mathlib.Core.Path.{ap₂}
use mathlib.Core.Bool.{◌||◌}
use Rattle.map_rows.specs.Rows.{edge_at}
use Rattle.map_rows.proofs.Rows.{edge_cells_lem}
use Rattle.outcomes.proofs.Words.{number_test}
use Rattle.reason_sides.proofs.starts_at_end.Goals as goal

pub returns : goal.returns
returns c =
    let s = c in
    let l = s.args.edges.now in
    let own = edge_cells_lem l s.args.i s.requires.0.ranges in
    let row = edge_cells_lem l s.args.j s.requires.1.ranges in
    let start = sfits_of c.start-1.given in
    ap₂ ◌||◌
    (number_test _ _ (edge_at l s.args.j).start (edge_at l s.args.i).start start (sfits_of c.result-1.given)
    row.start own.start)
    (number_test _ _ (edge_at l s.args.j).start (edge_at l s.args.i).end start (sfits_of c.result-2-1.given)
    row.start own.end)
