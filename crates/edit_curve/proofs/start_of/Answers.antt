-- `edit_curve::start_of` meets its contract. Assumes nothing.
use mathlib.Core.Path.{◌∙◌}
use Rattle.integers.specs.Signs.{sent}
use Rattle.map_rows.proofs.Rows.{edge_cells_lem}
use Rattle.edit_curve.proofs.start_of.Goals as goal

pub returns : goal.returns
returns c = sent c.result-1.given ∙ (edge_cells_lem c.args.edges.now c.args.i
    c.requires.ranges).start
