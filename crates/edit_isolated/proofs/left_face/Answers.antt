-- `edit_isolated::left_face` meets its contract. Assumes nothing.
use mathlib.Core.Path.{◌∙◌}
use Rattle.integers.specs.Signs.{sent}
use Rattle.map_rows.proofs.Rows.{edge_cells_lem}
use Rattle.edit_isolated.proofs.left_face.Goals as goal

pub returns : goal.returns
returns c = sent c.result-1.given ∙ (edge_cells_lem c.args.edges.now c.args.i
    c.requires.ranges).left
