-- `edit_curve::direction_is_taken` meets its contract: the nodes are those of the row. Assumes nothing.
use mathlib.Core.Path.{refl, ◌∙◌}
use native.Mathlib.Omega.{arith}
use Rattle.integers.specs.Signs.{sent}
use Rattle.curves.specs.Curves.{curve_of}
use Rattle.map_rows.specs.Rows.{edge_at}
use Rattle.map_rows.proofs.Rows.{edge-row_of}
use Rattle.reason_departures.proofs.Taken.{direction_is}
use Rattle.edit_curve.proofs.direction_is_taken.Goals as goal

pub returns : goal.returns
returns c =
    let a = c.args in
    c.direction_taken.ensures
    ∙ direction_is c.args.edges.ranged a.i (edge_at a.edges.rows.now a.i).number (curve_of a.c.now)
    (record { is = λ t. refl; none = λ t j b q. absurd (omega arith) })
    (sent c.start_of-u.type_inv ∙ c.start_of-u.ensures) (sent c.end_of-v.type_inv ∙ c.end_of-v.ensures)

pub start_of-u-requires : goal.start_of-u-requires
start_of-u-requires c = edge-row_of c.args.edges.ranged c.args.i c.requires.0

pub end_of-v-requires : goal.end_of-v-requires
end_of-v-requires c = edge-row_of c.args.edges.ranged c.args.i c.requires.0
