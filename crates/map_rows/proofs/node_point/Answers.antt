-- `map_rows::node_point` meets its contract: the numbers of a node row in range are coordinates. Assumes nothing.
use Prim.Native.Nat.{◌+◌, ◌*◌}
use lib.IntN.{pos}
use lib.ListN.{get_or}
use Rattle.curves.proofs.Runs.{coordinate-read, coordinate_cast}
use Rattle.map_rows.proofs.Points.{point_in, node_x, node_y, node_point_is}
use Rattle.map_rows.proofs.node_point.Goals as goal

pub overflow_cast-result : goal.overflow_cast-result
overflow_cast-result c = coordinate_cast (get_or c.args.nodes.now (c.args.i * 4 + 1) (pos 0))
    (node_x c.requires)

pub overflow_cast-result-2 : goal.overflow_cast-result-2
overflow_cast-result-2 c = coordinate_cast (get_or c.args.nodes.now (c.args.i * 4 + 2) (pos 0))
    (node_y c.requires)

pub returns : goal.returns
returns c =
    let row = c.requires in
    let x = get_or c.args.nodes.now (c.args.i * 4 + 1) (pos 0) in
    let y = get_or c.args.nodes.now (c.args.i * 4 + 2) (pos 0) in
    rw (coordinate-read x (node_x row), coordinate-read y (node_y row))
    (node_point_is row, point_in x y (node_x row) (node_y row))
