-- `reason_curves::point_of` meets its contract: each cast keeps its coordinate. Assumes nothing.
use mathlib.Core.Path.{refl}
use Rattle.curves.specs.Curves.{coordinate}
use Rattle.curves.proofs.Runs.{and_left, and_right, coordinate-read, coordinate_cast}
use Rattle.map_rows.proofs.Points.{point_in}
use Rattle.reason_curves.proofs.point_of.Goals as goal

pub overflow_cast-result : goal.overflow_cast-result
overflow_cast-result c = coordinate_cast c.args.x (and_left (coordinate c.args.x) (coordinate c.args.y) c.requires)

pub overflow_cast-result-2 : goal.overflow_cast-result-2
overflow_cast-result-2 c = coordinate_cast c.args.y (and_right (coordinate c.args.x) (coordinate c.args.y) c.requires)

pub returns : goal.returns
returns c =
    let x = c.args.x in
    let y = c.args.y in
    let e = and_left (coordinate x) (coordinate y) c.requires in
    let f = and_right (coordinate x) (coordinate y) c.requires in
    rw (coordinate-read x e, coordinate-read y f) (refl, point_in x y e f)
