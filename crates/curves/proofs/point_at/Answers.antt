-- `curves::point_at` meets its contract: the numbers of a run are coordinates, so each cast keeps its number. Assumes
-- nothing.
use mathlib.Core.Path.{refl}
use Prim.Native.Nat.{◌+◌, ◌*◌}
use Rattle.curves.proofs.Runs.{cell_cast, cell-read, point_in}
use Rattle.curves.proofs.point_at.Goals as goal

pub overflow_cast-result : goal.overflow_cast-result
overflow_cast-result c = cell_cast c.requires.0 (c.args.i * 2)

pub overflow_cast-result-2 : goal.overflow_cast-result-2
overflow_cast-result-2 c = cell_cast c.requires.0 (c.args.i * 2 + 1)

pub returns : goal.returns
returns c =
    let i = c.args.i in
    let run = c.requires.0 in
    rw (cell-read run (i * 2), cell-read run (i * 2 + 1)) (refl, point_in run i)
