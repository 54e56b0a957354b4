use mathlib.Core.Path.{◌≡◌}
use lib.ListN.{length}
use Rattle.piece_faces.specs.Bits.{cells}
use Rattle.map_piece_faces.specs.InFaces.{dart_relates}
use Rattle.map_piece_faces.proofs.Passed.{Passed}
use Rattle.map_piece_faces.proofs.relate_darts.Given as goal

abbrev pub invariant-loop-s : goal.invariant-loop-s
invariant-loop-s l = (length l.graph ≡ cells)
    × Passed (dart_relates l.fn.starts l.fn.bears l.fn.labels) (length l.yielded) l.fn.graph l.graph
