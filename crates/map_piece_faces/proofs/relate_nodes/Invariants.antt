-- `map_piece_faces::relate_nodes` meets its contract: the matrix has what the nodes that are passed relate.
-- Assumes nothing.
use mathlib.Core.Path.{◌≡◌}
use Prim.Native.Nat.{◌-◌, ◌≤◌}
use lib.ListN.{length}
use Rattle.piece_faces.specs.Bits.{cells}
use Rattle.map_piece_faces.specs.InFaces.{node_relates}
use Rattle.map_piece_faces.proofs.Passed.{Passed}
use Rattle.map_piece_faces.proofs.relate_nodes.Given as goal

abbrev pub invariant-loop-i : goal.invariant-loop-i
invariant-loop-i l =
    (l.i ≤ l.n) × (length l.graph ≡ cells) × Passed (node_relates l.nodes l.faces l.count) l.i l.initial.graph l.graph

abbrev pub decreases-loop-i : goal.decreases-loop-i
decreases-loop-i l = l.n - l.i
