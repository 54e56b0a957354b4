-- `piece_labels::join_rows` meets its contract: the last edges are joined. Assumes nothing.
use Prim.Native.Nat.{◌-◌, ◌≤◌}
use lib.ListN.{drop}
use Rattle.map.specs.Darts.{arcs}
use Rattle.map_rows.specs.Rows.{edge_map}
use Rattle.piece_labels.specs.Labels.{Leading}
use Rattle.piece_labels.proofs.join_rows.Given as goal

abbrev pub invariant-loop-k : goal.invariant-loop-k
invariant-loop-k l =
    (l.k ≤ l.count) × Leading (drop (l.count - l.k) (arcs (edge_map l.edges l.count))) l.nodes l.n l.labels

abbrev pub decreases-loop-k : goal.decreases-loop-k
decreases-loop-k l = l.count - l.k
