-- `piece_labels::flatten` meets its contract: the rows that are passed have the label of their root. Assumes nothing.
use Prim.Native.Nat.{◌-◌, ◌≤◌}
use Rattle.map.specs.Darts.{arcs}
use Rattle.map_rows.specs.Rows.{edge_map}
use Rattle.piece_labels.proofs.Flats.{Flat}
use Rattle.piece_labels.proofs.flatten.Given as goal

abbrev pub invariant-loop-i : goal.invariant-loop-i
invariant-loop-i l = (l.i ≤ l.n) × Flat (arcs (edge_map l.edges l.count)) l.nodes l.n l.labels l.i

abbrev pub decreases-loop-i : goal.decreases-loop-i
decreases-loop-i l = l.n - l.i
