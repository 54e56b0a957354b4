-- `form_ranges::nodes_ranged` meets its contract: the node rows from row i on are in range if and only if all are.
-- Assumes nothing.
use Prim.Native.Nat.{◌-◌, ◌≤◌}
use mathlib.Core.Path.{◌≡◌}
use Rattle.lists.specs.Scans.{all_of}
use Rattle.lists.specs.Tables.{table}
use Rattle.tables.specs.Tables.{row_at, rows}
use Rattle.map.specs.Form.{node_ranges}
use Rattle.form_ranges.proofs.nodes_ranged.Given as goal

abbrev pub invariant-loop-i : goal.invariant-loop-i
invariant-loop-i l = (l.i ≤ l.n) × (all_of node_ranges (table (row_at 4 l.nodes) l.i (l.n - l.i))
    ≡ all_of node_ranges (rows 4 l.n l.nodes))

abbrev pub decreases-loop-i : goal.decreases-loop-i
decreases-loop-i l = l.n - l.i
