-- `form_ranges::edges_ranged` meets its contract: the edge rows from row i on are in range if and only if all are.
-- Assumes nothing.
use Prim.Native.Nat.{◌-◌, ◌≤◌}
use mathlib.Core.Path.{◌≡◌}
use mathlib.Core.Bool.{Bool}
use mathlib.Core.List.{List}
use lib.IntN.{ℤ}
use Rattle.lists.specs.Scans.{all_of}
use Rattle.lists.specs.Tables.{table}
use Rattle.tables.specs.Tables.{row_at, rows}
use Rattle.map.specs.Limits.{most_points, limit_of}
use Rattle.map.specs.Form.{edge_ranges_to}
use Rattle.form_ranges.proofs.edges_ranged.Given as goal

-- the test of a row, under the record
abbrev pub tested : ℤ → List ℤ → Bool
tested points = edge_ranges_to (most_points (limit_of points))

abbrev pub invariant-loop-i : goal.invariant-loop-i
invariant-loop-i l = (l.i ≤ l.n) × (all_of (tested l.points) (table (row_at 32 l.edges) l.i (l.n - l.i))
    ≡ all_of (tested l.points) (rows 32 l.n l.edges))

abbrev pub decreases-loop-i : goal.decreases-loop-i
decreases-loop-i l = l.n - l.i
