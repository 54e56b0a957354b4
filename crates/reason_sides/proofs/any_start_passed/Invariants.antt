-- `reason_sides::any_start_passed` meets its contract: the start of an edge from row j on is passed over if and only if
-- that of one is. Assumes nothing.
use mathlib.Core.Path.{◌≡◌}
use Prim.Native.Nat.{◌-◌, ◌≤◌}
use Rattle.lists.specs.Scans.{any_of}
use Rattle.lists.specs.Tables.{table}
use Rattle.curves.specs.Curves.{curve_of}
use Rattle.map_rows.specs.Rows.{edge_at, edges_of}
use Rattle.reason_sides.specs.Passing.{start_passed}
use Rattle.reason_sides.proofs.any_start_passed.Given as goal

abbrev pub invariant-loop-j : goal.invariant-loop-j
invariant-loop-j l =
    let rows = l.edges.rows.now in
    let passed = start_passed (edge_at rows l.i) (curve_of l.c) in (l.j ≤ l.edges.count)
    × (any_of passed (table (edge_at rows) l.j (l.edges.count - l.j)) ≡ any_of passed (edges_of rows l.edges.count))

abbrev pub decreases-loop-j : goal.decreases-loop-j
decreases-loop-j l = l.edges.count - l.j
