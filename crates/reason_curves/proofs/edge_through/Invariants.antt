-- `reason_curves::edge_through` meets its contract: an edge from row i on passes through the point if and only if one
-- does. Assumes nothing.
use mathlib.Core.Path.{◌≡◌}
use mathlib.Core.Bool.{Bool}
use Prim.Native.Nat.{◌-◌, ◌≤◌}
use Rattle.lists.specs.Scans.{any_of}
use Rattle.lists.specs.Tables.{table}
use Rattle.plane.specs.declared.Point.{Point}
use Rattle.curves.specs.Tests.{on_curve}
use Rattle.map.specs.Rows.{Edge}
use Rattle.map.specs.Reasons.{edge_through}
use Rattle.map_rows.specs.Rows.{edge_at, edge_map}
use Rattle.reason_curves.proofs.edge_through.Given as goal

-- the edge passes through the point
abbrev pub through : Point → Edge → Bool
through p e = on_curve e.curve p

abbrev pub invariant-loop-i : goal.invariant-loop-i
invariant-loop-i l = (l.i ≤ l.edges.count)
    × (any_of (through l.p) (table (edge_at l.edges.rows.now) l.i (l.edges.count - l.i))
    ≡ edge_through (edge_map l.edges.rows.now l.edges.count) l.p)

abbrev pub decreases-loop-i : goal.decreases-loop-i
decreases-loop-i l = l.edges.count - l.i
