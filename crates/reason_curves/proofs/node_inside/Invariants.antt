-- `reason_curves::node_inside` meets its contract: a node from row i on lies inside the curve if and only if one does.
-- Assumes nothing.
use mathlib.Core.Path.{◌≡◌}
use mathlib.Core.Bool.{Bool, not, ◌&&◌}
use Prim.Native.Nat.{◌-◌, ◌≤◌}
use Rattle.lists.specs.Scans.{any_of}
use Rattle.lists.specs.Tables.{table}
use Rattle.plane.specs.declared.Point.{Point}
use Rattle.curves.specs.Curves.{Curve, curve_of}
use Rattle.curves.specs.Tests.{on_curve}
use Rattle.map.specs.Rows.{Node}
use Rattle.map.specs.Reasons.{node_inside, is_end}
use Rattle.map_rows.specs.Rows.{node_at, node_map}
use Rattle.reason_curves.proofs.node_inside.Given as goal

-- the point lies on the curve, and is no end of it
abbrev pub inner : Curve → Point → Bool
inner c p = on_curve c p && not (is_end c p)

abbrev pub invariant-loop-i : goal.invariant-loop-i
invariant-loop-i l = (l.i ≤ l.nodes.count)
    × (any_of (λ (d : Node). inner (curve_of l.c) d.at) (table (node_at l.nodes.rows.now) l.i (l.nodes.count - l.i))
    ≡ node_inside (node_map l.nodes.rows.now l.nodes.count) (curve_of l.c))

abbrev pub decreases-loop-i : goal.decreases-loop-i
decreases-loop-i l = l.nodes.count - l.i
