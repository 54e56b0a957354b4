-- `reason_sides::node_passed` meets its contract: an isolated node from row k on is passed over if and only if one is.
-- Assumes nothing.
use mathlib.Core.Path.{◌≡◌}
use mathlib.Core.Bool.{Bool, ◌&&◌}
use Prim.Native.Nat.{◌-◌, ◌≤◌}
use Rattle.lists.specs.Scans.{any_of, is_some}
use Rattle.lists.specs.Tables.{table}
use Rattle.curves.specs.Curves.{Curve, curve_of}
use Rattle.map.specs.Rows.{Node}
use Rattle.map.specs.Reasons.{isolated_points}
use Rattle.map_rows.specs.Rows.{node_at, node_map}
use Rattle.reason_sides.specs.Passing.{passes_over}
use Rattle.reason_sides.proofs.node_passed.Given as goal

-- an isolated node that is passed over
abbrev pub passed : Curve → Curve → Node → Bool
passed a b d = is_some d.face && passes_over a b d.at

abbrev pub invariant-loop-k : goal.invariant-loop-k
invariant-loop-k l = (l.k ≤ l.nodes.count)
    × (any_of (passed (curve_of l.a) (curve_of l.b)) (table (node_at l.nodes.rows.now) l.k (l.nodes.count - l.k))
    ≡ any_of (passes_over (curve_of l.a) (curve_of l.b)) (isolated_points (node_map l.nodes.rows.now l.nodes.count)))

abbrev pub decreases-loop-k : goal.decreases-loop-k
decreases-loop-k l = l.nodes.count - l.k
