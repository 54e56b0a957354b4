-- `reason_curves::node_at` meets its contract: a row from i on holds another node at the point if and only if one does.
-- Assumes nothing.
use mathlib.Core.Path.{◌≡◌}
use mathlib.Core.Bool.{Bool, not, ◌&&◌}
use mathlib.Core.List.{List}
use Prim.Native.Nat.{ℕ, ◌-◌, ◌≤◌}
use lib.IntN.{ℤ}
use Rattle.lists.specs.Tests.{same}
use Rattle.lists.specs.Scans.{any_of}
use Rattle.lists.specs.Tables.{table}
use Rattle.plane.specs.declared.Point.{Point}
use Rattle.plane.specs.Points.{same_point}
use Rattle.map_rows.specs.Rows.{node_at}
use Rattle.reason_curves.proofs.node_at.Given as goal

-- another node than that of row `own` lies on the point
abbrev pub other : List ℤ → ℕ → Point → ℕ → Bool
other l own p i = not (same i own) && same_point (node_at l i).at p

abbrev pub invariant-loop-i : goal.invariant-loop-i
invariant-loop-i l = (l.i ≤ l.nodes.count)
    × (any_of (other l.nodes.rows.now l.own l.p) (table (λ i. i) l.i (l.nodes.count - l.i))
    ≡ any_of (other l.nodes.rows.now l.own l.p) (table (λ i. i) 0 l.nodes.count))

abbrev pub decreases-loop-i : goal.decreases-loop-i
decreases-loop-i l = l.nodes.count - l.i
