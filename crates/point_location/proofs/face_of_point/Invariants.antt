-- `point_location::face_of_point` meets its contract: the edges from row i on, from the highest so far, are all edges
-- from none. Assumes nothing.
use mathlib.Core.Path.{◌≡◌}
use Rattle.std.specs.Prelude.{IfSome}
use Prim.Native.Nat.{◌-◌, ◌≤◌}
use Rattle.lists.specs.Scans.{fold}
use Rattle.lists.specs.Tables.{table}
use Rattle.map.specs.Faces.{face_of_point}
use Rattle.map_rows.specs.Rows.{edge_at, edge_map}
use Rattle.point_location.specs.Highest.{HighestFits, highest_floor, rowed}
use Rattle.point_location.proofs.Folds.{upper}
use Rattle.point_location.proofs.face_of_point.Given as goal

abbrev pub invariant-loop-i : goal.invariant-loop-i
invariant-loop-i l =
    (l.i ≤ l.edges.count) × IfSome l.best HighestFits
    × (upper (fold (rowed l.p) (highest_floor l.best) (table (edge_at l.edges.rows.now) l.i (l.edges.count - l.i)))
    ≡ face_of_point (edge_map l.edges.rows.now l.edges.count) l.p)

abbrev pub decreases-loop-i : goal.decreases-loop-i
decreases-loop-i l = l.edges.count - l.i
