-- `form_references::curves_fit` meets its contract: the curves from row i on fit if and only if all do. Assumes
-- nothing.
use Prim.Native.Nat.{◌-◌, ◌≤◌}
use mathlib.Core.Path.{◌≡◌}
use Rattle.lists.specs.Scans.{all_of}
use Rattle.lists.specs.Tables.{table}
use Rattle.map.specs.Form.{curve_fits}
use Rattle.map_rows.specs.Rows.{edges_of, edge_at, node_map}
use Rattle.form_references.proofs.curves_fit.Given as goal

abbrev pub invariant-loop-i : goal.invariant-loop-i
invariant-loop-i l =
    (l.i ≤ l.count) × (all_of (curve_fits (node_map l.nodes l.n)) (table (edge_at l.edges) l.i (l.count - l.i))
    ≡ all_of (curve_fits (node_map l.nodes l.n)) (edges_of l.edges l.count))

abbrev pub decreases-loop-i : goal.decreases-loop-i
decreases-loop-i l = l.count - l.i
