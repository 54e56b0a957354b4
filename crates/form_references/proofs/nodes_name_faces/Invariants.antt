-- `form_references::nodes_name_faces` meets its contract: the faces of the nodes from row i on exist if and only if all
-- do. Assumes nothing.
use Prim.Native.Nat.{◌-◌, ◌≤◌}
use mathlib.Core.Path.{◌≡◌}
use Rattle.lists.specs.Scans.{all_of}
use Rattle.lists.specs.Tables.{table}
use Rattle.map.specs.Form.{in_face}
use Rattle.map_rows.specs.Rows.{nodes_of, node_at}
use Rattle.form_ranges.specs.Ranges.{face_map}
use Rattle.form_references.proofs.nodes_name_faces.Given as goal

abbrev pub invariant-loop-i : goal.invariant-loop-i
invariant-loop-i l =
    (l.i ≤ l.n) × (all_of (λ k. in_face (face_map l.faces l.f) k.face) (table (node_at l.nodes) l.i (l.n - l.i))
    ≡ all_of (λ k. in_face (face_map l.faces l.f) k.face) (nodes_of l.nodes l.n))

abbrev pub decreases-loop-i : goal.decreases-loop-i
decreases-loop-i l = l.n - l.i
