-- `form_ranges::faces_ranged` meets its contract: the face rows from row i on are in range if and only if all are.
-- Assumes nothing.
use Prim.Native.Nat.{◌-◌, ◌≤◌}
use mathlib.Core.Path.{◌≡◌}
use Rattle.lists.specs.Scans.{all_of}
use Rattle.lists.specs.Tables.{table}
use Rattle.tables.specs.Tables.{row_at, rows}
use Rattle.map.specs.Form.{face_ranges}
use Rattle.form_ranges.proofs.faces_ranged.Given as goal

abbrev pub invariant-loop-i : goal.invariant-loop-i
invariant-loop-i l = (l.i ≤ l.n) × (all_of face_ranges (table (row_at 5 l.faces) l.i (l.n - l.i))
    ≡ all_of face_ranges (rows 5 l.n l.faces))

abbrev pub decreases-loop-i : goal.decreases-loop-i
decreases-loop-i l = l.n - l.i
