-- `form_references::find_rows` meets its contract: the rows of the edges that are passed are written down, and those
-- from row i on tell whether all exist. Assumes nothing.
use mathlib.Core.Path.{◌≡◌}
use Prim.Native.Nat.{◌*◌, ◌-◌, ◌≤◌}
use lib.ListN.{length}
use Rattle.lists.specs.Scans.{all_of}
use Rattle.lists.specs.Tables.{table}
use Rattle.darts.specs.Positions.{RowsNamed}
use Rattle.form_references.specs.Sides.{has_row, both_sides, all_sides}
use Rattle.form_references.proofs.find_rows.Given as goal

abbrev pub invariant-loop-i : goal.invariant-loop-i
invariant-loop-i l =
    (l.i ≤ l.count) × (length l.rows ≡ length l.initial.rows)
    × (all_of (both_sides (has_row l.w l.t l.n) l.edges l.k) (table (λ i. i) l.i (l.count - l.i)) ≡ all_sides (has_row l.w l.t l.n) l.edges l.k l.count)
    × RowsNamed l.w l.t l.n l.edges l.k l.rows (l.i * 2)

abbrev pub decreases-loop-i : goal.decreases-loop-i
decreases-loop-i l = l.count - l.i
