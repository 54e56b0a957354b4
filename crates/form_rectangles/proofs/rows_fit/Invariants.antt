-- `form_rectangles::rows_fit` meets its contract: what is left of the rows decides. Assumes nothing.
use mathlib.Core.Path.{◌≡◌}
use Prim.Native.Nat.{◌-◌, ◌≤◌}
use Rattle.lists.specs.Scans.{all_of}
use Rattle.lists.specs.Tables.{table}
use Rattle.form_rectangles.specs.Merged.{row_fits}
use Rattle.form_rectangles.proofs.rows_fit.Given as goal

abbrev pub invariant-loop-k : goal.invariant-loop-k
invariant-loop-k l = (l.k ≤ l.n) × (all_of (row_fits l.faces l.boxes) (table (λ j. j) l.k (l.n - l.k))
    ≡ all_of (row_fits l.faces l.boxes) (table (λ j. j) 0 l.n))

abbrev pub decreases-loop-k : goal.decreases-loop-k
decreases-loop-k l = l.n - l.k
