-- `form_references::find_nexts` meets its contract, as `find_rows` does. Assumes nothing.
use mathlib.Core.Path.{◌≡◌}
use Prim.Native.Nat.{◌*◌, ◌-◌, ◌≤◌}
use lib.ListN.{length}
use Rattle.lists.specs.Scans.{all_of}
use Rattle.lists.specs.Tables.{table}
use Rattle.darts.specs.Positions.{NextsNamed}
use Rattle.form_references.specs.Sides.{has_link, both_sides, all_sides}
use Rattle.form_references.proofs.find_nexts.Given as goal

abbrev pub invariant-loop-i : goal.invariant-loop-i
invariant-loop-i l =
    (l.i ≤ l.count) × (length l.nexts ≡ length l.initial.nexts)
    × (all_of (both_sides (has_link l.edges l.count) l.edges 3) (table (λ i. i) l.i (l.count - l.i))
    ≡ all_sides (has_link l.edges l.count) l.edges 3 l.count)
    × NextsNamed l.edges l.count l.nexts (l.i * 2)

abbrev pub decreases-loop-i : goal.decreases-loop-i
decreases-loop-i l = l.count - l.i
