-- `tables::index_rows` meets its contract: row i lies in the table, the index keeps its length, and the rows that are
-- left do the rest. Assumes nothing.
use Prim.Native.Nat.{◌-◌, ◌≤◌}
use mathlib.Core.Path.{◌≡◌}
use lib.ListN.{length}
use Rattle.lists.specs.Tables.{sweep}
use Rattle.tables.specs.Tables.{indexed}
use Rattle.tables.proofs.index_rows.Given as goal

abbrev pub invariant-loop-i : goal.invariant-loop-i
invariant-loop-i l =
    (l.i ≤ l.count) × (length l.index ≡ length l.initial.index)
    × (sweep (indexed l.w l.t) l.index l.i (l.count - l.i) ≡ sweep (indexed l.w l.t) l.initial.index 0 l.count)

abbrev pub decreases-loop-i : goal.decreases-loop-i
decreases-loop-i l = l.count - l.i
