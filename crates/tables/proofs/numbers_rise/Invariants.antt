-- `tables::numbers_rise` meets its contract: the numbers that are left rise from the last one on if and only if
-- all do. Assumes nothing.
use Prim.Native.Nat.{◌-◌, ◌*◌, ◌≤◌}
use mathlib.Core.Path.{◌≡◌}
use lib.IntN.{pos, nat_abs}
use lib.ListN.{get_or}
use Rattle.lists.specs.Tables.{table}
use Rattle.tables.specs.Tables.{numbered}
use Rattle.tables.proofs.numbers_rise.Given as goal

abbrev pub invariant-loop-i : goal.invariant-loop-i
invariant-loop-i l =
    (l.i ≤ l.count) × (numbered l.low l.next (table (λ j. nat_abs (get_or l.t (j * l.w) (pos 0))) l.i (l.count - l.i))
    ≡ numbered l.least l.next (table (λ j. nat_abs (get_or l.t (j * l.w) (pos 0))) 0 l.count))

abbrev pub decreases-loop-i : goal.decreases-loop-i
decreases-loop-i l = l.count - l.i
