-- `tables::replace_column` meets its contract: a sweep of the rows left, from what the rows passed left, is the sweep
-- of all. Assumes nothing.
use Prim.Native.Nat.{◌≤◌, ◌-◌, ◌+◌, ◌*◌}
use mathlib.Core.Path.{◌≡◌}
use lib.ListN.{length}
use Rattle.lists.specs.Tables.{sweep}
use Rattle.tables.specs.Tables.{replace_at}
use Rattle.tables.proofs.replace_column.Given as goal

abbrev pub invariant-loop-i : goal.invariant-loop-i
invariant-loop-i v =
    (v.i ≤ v.count) × (length v.t ≡ length v.initial.t)
    × (sweep (λ l j. replace_at v.old v.new l (j * v.w + v.k)) v.t v.i (v.count - v.i)
    ≡ sweep (λ l j. replace_at v.old v.new l (j * v.w + v.k)) v.initial.t 0 v.count)

abbrev pub decreases-loop-i : goal.decreases-loop-i
decreases-loop-i l = l.count - l.i
