-- `rectangles::write_rectangle` meets its contract: a sweep of the rows left, from what the rows passed left, is the
-- sweep of all. Assumes nothing.
use mathlib.Core.Path.{◌≡◌}
use Prim.Native.Nat.{◌-◌, ◌≤◌}
use lib.ListN.{length}
use Rattle.lists.specs.Tables.{sweep}
use Rattle.rectangles.specs.Boxes.{set_row}
use Rattle.rectangles.proofs.write_rectangle.Given as goal

abbrev pub invariant-loop-k : goal.invariant-loop-k
invariant-loop-k l =
    (l.k ≤ l.n) × (length l.faces ≡ length l.initial.faces)
    × (sweep (set_row l.face l.e) l.faces l.k (l.n - l.k) ≡ sweep (set_row l.face l.e) l.initial.faces 0 l.n)

abbrev pub decreases-loop-k : goal.decreases-loop-k
decreases-loop-k l = l.n - l.k
