-- `curve_edits::reversed_of` meets its contract: the last i points are in the line, the last first. Assumes nothing.
use mathlib.Core.Path.{◌≡◌}
use mathlib.Core.List.{[], ◌++◌}
use Prim.Native.Nat.{◌-◌, ◌≤◌}
use Rattle.lists.specs.Tables.{table}
use Rattle.curves.specs.Curves.{point_at}
use Rattle.curve_edits.specs.Lines.{line_of}
use Rattle.curve_edits.proofs.reversed_of.Given as goal

abbrev pub invariant-loop-i : goal.invariant-loop-i
invariant-loop-i l =
    (l.i ≤ l.n) × (l.out ≡ line_of ([] ++ table (λ j. point_at l.c (l.n - 1 - j)) 0 (l.i - 0))) × (l.out.count ≡ l.i)

abbrev pub decreases-loop-i : goal.decreases-loop-i
decreases-loop-i l = l.n - l.i
