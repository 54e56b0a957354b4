-- `curve_edits::Line::with_points` meets its contract: the points from `from` up to i are in the line. Assumes nothing.
use mathlib.Core.Path.{◌≡◌}
use mathlib.Core.List.{List, ◌++◌}
use Prim.Native.Nat.{◌+◌, ◌-◌, ◌≤◌}
use Rattle.lists.specs.Tables.{table}
use Rattle.plane.specs.declared.Point.{Point}
use Rattle.curves.specs.Curves.{point_at}
use Rattle.curve_edits.specs.Lines.{line_of}
use Rattle.curve_edits.proofs.Line.with_points.Given as goal

abbrev pub invariant-loop-i : goal.invariant-loop-i
invariant-loop-i l =
    (l.from ≤ l.i) × (l.i ≤ l.to) × ((ps : List Point) → l.initial.out ≡ line_of ps → l.out
    ≡ line_of (ps ++ table (point_at l.c) l.from (l.i - l.from))) × (l.out.count ≡ l.initial.out.count + (l.i - l.from))

abbrev pub decreases-loop-i : goal.decreases-loop-i
decreases-loop-i l = l.to - l.i
