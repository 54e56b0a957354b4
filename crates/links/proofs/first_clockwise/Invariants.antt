-- `links::first_clockwise` meets its contract: the choice, with what is left, is the choice of all. Assumes nothing.
use Prim.Native.Nat.{◌*◌, ◌-◌, ◌≤◌}
use Rattle.plane.specs.Directions.{way_to}
use Rattle.darts.specs.Positions.{way_with}
use Rattle.links.proofs.ByRows.{Passed}
use Rattle.links.proofs.first_clockwise.Given as goal

abbrev pub invariant-loop-i : goal.invariant-loop-i
invariant-loop-i l =
    (l.i ≤ l.edges.count) × Passed (way_with l.edges.rows.now l.own l.c) (way_to l.v.from l.v.to) l.edges.rows.now l.node l.a l.b (l.edges.count * 2) l.h (l.i * 2)

abbrev pub decreases-loop-i : goal.decreases-loop-i
decreases-loop-i l = l.edges.count - l.i
