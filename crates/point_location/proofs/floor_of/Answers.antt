-- `point_location::floor_of` meets its contract: the ends are ordered by x, and the upper side goes by which end is the
-- first. Assumes nothing.
use mathlib.Core.Path.{refl}
use native.Mathlib.Omega.{arith}
use borrow.Author.Tests.{lt-ltb, le-ltb, le-leb, lt-leb}
use Rattle.point_location.proofs.floor_of.Goals as goal
use Rattle.point_location.proofs.floor_of.Goals.{then-a-b, else-a-b}

pub returns-then-a-b-2 : goal.returns-then-a-b-2
returns-then-a-b-2 c =
    let a = c.args in
    let p = c.requires in
    elim c.if-a-b.branch [
      | then-a-b w ↦ rw (w.t-10-is, le-leb a.a.x a.b.x w.if-a-b.true, lt-ltb a.a.x a.b.x c.if-a-b-2.true)
          (refl, record { from = p.0; to = p.1; upper = p.2 })
      | else-a-b w ↦ absurd (omega (arith, w.if-a-b.false, c.if-a-b-2.true))
    ]

pub returns-else-a-b-2 : goal.returns-else-a-b-2
returns-else-a-b-2 c =
    let a = c.args in
    let p = c.requires in
    elim c.if-a-b.branch [
      | then-a-b w ↦ rw (w.t-10-is, le-leb a.a.x a.b.x w.if-a-b.true, le-ltb a.a.x a.b.x c.if-a-b-2.false)
          (refl, record { from = p.0; to = p.1; upper = p.3 })
      | else-a-b w ↦ rw (w.t-10-is, lt-leb a.a.x a.b.x w.if-a-b.false, le-ltb a.a.x a.b.x c.if-a-b-2.false)
          (refl, record { from = p.1; to = p.0; upper = p.3 })
    ]
