-- Directions: eight direction classes by the signs of dx and dy; within a class the sign of the cross product orders
-- two departures. Together this is counterclockwise order.
use Rattle.std.specs.Prelude.{Bool, ◌&&◌, ◌||◌, ℕ, ◌+◌, ◌*◌, ltb, ℤ, pos, ◌-ℤ◌, ◌*ℤ◌}
use Rattle.integers.specs.Order.{Sign, negative, null, positive, sgn}
use Rattle.lists.specs.Tests.{same}
use Rattle.plane.specs.declared.Point.{Point}
use Rattle.plane.specs.Areas.{is_null, is_positive}

-- dx and dy of a departure
pub record Way : Type 0 where
  pub dx : ℤ
  pub dy : ℤ

-- from p to q
abbrev pub way_to : Point → Point → Way
way_to p q = record { dx = pos q.x -ℤ pos p.x; dy = pos q.y -ℤ pos p.y }

-- the eight classes; 8 where there is no direction
abbrev pub classes : Sign → Sign → ℕ
classes positive null = 0
classes positive positive = 1
classes null positive = 2
classes negative positive = 3
classes negative null = 4
classes negative negative = 5
classes null negative = 6
classes positive negative = 7
classes null null = 8

-- the place of a sign in a table: below, at and above 0
abbrev pub sign_place : Sign → ℕ
sign_place negative = 0
sign_place null = 1
sign_place positive = 2

-- the place of a direction's two signs in a table of nine
abbrev pub signs : Way → ℕ
signs v = sign_place (sgn v.dx) * 3 + sign_place (sgn v.dy)

unfoldable pub class : Way → ℕ
class v = classes (sgn v.dx) (sgn v.dy)

-- the cross product
unfoldable pub cross : Way → Way → ℤ
cross v w = v.dx *ℤ w.dy -ℤ v.dy *ℤ w.dx

-- v comes before w, counterclockwise from class 0 on
unfoldable pub before : Way → Way → Bool
before v w = ltb (class v) (class w) || same (class v) (class w) && is_positive (sgn (cross v w))

-- one direction
unfoldable pub same_way : Way → Way → Bool
same_way v w = same (class v) (class w) && is_null (sgn (cross v w))
