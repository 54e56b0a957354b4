-- How often segments wind around what lies just left, and just right, of a departure from a point: their winding number
-- around the point itself, and what departs up to there, counterclockwise from straight down. Definitions only.
use Rattle.std.specs.Prelude.{Bool, not, ◌&&◌, ◌||◌, List, ℕ, ◌+◌, ◌%◌, ltb, ℤ, ◌+ℤ◌, ◌-ℤ◌}
use Rattle.integers.specs.Order.{sgn}
use Rattle.integers.specs.Totals.{total}
use Rattle.lists.specs.Tests.{same}
use Rattle.plane.specs.declared.Point.{Point}
use Rattle.plane.specs.Points.{same_point}
use Rattle.plane.specs.Areas.{is_positive}
use Rattle.plane.specs.Directions.{Way, way_to, class, cross}
use Rattle.plane.specs.Below.{Segment}
use Rattle.winding.specs.Winding.{one, signed_below}

-- the classes of directions, counterclockwise from just after straight down: (+,-) comes first, straight down last
abbrev pub since_down : ℕ → ℕ
since_down c = (c + 1) % 8

-- so counted, w comes no later than v
unfoldable pub up_to : Way → Way → Bool
up_to v w =
    ltb (since_down (class w)) (since_down (class v))
    || same (since_down (class w)) (since_down (class v)) && not (is_positive (sgn (cross v w)))

-- 1 or -1 where the segment, or its reverse, departs from v no later than w
unfoldable pub departs_up_to : Point → Way → Segment → ℤ
departs_up_to v w s =
    one (same_point s.from v && up_to w (way_to s.from s.to))
    -ℤ one (same_point s.to v && up_to w (way_to s.to s.from))

-- the same before w
unfoldable pub departs_before : Point → Way → Segment → ℤ
departs_before v w s =
    one (same_point s.from v && not (up_to (way_to s.from s.to) w))
    -ℤ one (same_point s.to v && not (up_to (way_to s.to s.from) w))

-- how often they wind around what lies just left, and just right, of the way from v to z
unfoldable pub left_at : List Segment → Point → Point → ℤ
left_at l v z = total (λ s. signed_below v s +ℤ departs_up_to v (way_to v z) s) l

unfoldable pub right_at : List Segment → Point → Point → ℤ
right_at l v z = total (λ s. signed_below v s +ℤ departs_before v (way_to v z) s) l
