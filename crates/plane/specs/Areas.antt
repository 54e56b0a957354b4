-- The doubled area of a triangle, and the turn that its sign is.
use Rattle.std.specs.Prelude.{Bool, true, false, ℤ, pos, ◌-ℤ◌, ◌*ℤ◌}
use Rattle.integers.specs.Order.{Sign, negative, null, positive, sgn}
use Rattle.plane.specs.declared.Point.{Point}
use Rattle.plane.specs.declared.Turn.{Turn}
use Rattle.plane.specs.declared.Turn.TheVariants.{Left, Straight, Right}

-- doubled area of the triangle a b c: the cross product of b - a and c - a
unfoldable pub area : Point → Point → Point → ℤ
area a b c = (pos b.x -ℤ pos a.x) *ℤ (pos c.y -ℤ pos a.y) -ℤ (pos b.y -ℤ pos a.y) *ℤ
    (pos c.x -ℤ pos a.x)

-- left for a positive number, right for a negative one
abbrev pub turn_of : Sign → Turn
turn_of negative = Right
turn_of null = Straight
turn_of positive = Left

unfoldable pub turn : ℤ → Turn
turn z = turn_of (sgn z)

-- a turn to the left, a turn straight on
abbrev pub is_left : Turn → Bool
is_left Left = true
is_left Straight = false
is_left Right = false

abbrev pub straight : Turn → Bool
straight Left = false
straight Straight = true
straight Right = false

abbrev pub is_null : Sign → Bool
is_null negative = false
is_null null = true
is_null positive = false

abbrev pub is_positive : Sign → Bool
is_positive negative = false
is_positive null = false
is_positive positive = true
