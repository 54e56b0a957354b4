-- Meeting: two segments meet when they share a point, of whole coordinates or not, decided by the signs of the doubled
-- triangle areas and, on one line, by coordinate ranges. What each answer means over rational points is proved in the
-- crate `geometry`.
use Rattle.std.specs.Prelude.{Bool, true, false, not, ◌&&◌, ◌||◌, ℕ, min, max, leb, ltb}
use Rattle.integers.specs.Order.{sgn}
use Rattle.plane.specs.declared.Point.{Point}
use Rattle.plane.specs.declared.Turn.{Turn}
use Rattle.plane.specs.declared.Turn.TheVariants.{Left, Straight, Right}
use Rattle.plane.specs.declared.Contact.{Contact}
use Rattle.plane.specs.declared.Contact.TheVariants.{None, Touch, Crossing, Stretch}
use Rattle.plane.specs.Points.{same_point}
use Rattle.plane.specs.Areas.{area, turn, is_null}

-- the ranges of a, b and of c, d have a number in common
unfoldable pub overlap : ℕ → ℕ → ℕ → ℕ → Bool
overlap a b c d = leb (min a b) (max c d) && leb (min c d) (max a b)

-- the ranges of a, b and of c, d have more than one number in common
unfoldable pub overlap_more : ℕ → ℕ → ℕ → ℕ → Bool
overlap_more a b c d = ltb (max (min a b) (min c d)) (min (max a b) (max c d))

-- two turns that are not both to the left and not both to the right
abbrev pub apart : Turn → Turn → Bool
apart Left Left = false
apart Left Straight = true
apart Left Right = true
apart Straight t = true
apart Right Left = true
apart Right Straight = true
apart Right Right = false

-- c and d do not lie strictly on one side of the line a b
unfoldable pub straddle : Point → Point → Point → Point → Bool
straddle a b c d = apart (turn (area a b c)) (turn (area a b d))

-- the segments a b and c d meet
unfoldable pub meets : Point → Point → Point → Point → Bool
meets a b c d =
    overlap a.x b.x c.x d.x
    && (overlap a.y b.y c.y d.y && (straddle a b c d && straddle c d a b))

-- the point p lies on the segment a b: the segment p p meets it
abbrev pub on_segment : Point → Point → Point → Bool
on_segment p a b = meets p p a b

-- straight between: p lies on the segment a b and is neither a nor b
unfoldable pub straight_between : Point → Point → Point → Bool
straight_between a p b = not (same_point a p) && (not (same_point p b) && on_segment p a b)

-- two segments on one line with more than one common point
unfoldable pub stretches : Point → Point → Point → Point → Bool
stretches a b c d =
    is_null (sgn (area a b c))
    && (is_null (sgn (area a b d)) && (overlap_more a.x b.x c.x d.x
    || overlap_more a.y b.y c.y d.y))

-- an end of one lies on the other
unfoldable pub ended : Point → Point → Point → Point → Bool
ended a b c d = on_segment a c d || (on_segment b c d || (on_segment c a b || on_segment d a b))

-- how two segments meet: in no point, in one, in one that is inner to both, in more than one
abbrev pub contact_of : Bool → Bool → Bool → Contact
contact_of false s e = None
contact_of true true e = Stretch
contact_of true false true = Touch
contact_of true false false = Crossing

unfoldable pub contact : Point → Point → Point → Point → Contact
contact a b c d = contact_of (meets a b c d) (stretches a b c d) (ended a b c d)
