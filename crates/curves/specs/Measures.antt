-- The doubled area of a curve, and whether an odd number of its segments pass below a point. A ring's are those of its
-- curves, added up.
use Rattle.std.specs.Prelude.{Bool, ℤ, pos, ◌+ℤ◌}
use mathlib.Core.List.{foldr}
use Rattle.lists.specs.Scans.{odd_count}
use Rattle.plane.specs.declared.Point.{Point}
use Rattle.plane.specs.Points.{origin}
use Rattle.plane.specs.Areas.{area}
use Rattle.plane.specs.Below.{passes_below}
use Rattle.curves.specs.Curves.{Curve, segments}

-- the doubled areas of the triangles of the origin and each segment, added up
unfoldable pub curve_area : Curve → ℤ
curve_area c = foldr (λ s a. area origin s.from s.to +ℤ a) (pos 0) (segments c)

-- an odd number of segments pass below p
unfoldable pub odd_below : Curve → Point → Bool
odd_below c p = odd_count (segments c) (passes_below p)
