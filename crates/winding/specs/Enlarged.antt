-- The drawing k times as large, and the winding number around a rational point: (x / d, y / d) of the drawing is the
-- point (x, y) of the drawing d times as large. Definitions only.
use Rattle.std.specs.Prelude.{List, map, ℕ, ◌*◌, ℤ}
use Rattle.plane.specs.declared.Point.{Point}
use Rattle.plane.specs.Below.{Segment}
use Rattle.curves.specs.Curves.{Curve}
use Rattle.geometry.specs.Spots.{Spot}
use Rattle.winding.specs.Winding.{winding_of}

-- k times as far from the origin
abbrev pub times : ℕ → Point → Point
times k p = record { x = k * p.x; y = k * p.y }

abbrev pub times_segment : ℕ → Segment → Segment
times_segment k s = record { from = times k s.from; to = times k s.to }

abbrev pub times_curve : ℕ → Curve → Curve
times_curve k c = record { first = times k c.first; rest = map (times k) c.rest }

-- a rational point in the drawing that its denominator enlarges
abbrev pub as_point : Spot → Point
as_point P = record { x = P.x; y = P.y }

-- the winding number of segments around a rational point
unfoldable pub winding_around : Spot → List Segment → ℤ
winding_around P l = winding_of (as_point P) (map (times_segment P.d) l)
