-- A curve is a first point and the points that follow it; in tables and tickets it is a run of numbers x, y, x, y, ..
use Rattle.std.specs.Prelude.{◌≡◌, Bool, true, ◌&&◌, List, [], ◌∷◌, ℕ, ◌+◌, ◌*◌, ◌-◌, ◌/◌, leb, ℤ, pos, nat_abs, length, get_or}
use Rattle.std.specs.Int.Signed.{le_z}
use Rattle.lists.specs.Scans.{all_of}
use Rattle.lists.specs.Tables.{table}
use Rattle.plane.specs.declared.Point.{Point}
use Rattle.plane.specs.Points.{max_coordinate, origin}
use Rattle.plane.specs.Below.{Segment}
use Rattle.plane.specs.Directions.{Way, way_to}

pub record Curve : Type 0 where
  pub first : Point
  pub rest : List Point

-- ---- the curve a ∷ r

-- the last point
abbrev pub last_of : Point → List Point → Point
last_of a [] = a
last_of a (b ∷ r) = last_of b r

-- the second point, and the last but one
abbrev pub second_of : Point → List Point → Point
second_of a [] = a
second_of a (b ∷ r) = b

abbrev pub before_last : Point → List Point → Point
before_last a [] = a
before_last a (b ∷ []) = a
before_last a (b ∷ c ∷ r) = before_last b (c ∷ r)

-- its segments, in order
abbrev pub segments_of : Point → List Point → List Segment
segments_of a [] = []
segments_of a (b ∷ r) = record { from = a; to = b } ∷ segments_of b r

-- ---- a curve

abbrev pub points : Curve → List Point
points c = c.first ∷ c.rest

abbrev pub last_point : Curve → Point
last_point c = last_of c.first c.rest

abbrev pub segments : Curve → List Segment
segments c = segments_of c.first c.rest

-- the direction in which the curve departs, and that in which its reverse departs
abbrev pub start_way : Curve → Way
start_way c = way_to c.first (second_of c.first c.rest)

abbrev pub end_way : Curve → Way
end_way c = way_to (last_point c) (before_last c.first c.rest)

-- ---- from numbers

-- x, y as a point
abbrev pub point : ℤ → ℤ → Point
point x y = record { x = nat_abs x; y = nat_abs y }

-- x, y pairs
abbrev pub points_of : List ℤ → List Point
points_of [] = []
points_of (x ∷ []) = []
points_of (x ∷ y ∷ r) = point x y ∷ points_of r

-- the curve with these points; a curve has at least one
abbrev pub through : List Point → Curve
through [] = record { first = origin; rest = [] }
through (p ∷ r) = record { first = p; rest = r }

unfoldable pub curve_of : List ℤ → Curve
curve_of l = through (points_of l)

-- point i of a run
abbrev pub point_at : List ℤ → ℕ → Point
point_at l i = point (get_or l (i * 2) (pos 0)) (get_or l (i * 2 + 1) (pos 0))

-- the points from point i on
abbrev pub points_from : List ℤ → ℕ → List Point
points_from l i = table (point_at l) i (length l / 2 - i)

abbrev pub max_points : ℕ
max_points = 12

-- a number that is a coordinate
abbrev pub coordinate : ℤ → Bool
coordinate z = le_z (pos 0) z && le_z z (pos max_coordinate)

-- 2 to `most` points, and every coordinate in range
unfoldable pub is_run_to : ℕ → List ℤ → Bool
is_run_to most l = leb 2 (length l / 2) && leb (length l / 2) most && all_of coordinate l

-- 2 to 12 points
abbrev pub is_run : List ℤ → Bool
is_run l = is_run_to max_points l

-- what the functions on runs require; any other run is the caller's refusal 5
pub record Run (l : List ℤ) : Type 0 where
  pub is : is_run l ≡ true

-- ---- to numbers

-- points as x, y
abbrev pub coordinates : List Point → List ℤ
coordinates [] = []
coordinates (p ∷ ps) = pos p.x ∷ pos p.y ∷ coordinates ps
