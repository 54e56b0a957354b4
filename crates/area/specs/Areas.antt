-- The doubled area of segments, and rational points off a drawing. Definitions only.
use mathlib.Core.List.{List, Memᴰ}
use Rattle.std.specs.Prelude.{ℤ}
use Rattle.integers.specs.Totals.{total}
use Rattle.plane.specs.Points.{origin}
use Rattle.plane.specs.Areas.{area}
use Rattle.plane.specs.Below.{Segment}
use Rattle.curves.specs.Curves.{Curve}
use Rattle.geometry.specs.Spots.{Spot, OnSeg}
use Rattle.geometry.specs.Drawing.{OnCurve}

-- the doubled areas of the triangles of the origin and each segment, added up: the doubled area of closed segments,
-- positive if they run counterclockwise
abbrev pub area_of : List Segment → ℤ
area_of l = total (λ s. area origin s.from s.to) l

-- the rational point is on none of the segments, on none of the curves
abbrev pub OffAll : Spot → List Segment → Type 0
OffAll P l = (s : Segment) → Memᴰ s l → OnSeg P s.from s.to → ⊥

abbrev pub OffCurves : Spot → List Curve → Type 0
OffCurves P ds = (d : Curve) → Memᴰ d ds → OnCurve P d → ⊥
