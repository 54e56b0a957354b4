-- What is claimed of the doubled area of closed segments and of rings of curves. Proved in proofs/Formula.antt
-- (`column-formula`) and proofs/Theorems.antt (`ring_areas`).
use Rattle.std.specs.Prelude.{◌≡◌, true, false, ℕ, ◌<◌, pos, ◌*ℤ◌, ◌≤ℤ◌, ◌<ℤ◌}
use mathlib.Core.List.{List, ◌++◌, Memᴰ}
use Rattle.integers.specs.Order.{sgn}
use Rattle.integers.specs.Totals.{total, sum_to}
use Rattle.plane.specs.Areas.{is_positive}
use Rattle.plane.specs.Below.{Segment}
use Rattle.curves.specs.Curves.{Curve}
use Rattle.curves.specs.Measures.{curve_area}
use Rattle.geometry.specs.Spots.{Spot}
use Rattle.winding.specs.Winding.{all_segments, Closed}
use Rattle.winding.specs.Enlarged.{winding_around}
use Rattle.area.specs.Areas.{area_of, OffCurves}
use Rattle.area.specs.Samples.{winding_at, RunDivides, Inside}
use Rattle.area.specs.Above.{Above}

-- D times the doubled area of closed segments is the sum of their winding numbers at the sample points
abbrev pub ColumnFormula : Type 0
ColumnFormula =
    (D W J : ℕ) → 0 < D → (l : List Segment) → Closed l
    → ((s : Segment) → Memᴰ s l → RunDivides D s) → ((s : Segment) → Memᴰ s l → Inside D W J s)
    → sum_to W (λ x. sum_to J (winding_at D l x)) ≡ pos D *ℤ area_of l

-- cs wind backwards, or forwards, around no rational point off the curves ds of a drawing
abbrev pub Forwards : List Curve → List Curve → Type 0
Forwards cs ds = (P : Spot) → OffCurves P ds → pos 0 ≤ℤ winding_around P (all_segments cs)

abbrev pub Backwards : List Curve → List Curve → Type 0
Backwards cs ds = (P : Spot) → OffCurves P ds → winding_around P (all_segments cs) ≤ℤ pos 0

-- they wind forwards around the points just above each of their segments that runs to greater x
abbrev pub AboveForwards : List Curve → List Curve → Type 0
AboveForwards cs ds =
    (s : Segment) → Memᴰ s (all_segments cs) → s.from.x < s.to.x
    → (A : Above (all_segments cs ++ all_segments ds) s) → pos 0 <ℤ winding_around A.P (all_segments cs)

abbrev pub Upright : List Segment → Type 0
Upright l = (s : Segment) → Memᴰ s l → s.from.x ≡ s.to.x

-- the sign of the doubled area of the curves cs
pub record RingArea (cs ds : List Curve) : Type 0 where
  -- nowhere backwards, and forwards around some point: positive
  pub inner_positive :
      Forwards cs ds → (P : Spot) → OffCurves P cs → pos 0 <ℤ winding_around P (all_segments cs)
      → is_positive (sgn (total curve_area cs)) ≡ true
  -- the same with the point to look at: just above a segment
  pub inner_by_floor :
      Forwards cs ds → AboveForwards cs ds → (Upright (all_segments cs) → ⊥)
      → is_positive (sgn (total curve_area cs)) ≡ true
  -- nowhere forwards: not positive
  pub outer_not_positive : Backwards cs ds → is_positive (sgn (total curve_area cs)) ≡ false

-- for all closed curves and all drawings
abbrev pub RingAreas : Type 0
RingAreas = (cs ds : List Curve) → Closed (all_segments cs) → RingArea cs ds
