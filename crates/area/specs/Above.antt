-- A rational point just above a segment of a drawing, with that segment highest below it. Definitions only.
use Rattle.std.specs.Prelude.{◌≡◌, true, false, ◌⊎◌}
use mathlib.Core.List.{List, Memᴰ}
use Rattle.plane.specs.declared.Point.{Point}
use Rattle.plane.specs.Below.{Segment, ordered, passes_below, higher}
use Rattle.geometry.specs.Spots.{Spot, At, OnSeg}
use Rattle.winding.specs.Enlarged.{times_segment, as_point}
use Rattle.area.specs.Areas.{OffAll}

-- t passes below both P and R, and s is higher; or t passes below neither
pub data BothOrNeither (P R : Spot) (s t : Segment) : Type 0 where
  both :
      passes_below (as_point P) (times_segment P.d t) ≡ true → passes_below (as_point R) (times_segment R.d t) ≡ true
      → higher P.x (ordered (times_segment P.d s)) (ordered (times_segment P.d t)) ≡ true
      → higher P.x (ordered (times_segment P.d t)) (ordered (times_segment P.d s)) ≡ false
      → BothOrNeither P R s t
  neither :
      passes_below (as_point P) (times_segment P.d t) ≡ false → passes_below (as_point R) (times_segment R.d t) ≡ false
      → BothOrNeither P R s t

-- P is off the drawing m, and straight above R, an inner point of the segment s: s passes below P and not below R, and
-- what does not pass through R passes below both or neither
pub record Above (m : List Segment) (s : Segment) : Type 0 where
  pub P : Spot
  pub off : OffAll P m
  pub below : passes_below (as_point P) (times_segment P.d s) ≡ true
  pub R : Spot
  pub same_d : R.d ≡ P.d
  pub same_x : R.x ≡ P.x
  pub on : OnSeg R s.from s.to
  pub inner : (a : Point) → At R a → ⊥
  pub not_below : passes_below (as_point R) (times_segment R.d s) ≡ false
  pub others : (t : Segment) → Memᴰ t m → OnSeg R t.from t.to ⊎ BothOrNeither P R s t
