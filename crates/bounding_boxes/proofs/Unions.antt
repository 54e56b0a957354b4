-- The points of a curve widen a box to the union with the curve's extent. Assumes nothing.
use mathlib.Core.Path.{◌≡◌, refl, ap, ◌∙◌}
use mathlib.Core.List.{List, [], ◌∷◌}
use Prim.Native.Nat.{ℕ, min, max}
use native.Mathlib.Omega.{arith}
use Rattle.lists.specs.Scans.{fold}
use Rattle.plane.specs.declared.Point.{Point}
use Rattle.curves.specs.Curves.{Curve, points}
use Rattle.bounding_boxes.specs.declared.Extent.{Extent}
use Rattle.bounding_boxes.specs.Extents.{extent_at, widen, extent_of, union}

least_in_turn : (a b c : ℕ) → min (min a b) c ≡ min a (min b c)
least_in_turn a b c = omega arith

greatest_in_turn : (a b c : ℕ) → max (max a b) c ≡ max a (max b c)
greatest_in_turn a b c = omega arith

union-widen : (e f : Extent) (p : Point) → widen (union e f) p ≡ union e (widen f p)
union-widen e f p =
    let l = least_in_turn e.left f.left p.x in
    let r = greatest_in_turn e.right f.right p.x in
    let b = least_in_turn e.low f.low p.y in
    let t = greatest_in_turn e.high f.high p.y in
    λ i. record { left = l i; right = r i; low = b i; high = t i }

-- points widen a union as they widen its second box
pub union-fold : (e f : Extent) (ps : List Point) → fold widen (union e f) ps ≡ union e (fold widen f ps)
union-fold e f [] = refl
union-fold e f (p ∷ ps) = ap (λ (g : Extent). fold widen g ps) (union-widen e f p) ∙ union-fold e (widen f p) ps

-- all points of a curve at once
pub fold-union : (e : Extent) (c : Curve) → fold widen e (points c) ≡ union e (extent_of c)
fold-union e c = union-fold e (extent_at c.first) c.rest
