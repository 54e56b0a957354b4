-- The record of points: 6 or 12, and never more than a row holds. Assumes nothing.
use mathlib.Core.Path.{◌≡◌, refl, sym, ap, subst}
use mathlib.Core.Bool.{true}
use mathlib.Core.Logic.{inl, inr}
use Prim.Native.Nat.{◌≤◌}
use native.Mathlib.Omega.{arith}
use lib.IntN.{ℤ, pos, nat_abs}
use Rattle.tables.specs.Tables.{same_z}
use Rattle.tables.proofs.Order.{same_is}
use Rattle.lists.proofs.Bools.{or-true}
use Rattle.curves.specs.Curves.{max_points}
use Rattle.map.specs.Limits.{PointLimit, SixPoints, TwelvePoints, plotter_points, most_points, is_record, limit_of}

-- a row holds as many points as either record allows
pub most-fits : (k : PointLimit) → most_points k ≤ max_points
most-fits SixPoints = omega arith
most-fits TwelvePoints = omega arith

-- a record stands in the head as it is read, and the other way round
pub limit_back : (k : PointLimit) → limit_of (pos (most_points k)) ≡ k
limit_back SixPoints = refl
limit_back TwelvePoints = refl

pub limit_record : (k : PointLimit) → is_record (pos (most_points k)) ≡ true
limit_record SixPoints = refl
limit_record TwelvePoints = refl

pub record_back : (z : ℤ) → is_record z ≡ true → pos (most_points (limit_of z)) ≡ z
record_back z h = elim (or-true (same_z z (pos plotter_points)) (same_z z (pos max_points)) h) [
  | inl e ↦ back (same_is z (pos plotter_points) e) refl
  | inr e ↦ back (same_is z (pos max_points) e) refl
]
  where
    back : {x : ℤ} → z ≡ x → pos (most_points (limit_of x)) ≡ x → pos (most_points (limit_of z)) ≡ z
    back e k = subst (λ (y : ℤ). pos (most_points (limit_of y)) ≡ y) (sym e) k

-- the recorded number itself
pub record_most : (z : ℤ) → is_record z ≡ true → most_points (limit_of z) ≡ nat_abs z
record_most z h = ap nat_abs (record_back z h)
