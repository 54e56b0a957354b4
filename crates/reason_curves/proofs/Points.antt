-- Places on curves, and the ends of a run. Assumes nothing.
use Rattle.std.specs.Prelude.{is_some}
use mathlib.Core.Path.{◌≡◌, refl, sym, ap, ◌∙◌}
use mathlib.Core.Bool.{Bool, ◌&&◌}
use mathlib.Core.Logic.{inl, inr}
use mathlib.Core.List.{List, [], ◌∷◌}
use Prim.Native.Nat.{ℕ, ◌+◌, ◌-◌, ◌/◌}
use native.Mathlib.Omega.{arith}
use lib.Dec.{eqb}
use lib.IntN.{ℤ}
use lib.ListN.{length}
use Rattle.lists.specs.Tests.{same}
use Rattle.lists.specs.Tables.{place}
use Rattle.lists.proofs.Bools.{which}
use Rattle.plane.specs.declared.Point.{Point}
use Rattle.plane.specs.Points.{same_point}
use Rattle.plane.specs.Segments.{on_segment}
use Rattle.curves.specs.Curves.{Curve, Run, curve_of, last_point, point_at, segments_of}
use Rattle.curves.specs.Tests.{passes, on_curve, first_place}
use Rattle.curves.proofs.Runs.{two-points, curve_is, last_is}
use Rattle.curves.proofs.Turns.{on}

-- ---- places on a curve

pub passes-place : (p a : Point) (r : List Point) (k : ℕ) → passes p a r ≡ is_some (place (on p) k (segments_of a r))
passes-place p a [] k = refl
passes-place p a (b ∷ r) k =
    let later = passes-place p b r (k + 1) in
    elim (which (on_segment p a b)) [ inl e ↦ rw e | inr e ↦ rw e later ]

-- a point lies on a curve where it has a place there
pub on_place : (c : Curve) (p : Point) → on_curve c p ≡ is_some (first_place c p)
on_place c p = passes-place p c.first c.rest 0

-- two points that were compared
pub met : {p q p' q' : Point} {r v : Bool} → r ≡ eqb p.x q.x && eqb p.y q.y → p ≡ p' → q ≡ q' → r ≡ v
    → same_point p' q' ≡ v
unfolding same same_point
met e k l t = sym (λ i. same_point (k i) (l i)) ∙ sym e ∙ t

-- the ends of a run
module _ {l : List ℤ} (run : Run l) where
  pub first_is : point_at l 0 ≡ (curve_of l).first
  first_is = ap (λ (c : Curve). c.first) (sym (curve_is run))

  pub last_at : (n : ℕ) → n ≡ length l / 2 → point_at l (n - 1) ≡ last_point (curve_of l)
  last_at n e = sym (ap last_point (curve_is run) ∙ last_is l (n - 1) (omega (arith, two-points run)))
