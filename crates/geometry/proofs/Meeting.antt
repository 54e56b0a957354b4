-- The tests of points say what they should: one point, on a segment, meeting segments, straight between, neighbours, on
-- a curve. Assumes nothing.
use mathlib.Core.Path.{◌≡◌, refl, sym, ap, ◌∙◌}
use mathlib.Core.Bool.{true, false, not, false≢true}
use mathlib.Core.List.{List, [], ◌∷◌}
use mathlib.Core.Logic.{◌⊎◌, inl, inr, ◌≢◌}
use Prim.Native.Nat.{ℕ, ◌+◌, ◌*◌, ◌-◌, ◌<◌}
use native.Mathlib.Nat.{eq_of_mul-eq-mul_left}
use native.Mathlib.Omega.{arith}
use borrow.Author.Tests.{not-true}
use lib.IntN.{pos}
use Rattle.integers.specs.Solver.{◌⊕◌, ◌⊗◌, ◌≐◌, solve}
use Rattle.integers.specs.Linear.{pos_injective}
use Rattle.lists.proofs.Bools.{which, same_refl, or-true, or_right, and-true, and_is, or_left}
use Rattle.plane.specs.declared.Point.{Point}
use Rattle.plane.specs.Points.{same_point}
use Rattle.plane.specs.Segments.{meets, on_segment, straight_between}
use Rattle.plane.proofs.Laws.{same_point-true}
use Rattle.curves.specs.Tests.{differs, passes}
use Rattle.geometry.specs.Spots.{Spot, spot, OnSeg, Between}
use Rattle.geometry.specs.Meaning.{On, Differ}
use Rattle.geometry.proofs.Segments.{at_first, at_spot}
use Rattle.geometry.proofs.Sound.{spot_common, common_spot, sound}
use Rattle.geometry.proofs.Complete.{complete}

-- ---- points

pub same_point_refl : (p : Point) → same_point p p ≡ true
unfolding same_point
same_point_refl p = and_is (same_refl p.x) (same_refl p.y)

pub same_point_differ : (p q : Point) → same_point p q ≡ false → p ≢ q
same_point_differ p q e f = false≢true (sym e ∙ ap (same_point p) (sym f) ∙ same_point_refl p)

pub same_point-false : (p q : Point) → p ≢ q → same_point p q ≡ false
same_point-false p q n = elim (which (same_point p q)) [ inl e ↦ absurd (n (same_point-true p q e)) | inr e ↦ e ]

-- ---- segments

-- the test for meeting: yes means a common spot, no that there is none
pub meets-true : (a b c d : Point) → meets a b c d ≡ true → (P : Spot) × OnSeg P a b × OnSeg P c d
meets-true a b c d e = common_spot (complete a b c d e)

pub meets-spot : {P : Spot} {a b c d : Point} → OnSeg P a b → OnSeg P c d → meets a b c d ≡ true
meets-spot {P} {a} {b} {c} {d} o p = sound (spot_common o p)

pub meets-false : {P : Spot} {a b c d : Point} → meets a b c d ≡ false → OnSeg P a b → OnSeg P c d → ⊥
meets-false e o p = false≢true (sym e ∙ meets-spot o p)

-- ---- a point on a segment

one-point : (j i l k m A : ℕ) → 0 < j + i → (l + k) * (j * m + i * m) ≡ (j + i) * A → (l + k) * m ≡ 1 * A
one-point j i l k m A h e =
    eq_of_mul-eq-mul_left (j + i) h ((l + k) * m) (1 * A)
    (pos_injective (solve 5 (λ j i l k m. (j ⊕ i) ⊗ ((l ⊕ k) ⊗ m) ≐ (l ⊕ k) ⊗ (j ⊗ m ⊕ i ⊗ m)) tt (pos j) (pos i)
    (pos l) (pos k) (pos m))
    ∙ e ∙ ap (λ (n : ℕ). (j + i) * n) (let f : A ≡ 1 * A = omega arith in f))

pub on_segment-true : (m a b : Point) → on_segment m a b ≡ true → OnSeg (spot m) a b
on_segment-true m a b e =
    let s = complete m m a b e in
    record {
      j = s.l;
      i = s.k;
      weight = s.cd;
      x = one-point s.j s.i s.l s.k m.x (s.l * a.x + s.k * b.x) s.ab s.same_x;
      y = one-point s.j s.i s.l s.k m.y (s.l * a.y + s.k * b.y) s.ab s.same_y;
    }

pub on_segment_is : {m a b : Point} → OnSeg (spot m) a b → on_segment m a b ≡ true
on_segment_is {m} {a} {b} o = meets-spot (at_first m (at_spot m)) o

pub on_segment-false : (m a b : Point) → on_segment m a b ≡ false → OnSeg (spot m) a b → ⊥
on_segment-false m a b e o = false≢true (sym e ∙ on_segment_is o)

-- ---- straight between

pub straight_between-true : (a m b : Point) → straight_between a m b ≡ true → Between a m b
unfolding straight_between
straight_between-true a m b e =
    let h = and-true _ _ e in
    let k = and-true _ _ h.1 in
    record {
      on = on_segment-true m a b k.1;
      not_first = same_point_differ a m (not-true _ h.0);
      not_last = same_point_differ m b (not-true _ k.0);
    }

pub straight_between_is : {a m b : Point} → Between a m b → straight_between a m b ≡ true
unfolding straight_between
straight_between_is {a} {m} {b} s = and_is (ap not (same_point-false a m s.not_first))
    (and_is (ap not (same_point-false m b s.not_last)) (on_segment_is s.on))

-- ---- points of a curve

pub differs_true : (a : Point) (r : List Point) → differs a r ≡ true → Differ a r
differs_true a [] e = tt
differs_true a (b ∷ r) e = let h = and-true (not (same_point a b)) (differs b r) e in
    (same_point_differ a b (not-true _ h.0), differs_true b r h.1)

pub differs_is : (a : Point) (r : List Point) → Differ a r → differs a r ≡ true
differs_is a [] n = refl
differs_is a (b ∷ r) n = and_is (ap not (same_point-false a b n.0)) (differs_is b r n.1)

pub passes-true : (m a : Point) (r : List Point) → passes m a r ≡ true → On (spot m) a r
passes-true m a [] e = absurd (false≢true e)
passes-true m a (b ∷ r) e = go (or-true (on_segment m a b) (passes m b r) e) (passes-true m b r)
  where
    go : (on_segment m a b ≡ true) ⊎ (passes m b r ≡ true) → (passes m b r ≡ true → On (spot m) b r)
        → OnSeg (spot m) a b ⊎ On (spot m) b r
    go (inl k) f = inl (on_segment-true m a b k)
    go (inr k) f = inr (f k)

pub passes_is : (m a : Point) (r : List Point) → On (spot m) a r → passes m a r ≡ true
passes_is m a [] h = absurd h
passes_is m a (b ∷ r) (inl o) = or_left (passes m b r) (on_segment_is o)
passes_is m a (b ∷ r) (inr k) = or_right (on_segment m a b) (passes m b r) (passes_is m b r k)
