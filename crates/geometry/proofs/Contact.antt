-- The contact of two segments means what it says: none, touch, crossing and stretch, by the spots that they share.
-- Assumes nothing.
use mathlib.Core.Path.{◌≡◌, refl, sym, ap, ◌∙◌}
use mathlib.Core.Bool.{Bool, true, false, false≢true, ◌||◌}
use mathlib.Core.Logic.{◌⊎◌, inl, inr, ◌≢◌}
use Prim.Native.Nat.{ℕ, ◌+◌, ◌*◌, ◌<◌}
use native.Mathlib.Nat.{eq_of_mul-eq-mul_left, mul_left_comm, mul_comm}
use native.Mathlib.Omega.{arith}
use Rattle.lists.proofs.Bools.{or-true, or-false}
use Rattle.plane.specs.declared.Point.{Point}
use Rattle.plane.specs.Segments.{meets, on_segment, stretches, ended, contact_of, contact}
use Rattle.plane.specs.declared.Contact.{Contact}
use Rattle.plane.specs.declared.Contact.TheVariants.{None, Touch, Crossing, Stretch}
use Rattle.geometry.specs.Spots.{Spot, spot, Same, At, OnSeg}
use Rattle.geometry.specs.Meaning.{Shared, Single, Inner, Double, Means}
use Rattle.geometry.proofs.Segments.{at_first, at_last, at_spot, at_one}
use Rattle.geometry.proofs.Meeting.{meets-true, meets-false, on_segment-true, on_segment_is}
use Rattle.geometry.proofs.Stretch.{unique, same_at}
use Rattle.geometry.proofs.Double.{stretch_two}

-- ---- a spot that is a point

point_on : (D X j i a A : ℕ) → 0 < D → X ≡ D * a → (j + i) * X ≡ D * A → (j + i) * a ≡ 1 * A
point_on D X j i a A h e f =
    eq_of_mul-eq-mul_left D h ((j + i) * a) (1 * A)
    (mul_left_comm D (j + i) a ∙ ap (λ (n : ℕ). (j + i) * n) (sym e) ∙ f
    ∙ ap (λ (n : ℕ). D * n) (let g : A ≡ 1 * A = omega arith in g))

-- where the spot is the point q, the point lies where the spot lies
pub at_on : {P : Spot} {q a b : Point} → At P q → OnSeg P a b → OnSeg (spot q) a b
at_on {P} {q} {a} {b} h o =
    record {
      j = o.j;
      i = o.i;
      weight = o.weight;
      x = point_on P.d P.x o.j o.i q.x (o.j * a.x + o.i * b.x) P.some h.x o.x;
      y = point_on P.d P.y o.j o.i q.y (o.j * a.y + o.i * b.y) P.some h.y o.y;
    }

-- one spot, given twice
same_point_lem : (D X D' X' a : ℕ) → 0 < D' → X * D' ≡ X' * D → X' ≡ D' * a → X ≡ D * a
same_point_lem D X D' X' a h e f =
    eq_of_mul-eq-mul_left D' h X (D * a)
    (mul_comm D' X ∙ e ∙ ap (λ (n : ℕ). n * D) f ∙ mul_comm (D' * a) D ∙ mul_left_comm D D' a)

pub at_same : {P Q : Spot} {a : Point} → Same P Q → At Q a → At P a
at_same {P} {Q} {a} s h =
    record {
      x = same_point_lem P.d P.x Q.d Q.x a.x Q.some s.x h.x;
      y = same_point_lem P.d P.y Q.d Q.y a.y Q.some s.y h.y;
    }

-- different points are different spots
pub spots_differ : (p q : Point) → p ≢ q → Same (spot p) (spot q) → ⊥
spots_differ p q n s = n (at_one (at_spot p) (same_at s))

-- ---- the meaning

module _ (a b c d : Point) where
  single : (P : Spot) → Shared a b c d P → stretches a b c d ≡ false → Single a b c d
  single P o e = record { spot = P; on = o; only = λ Q R p q. unique e p.0 p.1 q.0 q.1 }

  double : stretches a b c d ≡ true → Double a b c d
  double e =
      let t = stretch_two a b c d e in
      record {
        one = spot t.p;
        two = spot t.q;
        on_one = (t.p_ab, t.p_cd);
        on_two = (t.q_ab, t.q_cd);
        differ = spots_differ t.p t.q t.differ;
      }

  touching : stretches a b c d ≡ false → ended a b c d ≡ true → Means Touch a b c d
  unfolding ended single
  touching e f = go (or-true (on_segment a c d) _ f)
    where
      on : (q : Point) → OnSeg (spot q) a b → OnSeg (spot q) c d → Single a b c d
      on q o p = single (spot q) (o, p) e

      last : (on_segment c a b ≡ true) ⊎ (on_segment d a b ≡ true) → Means Touch a b c d
      last (inl k) = (on c (on_segment-true c a b k) (at_first d (at_spot c)), inr (inr (inl (at_spot c))))
      last (inr k) = (on d (on_segment-true d a b k) (at_last c (at_spot d)), inr (inr (inr (at_spot d))))

      next : (on_segment b c d ≡ true) ⊎ (on_segment c a b || on_segment d a b ≡ true) → Means Touch a b c d
      next (inl k) = (on b (at_last a (at_spot b)) (on_segment-true b c d k), inr (inl (at_spot b)))
      next (inr k) = last (or-true (on_segment c a b) (on_segment d a b) k)

      go : (on_segment a c d ≡ true) ⊎ (on_segment b c d || (on_segment c a b || on_segment d a b) ≡ true)
          → Means Touch a b c d
      go (inl k) = (on a (at_first b (at_spot a)) (on_segment-true a c d k), inl (at_spot a))
      go (inr k) = next (or-true (on_segment b c d) (on_segment c a b || on_segment d a b) k)

  inner : (P : Spot) → Shared a b c d P → ended a b c d ≡ false → Inner a b c d P
  unfolding ended
  inner P o e =
      let h = or-false (on_segment a c d) _ e in
      let k = or-false (on_segment b c d) _ h.1 in
      let l = or-false (on_segment c a b) _ k.1 in
      record {
        not_a = λ p. false≢true (sym h.0 ∙ on_segment_is (at_on p o.1));
        not_b = λ p. false≢true (sym k.0 ∙ on_segment_is (at_on p o.1));
        not_c = λ p. false≢true (sym l.0 ∙ on_segment_is (at_on p o.0));
        not_d = λ p. false≢true (sym l.1 ∙ on_segment_is (at_on p o.0));
      }

  pub contact_means : Means (contact a b c d) a b c d
  unfolding contact single
  contact_means = go (meets a b c d) (stretches a b c d) (ended a b c d) refl refl refl
    where
      go : (m s e : Bool) → meets a b c d ≡ m → stretches a b c d ≡ s → ended a b c d ≡ e
          → Means (contact_of m s e) a b c d
      go false s e h k l = λ P o. meets-false h o.0 o.1
      go true true e h k l = double k
      go true false true h k l = touching k l
      go true false false h k l = let t = meets-true a b c d h in
          (single t.0 (t.1, t.2) k, inner t.0 (t.1, t.2) l)

  -- it is the only one
  no_single : Double a b c d → Single a b c d → ⊥
  no_single t s = t.differ (s.only t.one t.two t.on_one t.on_two)

  no_end : (P Q : Spot) → Same P Q → Inner a b c d P → At Q a ⊎ At Q b ⊎ At Q c ⊎ At Q d → ⊥
  no_end P Q s i (inl k) = i.not_a (at_same s k)
  no_end P Q s i (inr (inl k)) = i.not_b (at_same s k)
  no_end P Q s i (inr (inr (inl k))) = i.not_c (at_same s k)
  no_end P Q s i (inr (inr (inr k))) = i.not_d (at_same s k)

  agree : (k l : Contact) → Means k a b c d → Means l a b c d → k ≡ l
  agree None None u v = refl
  agree None Touch u v = absurd (u v.0.spot v.0.on)
  agree None Crossing u v = absurd (u v.0.spot v.0.on)
  agree None Stretch u v = absurd (u v.one v.on_one)
  agree Touch None u v = absurd (v u.0.spot u.0.on)
  agree Touch Touch u v = refl
  agree Touch Crossing u v = absurd (no_end v.0.spot u.0.spot (u.0.only _ _ v.0.on u.0.on) v.1
      u.1)
  agree Touch Stretch u v = absurd (no_single v u.0)
  agree Crossing None u v = absurd (v u.0.spot u.0.on)
  agree Crossing Touch u v = absurd (no_end u.0.spot v.0.spot (u.0.only _ _ u.0.on v.0.on) u.1
      v.1)
  agree Crossing Crossing u v = refl
  agree Crossing Stretch u v = absurd (no_single v u.0)
  agree Stretch None u v = absurd (v u.one u.on_one)
  agree Stretch Touch u v = absurd (no_single u v.0)
  agree Stretch Crossing u v = absurd (no_single u v.0)
  agree Stretch Stretch u v = refl

  pub contact_is : (k : Contact) → Means k a b c d → contact a b c d ≡ k
  contact_is k h = agree (contact a b c d) k contact_means h
