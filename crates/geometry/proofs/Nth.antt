-- Simple, by the numbers of two segments: neighbours share their common point only, the first and the last of a closed
-- curve its end, others nothing. Assumes nothing.
use mathlib.Core.Path.{◌≡◌, refl, sym, ap, ◌∙◌, subst}
use mathlib.Core.List.{List, [], ◌∷◌}
use mathlib.Core.Logic.{◌⊎◌, inl, inr}
use Prim.Native.Nat.{ℕ, zero, suc, ◌+◌}
use native.Mathlib.Omega.{arith}
use lib.ListN.{length}
use Rattle.plane.specs.declared.Point.{Point}
use Rattle.curves.specs.Curves.{last_of}
use Rattle.geometry.specs.Spots.{Spot, At}
use Rattle.geometry.specs.Meaning.{On, OnNth, point_of, Differ, SimpleArc, Simple}
use Rattle.geometry.proofs.Segments.{at_one, at_first}
use Rattle.geometry.proofs.Chains.{end_on, arc_open}
use Rattle.geometry.proofs.Exact.{near}

pub nth_on : (P : Spot) (a : Point) (r : List Point) (i : ℕ) → OnNth P a r i → On P a r
nth_on P a [] i h = h
nth_on P a (b ∷ r) zero h = inl h
nth_on P a (b ∷ r) (suc i) h = inr (nth_on P b r i h)

-- and back: a spot of the curve is on some segment
pub on_nth : (P : Spot) (a : Point) (r : List Point) → On P a r → (i : ℕ) × OnNth P a r i
on_nth P a [] h = absurd h
on_nth P a (b ∷ r) (inl o) = (zero, o)
on_nth P a (b ∷ r) (inr k) = let h = on_nth P b r k in (suc h.0, h.1)

-- the curve a b and what follows; the spot is on the first segment and on segment j of what follows
module _ {P : Spot} {b : Point} where
  after_first : (r : List Point) (j : ℕ) → SimpleArc b r → Differ b r → At P b → OnNth P b r j → j ≡ zero
  after_first [] j g n e h = absurd h
  after_first (c ∷ r) zero g n e h = refl
  after_first (c ∷ r) (suc j) g n e h = absurd (n.0 (at_one e (g.0 P (at_first c e) (nth_on P c r j h))))

pub arc_pair : (P : Spot) (a : Point) (r : List Point) (i k : ℕ) → SimpleArc a r → Differ a r → OnNth P a r i
    → OnNth P a r (suc (i + k)) → (k ≡ zero) × At P (point_of a r (suc i))
arc_pair P a [] i k g n o p = absurd o
arc_pair P a (b ∷ r) zero k g n o p = let q : OnNth P b r k =
    subst (OnNth P b r) (let e : zero + k ≡ k = omega arith in e) p in let e : At P b = g.0 P o (nth_on P b r k q) in
    (after_first r k g.1 n.1 e q, e)
arc_pair P a (b ∷ r) (suc i) k g n o p =
    arc_pair P b r i k g.1 n.1 o (subst (OnNth P b r) (let e : suc i + k ≡ suc (i + k) = omega arith in e) p)

-- the end of a closed arc's first point lies on its last segment only
last_nth : (P : Spot) (a c : Point) (r : List Point) (j : ℕ) → SimpleArc c r → Differ c r → At P a → last_of c r ≡ a
    → OnNth P c r j → suc j ≡ length r
last_nth P a c [] j g n e l h = absurd h
last_nth P a c (d ∷ []) zero g n e l h = refl
last_nth P a c (d ∷ []) (suc j) g n e l h = absurd h
last_nth P a c (d ∷ f ∷ r) zero g n e l h =
    let k : At P d = g.0 P h (end_on d f r (inr (subst (At P) (sym l) e))) in
    absurd (arc_open d f r g.1 n.1.0 (l ∙ at_one e k))
last_nth P a c (d ∷ f ∷ r) (suc j) g n e l h = ap suc (last_nth P a d (f ∷ r) j g.1 n.1 e l h)

-- segments i and i + 1 + k share: neighbours, or the first and the last of a closed curve
pub simple_pair : (P : Spot) (a : Point) (r : List Point) (i k : ℕ) → Simple a r → Differ a r → OnNth P a r i
    → OnNth P a r (suc (i + k))
    → ((k ≡ zero) × At P (point_of a r (suc i))) ⊎ ((i ≡ zero) × (suc (suc k) ≡ length r) × (last_of a r ≡ a) × At P a)
simple_pair P a [] i k g n o p = absurd o
simple_pair P a (b ∷ r) (suc i) k g n o p =
    inl (arc_pair P b r i k g.1 n.1 o
    (subst (OnNth P b r) (let e : suc i + k ≡ suc (i + k) = omega arith in e) p))
simple_pair P a (b ∷ r) zero k g n o p = go r k g n (subst (OnNth P b r) (let e : zero + k ≡ k = omega arith in e) p)
  where
    go : (r : List Point) (k : ℕ) → Simple a (b ∷ r) → Differ a (b ∷ r) → OnNth P b r k → ((k ≡ zero) × At P b)
        ⊎ ((◌≡◌ {A = ℕ} zero zero) × (suc (suc k) ≡ suc (length r)) × (last_of b r ≡ a) × At P a)
    go [] k g n q = absurd q
    go (c ∷ r) zero g n q = inl (refl, near a b c n.0 r g.1 n.1 P o q (g.0 P o (inl q)) g.0)
    go (c ∷ r) (suc k) g n q = next (g.0 P o (inr (nth_on P c r k q)))
      where
        next : At P b ⊎ (At P a × (last_of c r ≡ a)) → ((suc k ≡ zero) × At P b)
            ⊎ ((◌≡◌ {A = ℕ} zero zero) × (suc (suc (suc k)) ≡ suc (suc (length r))) × (last_of c r ≡ a) × At P a)
        next (inl e) = absurd (n.1.0 (at_one e (g.1.0 P (at_first c e) (nth_on P c r k q))))
        next (inr e) = inr (
          refl,
          ap (λ (m : ℕ). suc (suc m)) (last_nth P a c r k g.1.1 n.1.1 e.0 e.1 q),
          e.1,
          e.0,
        )
