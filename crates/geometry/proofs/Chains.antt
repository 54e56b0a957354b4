-- Curves made of two: spots, arcs and simple curves of a ∷ (r ++ s), whose joint is the last point of a ∷ r. Assumes
-- nothing.
use mathlib.Core.Path.{◌≡◌, refl, sym, ◌∙◌, subst}
use mathlib.Core.List.{List, [], ◌∷◌, ◌++◌}
use mathlib.Core.Logic.{◌⊎◌, inl, inr, ◌≢◌}
use Prim.Native.Nat.{◌≤◌}
use native.Mathlib.Omega.{arith}
use lib.ListN.{length}
use Rattle.plane.specs.declared.Point.{Point}
use Rattle.curves.specs.Curves.{last_of}
use Rattle.geometry.specs.Spots.{Spot, spot, At, OnSeg}
use Rattle.geometry.specs.Meaning.{On, Differ, SimpleArc, Simple, Some, End}
use Rattle.geometry.proofs.Segments.{at_first, at_last, at_one, at_spot}

-- ---- two points or more

pub some_length : (r : List Point) → Some r → 1 ≤ length r
some_length [] h = absurd h
some_length (b ∷ r) h = omega arith

pub length_some : (r : List Point) → 1 ≤ length r → Some r
length_some [] h = absurd (omega arith)
length_some (b ∷ r) h = tt

-- ---- spots

pub on_front : (P : Spot) (a : Point) (r s : List Point) → On P a r → On P a (r ++ s)
on_front P a [] s h = absurd h
on_front P a (b ∷ r) s (inl o) = inl o
on_front P a (b ∷ r) s (inr h) = inr (on_front P b r s h)

pub on_back : (P : Spot) (a : Point) (r s : List Point) → On P (last_of a r) s → On P a (r ++ s)
on_back P a [] s h = h
on_back P a (b ∷ r) s h = inr (on_back P b r s h)

pub on_split : (P : Spot) (a : Point) (r s : List Point) → On P a (r ++ s) → On P a r ⊎ On P (last_of a r) s
on_split P a [] s h = inr h
on_split P a (b ∷ r) s (inl o) = inl (inl o)
on_split P a (b ∷ r) s (inr h) = go (on_split P b r s h)
  where
    go : On P b r ⊎ On P (last_of b r) s → (OnSeg P a b ⊎ On P b r) ⊎ On P (last_of b r) s
    go (inl k) = inl (inr k)
    go (inr k) = inr k

pub last_append : (a : Point) (r s : List Point) → last_of a (r ++ s) ≡ last_of (last_of a r) s
last_append a [] s = refl
last_append a (b ∷ r) s = last_append b r s

-- the ends lie on the curve, unless it is one point
pub first_on : {P : Spot} (a : Point) (r : List Point) → At P a → At P (last_of a r) ⊎ On P a r
first_on a [] h = inl h
first_on a (b ∷ r) h = inr (inl (at_first b h))

pub last_on : {P : Spot} (a : Point) (r : List Point) → At P (last_of a r) → At P a ⊎ On P a r
last_on a [] h = inl h
last_on {P} a (b ∷ r) h = go (last_on b r h)
  where
    go : At P b ⊎ On P b r → At P a ⊎ (OnSeg P a b ⊎ On P b r)
    go (inl k) = inr (inl (at_last a k))
    go (inr k) = inr (inr k)

pub end_on : {P : Spot} (a b : Point) (r : List Point) → End P a (b ∷ r) → On P a (b ∷ r)
end_on a b r (inl h) = inl (at_first b h)
end_on {P} a b r (inr h) = go (last_on b r h)
  where
    go : At P b ⊎ On P b r → OnSeg P a b ⊎ On P b r
    go (inl k) = inl (at_last a k)
    go (inr k) = inr k

-- ---- arcs

-- the two curves share their joint only
abbrev pub Joint : Point → List Point → List Point → Type 0
Joint a r s = (P : Spot) → On P a r → On P (last_of a r) s → At P (last_of a r)

pub arc-front : (a : Point) (r s : List Point) → SimpleArc a (r ++ s) → SimpleArc a r
arc-front a [] s h = tt
arc-front a (b ∷ r) s h = ((λ P o k. h.0 P o (on_front P b r s k)), arc-front b r s h.1)

pub arc-back : (a : Point) (r s : List Point) → SimpleArc a (r ++ s) → SimpleArc (last_of a r) s
arc-back a [] s h = h
arc-back a (b ∷ r) s h = arc-back b r s h.1

pub arc-joint : (a : Point) (r s : List Point) → SimpleArc a (r ++ s) → Joint a r s
arc-joint a [] s h P k l = absurd k
arc-joint a (b ∷ r) s h P (inr k) l = arc-joint b r s h.1 P k l
arc-joint a (b ∷ r) s h P (inl o) l = go (first_on b r (h.0 P o (on_back P b r s l)))
    (λ k. arc-joint b r s h.1 P k l)
  where
    go : At P (last_of b r) ⊎ On P b r → (On P b r → At P (last_of b r)) → At P (last_of b r)
    go (inl e) f = e
    go (inr k) f = f k

pub arc-join : (a : Point) (r s : List Point) → SimpleArc a r → SimpleArc (last_of a r) s → Joint a r s
    → SimpleArc a (r ++ s)
arc-join a [] s f g j = g
arc-join a (b ∷ r) s f g j = ((λ P o k. go P o (on_split P b r s k)), arc-join b r s f.1 g (λ P k l. j P (inr k) l))
  where
    back : (P : Spot) → OnSeg P a b → At P b ⊎ On P b r → At P b
    back P o (inl e) = e
    back P o (inr k) = f.0 P o k

    go : (P : Spot) → OnSeg P a b → On P b r ⊎ On P (last_of b r) s → At P b
    go P o (inl k) = f.0 P o k
    go P o (inr l) = back P o (last_on b r (j P (inl o) l))

-- an arc is not closed
pub arc_open : (a b : Point) (r : List Point) → SimpleArc a (b ∷ r) → a ≢ b → last_of b r ≢ a
arc_open a b r h n e = go (last_on b r (subst (At (spot a)) (sym e) (at_spot a)))
  where
    go : At (spot a) b ⊎ On (spot a) b r → ⊥
    go (inl k) = n (at_one (at_spot a) k)
    go (inr k) = n (at_one (at_spot a) (h.0 (spot a) (at_first b (at_spot a)) k))

-- ---- simple curves

pub arc-simple : (a : Point) (r : List Point) → SimpleArc a r → Simple a r
arc-simple a [] h = tt
arc-simple a (b ∷ r) h = ((λ P o k. inl (h.0 P o k)), h.1)

pub simple-arc : (a : Point) (r : List Point) → last_of a r ≢ a → Simple a r → SimpleArc a r
simple-arc a [] n h = tt
simple-arc a (b ∷ r) n h = ((λ P o k. go P (h.0 P o k)), h.1)
  where
    go : (P : Spot) → At P b ⊎ (At P a × (last_of b r ≡ a)) → At P b
    go P (inl e) = e
    go P (inr e) = absurd (n e.1)

-- the two curves share their joint, and where they close their far end, only
abbrev pub Closing : Point → List Point → List Point → Type 0
Closing a r s = (P : Spot) → On P a r → On P (last_of a r) s → At P (last_of a r) ⊎ (At P a × (last_of (last_of a r) s ≡ a))

pub differ_front : (a : Point) (r s : List Point) → Differ a (r ++ s) → Differ a r
differ_front a [] s h = tt
differ_front a (b ∷ r) s h = (h.0, differ_front b r s h.1)

pub differ_back : (a : Point) (r s : List Point) → Differ a (r ++ s) → Differ (last_of a r) s
differ_back a [] s h = h
differ_back a (b ∷ r) s h = differ_back b r s h.1

pub differ_join : (a : Point) (r s : List Point) → Differ a r → Differ (last_of a r) s → Differ a (r ++ s)
differ_join a [] s h k = k
differ_join a (b ∷ r) s h k = (h.0, differ_join b r s h.1 k)

pub record Cut (a : Point) (r s : List Point) : Type 0 where
  pub front : SimpleArc a r
  pub back : SimpleArc (last_of a r) s
  pub closing : Closing a r s

pub simple-cut : (a b : Point) (r : List Point) (c : Point) (s : List Point) → Differ a (b ∷ r ++ (c ∷ s))
    → Simple a (b ∷ r ++ (c ∷ s)) → Cut a (b ∷ r) (c ∷ s)
simple-cut a b r c s n h = record {
  front = ((λ P o k. first P o k (h.0 P o (on_front P b r (c ∷ s) k))), arc-front b r (c ∷ s) h.1);
  back = back;
  closing = closing;
}
  where
    m : Point
    m = last_of b r

    back : SimpleArc m (c ∷ s)
    back = arc-back b r (c ∷ s) h.1

    joint : Joint b r (c ∷ s)
    joint = arc-joint b r (c ∷ s) h.1

    closed : last_of b (r ++ (c ∷ s)) ≡ a → last_of c s ≡ a
    closed e = sym (last_append b r (c ∷ s)) ∙ e

    first : (P : Spot) → OnSeg P a b → On P b r → At P b ⊎ (At P a × (last_of b (r ++ (c ∷ s)) ≡ a)) → At P b
    first P o k (inl e) = e
    first P o k (inr e) =
        let l : last_of c s ≡ a = closed e.1 in
        let f : At P m = joint P k (end_on m c s (inr (subst (At P) (sym l) e.0))) in
        absurd (arc_open m c s back (differ_back b r (c ∷ s) n.1).0 (l ∙ at_one e.0 f))

    side : (P : Spot) → On P m (c ∷ s) → At P m ⊎ On P b r → At P m
    side P l (inl e) = e
    side P l (inr k) = joint P k l

    start : (P : Spot) → On P m (c ∷ s) → At P b ⊎ (At P a × (last_of b (r ++ (c ∷ s)) ≡ a)) → At P m
        ⊎ (At P a × (last_of c s ≡ a))
    start P l (inl e) = inl (side P l (first_on b r e))
    start P l (inr e) = inr (e.0, closed e.1)

    closing : Closing a (b ∷ r) (c ∷ s)
    closing P (inl o) l = start P l (h.0 P o (on_back P b r (c ∷ s) l))
    closing P (inr k) l = inl (joint P k l)

pub simple-join : (a b : Point) (r s : List Point) → a ≢ b → Cut a (b ∷ r) s → Simple a (b ∷ r ++ s)
simple-join a b r s n h = (
  (λ P o k. first P o (on_split P b r s k)),
  arc-join b r s h.front.1 h.back (λ P k l. joint P k (h.closing P (inr k) l)),
)
  where
    m : Point
    m = last_of b r

    joint : (P : Spot) → On P b r → At P m ⊎ (At P a × (last_of m s ≡ a)) → At P m
    joint P k (inl e) = e
    joint P k (inr e) = absurd (n (at_one e.0 (h.front.0 P (at_first b e.0) k)))

    back : (P : Spot) → OnSeg P a b → At P b ⊎ On P b r → At P b
    back P o (inl e) = e
    back P o (inr k) = h.front.0 P o k

    far : (P : Spot) → OnSeg P a b → At P m ⊎ (At P a × (last_of m s ≡ a)) → At P b ⊎ (At P a × (last_of b (r ++ s) ≡ a))
    far P o (inl e) = inl (back P o (last_on b r e))
    far P o (inr e) = inr (e.0, last_append b r s ∙ e.1)

    first : (P : Spot) → OnSeg P a b → On P b r ⊎ On P m s → At P b ⊎ (At P a × (last_of b (r ++ s) ≡ a))
    first P o (inl k) = inl (h.front.0 P o k)
    first P o (inr l) = far P o (h.closing P (inl o) l)
