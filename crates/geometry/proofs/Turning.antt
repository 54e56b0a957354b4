-- A curve the other way round. Assumes nothing.
use mathlib.Core.Path.{◌≡◌, refl, sym, ap, ◌∙◌, subst}
use mathlib.Core.List.Memᴰ
use mathlib.Core.List.{List, [], ◌∷◌, ◌++◌, Memᴰ}
use mathlib.Core.Logic.{◌⊎◌, inl, inr}
use Prim.Native.Nat.{suc, ◌+◌}
use native.Mathlib.Omega.{arith}
use lib.ListN.{length, length-append}
use Rattle.plane.specs.declared.Point.{Point}
use Rattle.curves.specs.Curves.{last_of, second_of, before_last}
use Rattle.curves.specs.Edits.{turned}
use Rattle.curves.proofs.Reverses.{second_turned as second-of-turned}
use Rattle.geometry.specs.Spots.{Spot, At, OnSeg}
use Rattle.geometry.specs.Meaning.{On, Differ, SimpleArc, Simple, Some, End, Clear}
use Rattle.geometry.proofs.Segments.{flip}
use Rattle.geometry.proofs.Chains.{on_front, on_back, on_split, last_append, differ_join, Joint, arc-join}
use Rattle.geometry.proofs.Chains.{arc-simple, Closing}
use Rattle.geometry.proofs.Joining.{simple_some}
use Rattle.geometry.proofs.Cutting.{before-append}

pub last_turned : (a : Point) (r : List Point) → last_of (last_of a r) (turned a r) ≡ a
last_turned a [] = refl
last_turned a (b ∷ r) = last_append (last_of b r) (turned b r) (a ∷ [])

pub some_turned : (a : Point) (r : List Point) → Some r → Some (turned a r)
some_turned a [] h = h
some_turned a (b ∷ r) h = go (turned b r)
  where
    go : (l : List Point) → Some (l ++ (a ∷ []))
    go [] = tt
    go (c ∷ l) = tt

pub length-turned : (a : Point) (r : List Point) → length (turned a r) ≡ length r
length-turned a [] = refl
length-turned a (b ∷ r) = length-append (turned b r) (a ∷ []) ∙ let e : length (turned b r) + 1 ≡ suc (length r) =
    omega (arith, length-turned b r) in e

-- no point is new
pub turned-given : (a : Point) (r : List Point) {p : Point} → Memᴰ p (last_of a r ∷ turned a r)
    → Memᴰ p (a ∷ r)
turned-given a [] k = k
turned-given a (b ∷ r) {p} k = go (λ j. turned-given b r j) (Memᴰ.append_cases (last_of b r ∷ turned b r) k)
  where
    go : (Memᴰ p (last_of b r ∷ turned b r) → Memᴰ p (b ∷ r))
        → Memᴰ p (last_of b r ∷ turned b r) ⊎ Memᴰ p (a ∷ []) → Memᴰ p (a ∷ b ∷ r)
    go ih (inl j) = Memᴰ.tail (ih j)
    go ih (inr j) = Memᴰ.head (Memᴰ.eq_of_singleton j)

turned_snoc : (a b : Point) (r : List Point) → turned a (r ++ (b ∷ [])) ≡ last_of a r ∷ turned a r
turned_snoc a b [] = refl
turned_snoc a b (c ∷ r) = ap (λ (l : List Point). l ++ (a ∷ [])) (turned_snoc c b r)

-- twice round is the curve
pub turned_twice : (a : Point) (r : List Point) → turned (last_of a r) (turned a r) ≡ r
turned_twice a [] = refl
turned_twice a (b ∷ r) = turned_snoc (last_of b r) a (turned b r) ∙ (λ t. last_turned b r t ∷ turned_twice b r t)

-- ---- spots

pub on_turned : (P : Spot) (a : Point) (r : List Point) → On P a r → On P (last_of a r) (turned a r)
on_turned P a [] h = h
on_turned P a (b ∷ r) (inl o) = on_back P (last_of b r) (turned b r) (a ∷ [])
    (inl (subst (λ (z : Point). OnSeg P z a) (sym (last_turned b r)) (flip o)))
on_turned P a (b ∷ r) (inr k) = on_front P (last_of b r) (turned b r) (a ∷ []) (on_turned P b r k)

pub on_turned' : (P : Spot) (a : Point) (r : List Point) → On P (last_of a r) (turned a r) → On P a r
on_turned' P a [] h = h
on_turned' P a (b ∷ r) h = go (on_split P (last_of b r) (turned b r) (a ∷ []) h) (on_turned' P b r)
  where
    go : On P (last_of b r) (turned b r) ⊎ (OnSeg P (last_of (last_of b r) (turned b r)) a ⊎ ⊥)
        → (On P (last_of b r) (turned b r) → On P b r) → OnSeg P a b ⊎ On P b r
    go (inl k) f = inr (f k)
    go (inr (inl o)) f = inl (flip (subst (λ (z : Point). OnSeg P z a) (last_turned b r) o))
    go (inr (inr z)) f = absurd z

-- ---- arcs and simple curves

one-arc : (a b : Point) → SimpleArc a (b ∷ [])
one-arc a b = ((λ P o k. absurd k), tt)

pub differ_turned : (a : Point) (r : List Point) → Differ a r → Differ (last_of a r) (turned a r)
differ_turned a [] h = tt
differ_turned a (b ∷ r) h = differ_join (last_of b r) (turned b r) (a ∷ []) (differ_turned b r h.1)
    ((λ e. h.0 (sym e ∙ last_turned b r)), tt)

pub arc-turned : (a : Point) (r : List Point) → SimpleArc a r → SimpleArc (last_of a r) (turned a r)
arc-turned a [] h = tt
arc-turned a (b ∷ r) h = arc-join (last_of b r) (turned b r) (a ∷ []) (arc-turned b r h.1) (one-arc _ a) joint
  where
    joint : Joint (last_of b r) (turned b r) (a ∷ [])
    joint P k (inl o) = subst (At P) (sym (last_turned b r))
        (h.0 P (flip (subst (λ (z : Point). OnSeg P z a) (last_turned b r) o)) (on_turned' P b r k))
    joint P k (inr z) = absurd z

pub simple-turned : (a : Point) (r : List Point) → Differ a r → Simple a r → Simple (last_of a r) (turned a r)
simple-turned a [] n h = tt
simple-turned a (b ∷ []) n h = arc-simple b (a ∷ []) (one-arc b a)
simple-turned a (b ∷ c ∷ r) n h =
    simple_some z t (a ∷ []) (some_turned b (c ∷ r) tt) (differ_turned b (c ∷ r) n.1)
    (record { front = arc-turned b (c ∷ r) h.1; back = one-arc _ a; closing = closing })
  where
    z : Point
    z = last_of c r

    t : List Point
    t = turned b (c ∷ r)

    e : last_of z t ≡ b
    e = last_turned b (c ∷ r)

    go : (P : Spot) → At P b ⊎ (At P a × (z ≡ a)) → At P (last_of z t) ⊎ (At P z × (a ≡ z))
    go P (inl k) = inl (subst (At P) (sym e) k)
    go P (inr k) = inr (subst (At P) (sym k.1) k.0, sym k.1)

    closing : Closing z t (a ∷ [])
    closing P k (inl o) = go P (h.0 P (flip (subst (λ (z : Point). OnSeg P z a) e o)) (on_turned' P b (c ∷ r) k))
    closing P k (inr w) = absurd w

-- ---- ends

pub second_turned : (a : Point) (r : List Point) → Some r → second_of (last_of a r) (turned a r) ≡ before_last a r
second_turned a [] h = absurd h
second_turned a (b ∷ r) h = second-of-turned (last_of a (b ∷ r)) a b r

pub before-turned : (a : Point) (r : List Point) → Some r → before_last (last_of a r) (turned a r) ≡ second_of a r
before-turned a [] h = absurd h
before-turned a (b ∷ r) h = before-append (last_of b r) (turned b r) (a ∷ []) tt ∙ last_turned b r

pub end-turned : (P : Spot) (a : Point) (r : List Point) → End P a r → End P (last_of a r) (turned a r)
end-turned P a r (inl e) = inr (subst (At P) (sym (last_turned a r)) e)
end-turned P a r (inr e) = inl e

pub clear-turned : (a : Point) (r : List Point) (b : Point) (s : List Point) → Clear a r b s
    → Clear (last_of a r) (turned a r) b s
clear-turned a r b s h P o p = let k = h P (on_turned' P a r o) p in (end-turned P a r k.0, k.1)
