-- Two lists of points that draw one curve from a: with a point more or less that is straight between its neighbours.
-- Assumes nothing.
use mathlib.Core.Path.{◌≡◌, refl, sym, ◌∙◌}
use mathlib.Core.List.{List, [], ◌∷◌}
use mathlib.Core.Logic.{◌⊎◌, inl, inr}
use Rattle.plane.specs.declared.Point.{Point}
use Rattle.curves.specs.Curves.{last_of, second_of, before_last}
use Rattle.geometry.specs.Spots.{Spot, At, OnSeg, Between, SameWay}
use Rattle.geometry.specs.Meaning.{On, Differ, SimpleArc, Simple, Some}
use Rattle.geometry.proofs.Segments.{at_first, at_last, at_one, first_part, last_part, parts, pin, same_way_lem}
use Rattle.geometry.proofs.Segments.{first_way, last_way, way_back, way_trans, turn-way, between_differ}

pub record Alike (a : Point) (r s : List Point) : Type 0 where
  pub some : Some r
  pub some' : Some s
  pub on : (P : Spot) → On P a r → On P a s
  pub on' : (P : Spot) → On P a s → On P a r
  pub last : last_of a r ≡ last_of a s
  pub arc : SimpleArc a r → SimpleArc a s
  pub arc' : SimpleArc a s → SimpleArc a r
  pub simple : Simple a r → Simple a s
  pub simple' : Simple a s → Simple a r
  pub differ : Differ a r → Differ a s
  pub differ' : Differ a s → Differ a r
  pub start : SameWay a (second_of a r) a (second_of a s)
  pub finish : SameWay (last_of a r) (before_last a r) (last_of a s) (before_last a s)

pub alike_refl : (a : Point) (r : List Point) → Some r → Alike a r r
alike_refl a r h =
    record {
      some = h;
      some' = h;
      on = λ P o. o;
      on' = λ P o. o;
      last = refl;
      arc = λ k. k;
      arc' = λ k. k;
      simple = λ k. k;
      simple' = λ k. k;
      differ = λ k. k;
      differ' = λ k. k;
      start = same_way_lem a (second_of a r);
      finish = same_way_lem (last_of a r) (before_last a r);
    }

pub alike_sym : {a : Point} {r s : List Point} → Alike a r s → Alike a s r
alike_sym h =
    record {
      some = h.some';
      some' = h.some;
      on = h.on';
      on' = h.on;
      last = sym h.last;
      arc = h.arc';
      arc' = h.arc;
      simple = h.simple';
      simple' = h.simple;
      differ = h.differ';
      differ' = h.differ;
      start = way_back h.start;
      finish = way_back h.finish;
    }

pub alike_trans : {a : Point} {r s t : List Point} → Alike a r s → Alike a s t → Alike a r t
alike_trans h k =
    record {
      some = h.some;
      some' = k.some';
      on = λ P o. k.on P (h.on P o);
      on' = λ P o. h.on' P (k.on' P o);
      last = h.last ∙ k.last;
      arc = λ o. k.arc (h.arc o);
      arc' = λ o. h.arc' (k.arc' o);
      simple = λ o. k.simple (h.simple o);
      simple' = λ o. h.simple' (k.simple' o);
      differ = λ o. k.differ (h.differ o);
      differ' = λ o. h.differ' (k.differ' o);
      start = way_trans h.start k.start;
      finish = way_trans h.finish k.finish;
    }

-- ---- after one point more

abbrev step : Spot → Point → Point → List Point → Type 0
step P a b r = OnSeg P a b ⊎ On P b r

before-cons : (a b : Point) (r : List Point) → Some r → before_last a (b ∷ r) ≡ before_last b r
before-cons a b [] h = absurd h
before-cons a b (c ∷ r) h = refl

pub alike_cons : (a b : Point) {r s : List Point} → Alike b r s → Alike a (b ∷ r) (b ∷ s)
alike_cons a b {r} {s} h =
    record {
      some = tt;
      some' = tt;
      on = onward r s h.on;
      on' = onward s r h.on';
      last = h.last;
      arc = λ k. ((λ P o l. k.0 P o (h.on' P l)), h.arc k.1);
      arc' = λ k. ((λ P o l. k.0 P o (h.on P l)), h.arc' k.1);
      simple = λ k. ((λ P o l. closed r s h.last P (k.0 P o (h.on' P l))), h.arc k.1);
      simple' = λ k. ((λ P o l. closed s r (sym h.last) P (k.0 P o (h.on P l))), h.arc' k.1);
      differ = λ k. (k.0, h.differ k.1);
      differ' = λ k. (k.0, h.differ' k.1);
      start = same_way_lem a b;
      finish = rw (before-cons a b r h.some, before-cons a b s h.some') h.finish;
    }
  where
    onward : (u v : List Point) → ((P : Spot) → On P b u → On P b v) → (P : Spot) → step P a b u → step P a b v
    onward u v f P (inl o) = inl o
    onward u v f P (inr k) = inr (f P k)

    closed : (u v : List Point) → last_of b u ≡ last_of b v → (P : Spot) → At P b ⊎ (At P a × (last_of b u ≡ a))
        → At P b ⊎ (At P a × (last_of b v ≡ a))
    closed u v e P (inl k) = inl k
    closed u v e P (inr k) = inr (k.0, sym e ∙ k.1)

-- ---- a point straight between the first two

module _ {a m b : Point} (s : Between a m b) (r : List Point) where
  abbrev Whole : Spot → Type 0
  Whole P = OnSeg P a b ⊎ On P b r

  abbrev Parted : Spot → Type 0
  Parted P = OnSeg P a m ⊎ (OnSeg P m b ⊎ On P b r)

  abbrev Stop : Spot → Point → Type 0
  Stop P p = At P p ⊎ (At P a × (last_of b r ≡ a))

  insert_on : (P : Spot) → Whole P → Parted P
  insert_on P (inl o) = go (parts s o)
    where
      go : OnSeg P a m ⊎ OnSeg P m b → Parted P
      go (inl k) = inl k
      go (inr k) = inr (inl k)
  insert_on P (inr k) = inr (inr k)

  remove_on : (P : Spot) → Parted P → Whole P
  remove_on P (inl o) = inl (first_part s.on o)
  remove_on P (inr (inl o)) = inl (last_part s.on o)
  remove_on P (inr (inr k)) = inr k

  insert-arc : SimpleArc a (b ∷ r) → SimpleArc a (m ∷ b ∷ r)
  insert-arc h = (first, ((λ P o k. h.0 P (last_part s.on o) k), h.1))
    where
      first : (P : Spot) → OnSeg P a m → OnSeg P m b ⊎ On P b r → At P m
      first P o (inl q) = pin s.on o q
      first P o (inr k) = pin s.on o (at_last m (h.0 P (first_part s.on o) k))

  remove_arc : SimpleArc a (m ∷ b ∷ r) → SimpleArc a (b ∷ r)
  remove_arc h = ((λ P o k. go P k (parts s o)), h.1.1)
    where
      go : (P : Spot) → On P b r → OnSeg P a m ⊎ OnSeg P m b → At P b
      go P k (inl o) = h.1.0 P (at_first b (h.0 P o (inr k))) k
      go P k (inr o) = h.1.0 P o k

  insert-simple : Simple a (b ∷ r) → Simple a (m ∷ b ∷ r)
  insert-simple h = (first, ((λ P o k. second P o (h.0 P (last_part s.on o) k)), h.1))
    where
      second : (P : Spot) → OnSeg P m b → Stop P b → At P b
      second P o (inl e) = e
      second P o (inr e) = absurd (s.not_first (at_one e.0 (pin s.on (at_first m e.0) o)))

      stop : (P : Spot) → OnSeg P a m → Stop P b → Stop P m
      stop P o (inl e) = inl (pin s.on o (at_last m e))
      stop P o (inr e) = inr e

      first : (P : Spot) → OnSeg P a m → OnSeg P m b ⊎ On P b r → Stop P m
      first P o (inl q) = inl (pin s.on o q)
      first P o (inr k) = stop P o (h.0 P (first_part s.on o) k)

  remove_simple : Simple a (m ∷ b ∷ r) → Simple a (b ∷ r)
  remove_simple h = ((λ P o k. go P k (parts s o)), h.1.1)
    where
      stop : (P : Spot) → On P b r → Stop P m → Stop P b
      stop P k (inl e) = inl (h.1.0 P (at_first b e) k)
      stop P k (inr e) = inr e

      go : (P : Spot) → On P b r → OnSeg P a m ⊎ OnSeg P m b → Stop P b
      go P k (inl o) = stop P k (h.0 P o (inr k))
      go P k (inr o) = inl (h.1.0 P o k)

finish_way : {a m b : Point} (s : Between a m b) (r : List Point)
    → SameWay (last_of b r) (before_last a (b ∷ r)) (last_of b r) (before_last a (m ∷ b ∷ r))
finish_way s [] = turn-way (way_back (last_way s))
finish_way {a} {m} {b} s (c ∷ r) = same_way_lem (last_of c r) (before_last b (c ∷ r))

pub alike_insert : {a m b : Point} (s : Between a m b) (r : List Point) → Alike a (b ∷ r) (m ∷ b ∷ r)
alike_insert {a} {m} {b} s r =
    record {
      some = tt;
      some' = tt;
      on = insert_on s r;
      on' = remove_on s r;
      last = refl;
      arc = insert-arc s r;
      arc' = remove_arc s r;
      simple = insert-simple s r;
      simple' = remove_simple s r;
      differ = λ k. (s.not_first, (s.not_last, k.1));
      differ' = λ k. (between_differ s, k.1.1);
      start = way_back (first_way s);
      finish = finish_way s r;
    }
