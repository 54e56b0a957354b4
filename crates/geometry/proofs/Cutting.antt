-- The cut of a simple curve. Assumes nothing.
use mathlib.Core.Path.{◌≡◌, refl, sym, ap, ◌∙◌, subst}
use mathlib.Core.Bool.{Bool, true, false}
use mathlib.Core.List.{List, [], ◌∷◌, ◌++◌}
use mathlib.Core.Logic.{◌⊎◌, inl, inr, ◌≢◌}
use Prim.Native.Nat.{ℕ, suc, ◌+◌}
use lib.ListN.{length}
use Rattle.plane.specs.declared.Point.{Point}
use Rattle.plane.specs.Points.{same_point}
use Rattle.plane.specs.Segments.{on_segment}
use Rattle.plane.proofs.Laws.{same_point-true}
use Rattle.curves.specs.Curves.{last_of, second_of, before_last}
use Rattle.curves.specs.Edits.{Halves, cut_here, cut}
use Rattle.geometry.specs.Spots.{Spot, spot, At, OnSeg, SameWay}
use Rattle.geometry.specs.Meaning.{On, Differ, SimpleArc, Simple, Some}
use Rattle.geometry.proofs.Segments.{at_last, at_spot}
use Rattle.geometry.proofs.Meeting.{same_point_differ, on_segment-true, on_segment-false}
use Rattle.geometry.proofs.Alike.{Alike, alike_refl, alike_cons, alike_insert}
use Rattle.geometry.proofs.Chains.{on_front, on_back, on_split, last_append, differ_front, differ_back, Cut}
use Rattle.geometry.proofs.Chains.{simple-cut}

-- h are halves of a ∷ r that join at m
pub record Place (m a : Point) (r : List Point) (h : Halves) : Type 0 where
  pub joint : last_of a h.front ≡ m
  pub some_front : Some h.front
  pub some_back : Some h.back
  pub alike : Alike a r (h.front ++ h.back)
  -- no point more where m is a point of the curve, and else one
  pub count : (length (h.front ++ h.back) ≡ length r) ⊎ (length (h.front ++ h.back) ≡ suc (length r))

some_of : (m b : Point) (r : List Point) → m ≡ b → last_of b r ≢ m → Some r
some_of m b [] e n = n (sym e)
some_of m b (c ∷ r) e n = tt

pub cut-place : (m a : Point) (r : List Point) → a ≢ m → last_of a r ≢ m → On (spot m) a r → Place m a r (cut m a r)
cut-place m a [] n l h = absurd h
cut-place m a (b ∷ r) n l h = go (on_segment m a b) (same_point m b) refl refl (cut-place m b r)
  where
    go : (p q : Bool) → on_segment m a b ≡ p → same_point m b ≡ q
        → (b ≢ m → last_of b r ≢ m → On (spot m) b r → Place m b r (cut m b r))
        → Place m a (b ∷ r) (cut_here p q m b r (cut m b r))
    go true true e f next =
        record {
          joint = sym (same_point-true m b f);
          some_front = tt;
          some_back = some_of m b r (same_point-true m b f) l;
          alike = alike_refl a (b ∷ r) tt;
          count = inl refl;
        }
    go true false e f next =
        record {
          joint = refl;
          some_front = tt;
          some_back = tt;
          alike = alike_insert (record {
            on = on_segment-true m a b e;
            not_first = n;
            not_last = same_point_differ m b f;
          }) r;
          count = inr refl;
        }
    go false q e f next = onward (next (λ k. on_segment-false m a b e
        (at_last a (subst (At (spot m)) (sym k) (at_spot m)))) l (beyond h))
      where
        beyond : OnSeg (spot m) a b ⊎ On (spot m) b r → On (spot m) b r
        beyond (inl o) = absurd (on_segment-false m a b e o)
        beyond (inr k) = k

        onward : Place m b r (cut m b r) → Place m a (b ∷ r) (cut_here false q m b r (cut m b r))
        onward p =
            record {
              joint = p.joint;
              some_front = tt;
              some_back = p.some_back;
              alike = alike_cons a b p.alike;
              count = counted p.count;
            }
          where
            counted : {x y : ℕ} → (x ≡ y) ⊎ (x ≡ suc y) → (suc x ≡ suc y) ⊎ (suc x ≡ suc (suc y))
            counted (inl k) = inl (ap suc k)
            counted (inr k) = inr (ap suc k)

-- ---- what the two halves are

pub record Cloven (m a : Point) (r front back : List Point) : Type 0 where
  pub some_front : Some front
  pub some_back : Some back
  pub joint : last_of a front ≡ m
  pub last : last_of m back ≡ last_of a r
  pub front-arc : SimpleArc a front
  pub back-arc : SimpleArc m back
  pub front_differ : Differ a front
  pub back_differ : Differ m back
  pub on_front : (P : Spot) → On P a front → On P a r
  pub on_back : (P : Spot) → On P m back → On P a r
  pub on_either : (P : Spot) → On P a r → On P a front ⊎ On P m back
  -- they share m and, where the curve is closed, its end only
  pub shared : (P : Spot) → On P a front → On P m back → At P m ⊎ (At P a × (last_of a r ≡ a))
  pub start : SameWay a (second_of a r) a (second_of a front)
  pub finish : SameWay (last_of a r) (before_last a r) (last_of m back) (before_last m back)
  pub count : (length front + length back ≡ length r) ⊎ (length front + length back ≡ suc (length r))

pub second_append : (a : Point) (r s : List Point) → Some r → second_of a (r ++ s) ≡ second_of a r
second_append a [] s h = absurd h
second_append a (b ∷ r) s h = refl

pub before-append : (a : Point) (r s : List Point) → Some s → before_last a (r ++ s) ≡ before_last (last_of a r) s
before-append a [] s h = refl
before-append a (b ∷ []) [] h = absurd h
before-append a (b ∷ []) (c ∷ s) h = refl
before-append a (b ∷ c ∷ r) s h = before-append b (c ∷ r) s h

cut_some : (a : Point) (r s : List Point) → Some r → Some s → Differ a (r ++ s) → Simple a (r ++ s) → Cut a r s
cut_some a [] s h k n p = absurd h
cut_some a (b ∷ r) [] h k n p = absurd k
cut_some a (b ∷ r) (c ∷ s) h k n p = simple-cut a b r c s n p

cloven : (a : Point) (r : List Point) (h : Halves) → Place (last_of a h.front) a r h → Differ a r → Simple a r
    → Cloven (last_of a h.front) a r h.front h.back
cloven a r h p n w =
    record {
      some_front = p.some_front;
      some_back = p.some_back;
      joint = refl;
      last = sym (p.alike.last ∙ last_append a h.front h.back);
      front-arc = c.front;
      back-arc = c.back;
      front_differ = differ_front a h.front h.back (p.alike.differ n);
      back_differ = differ_back a h.front h.back (p.alike.differ n);
      on_front = λ P k. p.alike.on' P (on_front P a h.front h.back k);
      on_back = λ P k. p.alike.on' P (on_back P a h.front h.back k);
      on_either = λ P k. on_split P a h.front h.back (p.alike.on P k);
      shared = λ P k l. end P (c.closing P k l);
      start = rw (second_append a h.front h.back p.some_front) at p.alike.start;
      finish = rw (last_append a h.front h.back, before-append a h.front h.back p.some_back) at
          p.alike.finish;
      count = rw lib.ListN.length-append at p.count;
    }
  where
    c : Cut a h.front h.back
    c = cut_some a h.front h.back p.some_front p.some_back (p.alike.differ n) (p.alike.simple w)

    end : (P : Spot) → At P (last_of a h.front) ⊎ (At P a × (last_of (last_of a h.front) h.back ≡ a))
        → At P (last_of a h.front) ⊎ (At P a × (last_of a r ≡ a))
    end P (inl e) = inl e
    end P (inr e) = inr (e.0, p.alike.last ∙ last_append a h.front h.back ∙ e.1)

pub cut_cloven : (m a : Point) (r : List Point) → a ≢ m → last_of a r ≢ m → On (spot m) a r → Differ a r → Simple a r
    → Cloven m a r (cut m a r).front (cut m a r).back
cut_cloven m a r n l o d w =
    let p = cut-place m a r n l o in
    subst (λ (z : Point). Place z a r (cut m a r) → Cloven z a r (cut m a r).front (cut m a r).back) p.joint
    (λ q. cloven a r (cut m a r) q d w) p
