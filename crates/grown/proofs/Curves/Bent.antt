-- No inner point straight between its neighbours: cut, join and reverse keep this. Over the curve a ∷ r. Assumes
-- nothing.
use mathlib.Core.Path.{◌≡◌, refl, sym, subst}
use mathlib.Core.Bool.{Bool, true, false}
use mathlib.Core.List.{List, [], ◌∷◌, ◌++◌}
use mathlib.Core.Logic.{◌⊎◌, inl, inr, ◌≢◌}
use Rattle.lists.proofs.Bools.{or-false, or_no}
use Rattle.plane.specs.declared.Point.{Point}
use Rattle.plane.specs.Points.{same_point}
use Rattle.plane.specs.Segments.{on_segment, straight_between}
use Rattle.plane.proofs.Laws.{same_point-true}
use Rattle.curves.specs.Curves.{last_of, second_of, before_last}
use Rattle.curves.specs.Tests.{straight_in}
use Rattle.curves.specs.Edits.{Halves, cut_here, cut, join_here, join, turned}
use Rattle.geometry.specs.Spots.{spot, At, OnSeg, Between}
use Rattle.geometry.specs.Meaning.{On, Some}
use Rattle.geometry.proofs.Segments.{at_last, at_spot}
use Rattle.geometry.proofs.Meeting.{same_point_differ, on_segment-true, on_segment-false, straight_between-true}
use Rattle.geometry.proofs.Bent.{between_sym, extend, shorten, unless_between, bent_second, bent_cons, bent_first}
use Rattle.geometry.proofs.Turning.{last_turned, before-turned}
use Rattle.geometry.proofs.Undo.{straight_tail}

-- ---- the cut

-- the halves of a ∷ r; the front's second point is that of a ∷ r or lies before it
pub record Halved (m a : Point) (r : List Point) (h : Halves) : Type 0 where
  pub front : straight_in a h.front ≡ false
  pub back : straight_in m h.back ≡ false
  pub second : (second_of a h.front ≡ second_of a r) ⊎ Between a (second_of a h.front) (second_of a r)

pub cut_bent : (m a : Point) (r : List Point) → a ≢ m → On (spot m) a r → straight_in a r ≡ false
    → Halved m a r (cut m a r)
cut_bent m a [] n o w = absurd o
cut_bent m a (b ∷ r) n o w = go (on_segment m a b) (same_point m b) refl refl (cut_bent m b r)
  where
    go : (p q : Bool) → on_segment m a b ≡ p → same_point m b ≡ q
        → (b ≢ m → On (spot m) b r → straight_in b r ≡ false → Halved m b r (cut m b r))
        → Halved m a (b ∷ r) (cut_here p q m b r (cut m b r))
    go true true e f next = record {
      front = refl;
      back = subst (λ (z : Point). straight_in z r ≡ false) (sym (same_point-true m b f)) (straight_tail a b r w);
      second = inl refl;
    }
    go true false e f next = record { front = refl; back = bent_first a m b r (λ c. extend s) w; second = inr s }
      where
        s : Between a m b
        s = record { on = on_segment-true m a b e; not_first = n; not_last = same_point_differ m b f }
    go false q e f next = onward (next n' o' (straight_tail a b r w))
      where
        n' : b ≢ m
        n' k = on_segment-false m a b e (at_last a (subst (At (spot m)) (sym k) (at_spot m)))

        beyond : OnSeg (spot m) a b ⊎ On (spot m) b r → On (spot m) b r
        beyond (inl k) = absurd (on_segment-false m a b e k)
        beyond (inr k) = k

        o' : On (spot m) b r
        o' = beyond o

        some : (r : List Point) → On (spot m) b r → Some r
        some [] k = k
        some (c ∷ r) k = tt

        turn : (z : Point) → (z ≡ second_of b r) ⊎ Between b z (second_of b r) → straight_between a b z ≡ false
        turn z (inl k) = subst (λ (y : Point). straight_between a b y ≡ false) (sym k) (bent_second a b r (some r o') w)
        turn z (inr s) = unless_between (λ t. between_sym (extend (between_sym s) (between_sym t)))
            (bent_second a b r (some r o') w)

        onward : Halved m b r (cut m b r) → Halved m a (b ∷ r) (cut_here false q m b r (cut m b r))
        onward h = record {
          front = bent_cons a b (cut m b r).front
              (λ k. turn (second_of b (cut m b r).front) h.second) h.front;
          back = h.back;
          second = inl refl;
        }

-- ---- the join

-- the join of a ∷ r and its last point ∷ s; its second point is that of a ∷ r or lies behind it
pub record Merged (a : Point) (r j : List Point) : Type 0 where
  pub bent : straight_in a j ≡ false
  pub second : (second_of a j ≡ second_of a r) ⊎ Between a (second_of a r) (second_of a j)

pub join_bent : (a : Point) (r s : List Point) → Some r → Some s → straight_in a r ≡ false → straight_in (last_of a r) s
    ≡ false → Merged a r (join a r s)
join_bent a [] s h k u v = absurd h
join_bent a (m ∷ []) [] h k u v = absurd k
join_bent a (m ∷ []) (y ∷ s) h k u v = go (straight_between a m y) refl
  where
    go : (b : Bool) → straight_between a m y ≡ b → Merged a (m ∷ []) (join_here b m (y ∷ s))
    go true e =
        let t : Between a m y = straight_between-true a m y e in
        record { bent = bent_first m a y s (λ c. shorten t) v; second = inr t }
    go false e = record { bent = or_no e v; second = inl refl }
join_bent a (b ∷ c ∷ r) s h k u v = onward (join_bent b (c ∷ r) s tt k (straight_tail a b (c ∷ r) u) v)
  where
    turn : (z : Point) → (z ≡ c) ⊎ Between b c z → straight_between a b z ≡ false
    turn z (inl e) = subst (λ (y : Point). straight_between a b y ≡ false) (sym e) (bent_second a b (c ∷ r) tt u)
    turn z (inr t) = unless_between (λ w. between_sym (shorten (between_sym t) (between_sym w)))
        (bent_second a b (c ∷ r) tt u)

    onward : Merged b (c ∷ r) (join b (c ∷ r) s) → Merged a (b ∷ c ∷ r) (b ∷ join b (c ∷ r) s)
    onward m = record {
      bent = bent_cons a b (join b (c ∷ r) s) (λ l. turn (second_of b (join b (c ∷ r) s)) m.second)
          m.bent;
      second = inl refl;
    }

-- ---- the reverse

-- one point more at the end
bent_snoc : (a : Point) (r : List Point) (z : Point)
    → (Some r → straight_between (before_last a r) (last_of a r) z ≡ false) → straight_in a r ≡ false
    → straight_in a (r ++ (z ∷ [])) ≡ false
bent_snoc a [] z h e = refl
bent_snoc a (b ∷ []) z h e = or_no (h tt) refl
bent_snoc a (b ∷ c ∷ r) z h e =
    let k = or-false (straight_between a b c) (straight_in b (c ∷ r)) e in
    or_no k.0 (bent_snoc b (c ∷ r) z h k.1)

pub turned_bent : (a : Point) (r : List Point) → straight_in a r ≡ false → straight_in (last_of a r) (turned a r) ≡ false
turned_bent a [] e = refl
turned_bent a (b ∷ []) e = refl
turned_bent a (b ∷ c ∷ r) e = bent_snoc (last_of c r) (turned b (c ∷ r)) a (λ k. around)
    (turned_bent b (c ∷ r) (straight_tail a b (c ∷ r) e))
  where
    around : straight_between (before_last (last_of c r) (turned b (c ∷ r))) (last_of (last_of c r) (turned b (c ∷ r))) a
        ≡ false
    around = rw (before-turned b (c ∷ r) tt, last_turned b (c ∷ r))
        (unless_between between_sym (bent_second a b (c ∷ r) tt e))
