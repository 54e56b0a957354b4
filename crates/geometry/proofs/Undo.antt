-- The join undoes the cut, and the cut the join. Assumes nothing.
use mathlib.Core.Path.{◌≡◌, refl, sym, ap, ◌∙◌, subst}
use mathlib.Core.Bool.{Bool, true, false}
use mathlib.Core.List.{List, [], ◌∷◌}
use mathlib.Core.Logic.{◌⊎◌, inl, inr, ◌≢◌}
use Rattle.lists.proofs.Bools.{which, or-false}
use Rattle.plane.specs.declared.Point.{Point}
use Rattle.plane.specs.Points.{same_point}
use Rattle.plane.specs.Segments.{on_segment, straight_between}
use Rattle.plane.proofs.Laws.{same_point-true}
use Rattle.curves.specs.Curves.{last_of}
use Rattle.curves.specs.Tests.{straight_in}
use Rattle.curves.specs.Edits.{Halves, cut_here, cut, dropped, join_here, join}
use Rattle.geometry.specs.Spots.{spot, At, OnSeg}
use Rattle.geometry.specs.Meaning.{On, Some, Differ, SimpleArc}
use Rattle.geometry.proofs.Segments.{at_last, at_spot, at_one}
use Rattle.geometry.proofs.Meeting.{same_point_differ, same_point-false, same_point_refl, on_segment-true}
use Rattle.geometry.proofs.Meeting.{on_segment-false, on_segment_is, straight_between-true, straight_between_is}
use Rattle.geometry.proofs.Chains.{end_on, arc_open}
use Rattle.geometry.proofs.Cutting.{Place, cut-place}

-- ---- split, then heal

join-cons : (a b : Point) (f s : List Point) → Some f → join a (b ∷ f) s ≡ b ∷ join b f s
join-cons a b [] s h = absurd h
join-cons a b (c ∷ f) s h = refl

pub straight_tail : (a b : Point) (r : List Point) → straight_in a (b ∷ r) ≡ false → straight_in b r ≡ false
straight_tail a b [] e = refl
straight_tail a b (c ∷ r) e = (or-false (straight_between a b c) (straight_in b (c ∷ r)) e).1

pub join-cut : (m a : Point) (r : List Point) → a ≢ m → last_of a r ≢ m → On (spot m) a r → straight_in a r ≡ false
    → join a (cut m a r).front (cut m a r).back ≡ r
join-cut m a [] n l h w = absurd h
join-cut m a (b ∷ r) n l h w = go (on_segment m a b) (same_point m b) refl refl (cut-place m b r) (join-cut m b r)
  where
    at_vertex : (r : List Point) → last_of b r ≢ b → straight_in a (b ∷ r) ≡ false → join_here (dropped a b r) b r ≡ b ∷ r
    at_vertex [] k w = absurd (k refl)
    at_vertex (c ∷ r) k w = ap (λ (t : Bool). join_here t b (c ∷ r))
        (or-false (straight_between a b c) (straight_in b (c ∷ r)) w).0

    go : (p q : Bool) → on_segment m a b ≡ p → same_point m b ≡ q
        → (b ≢ m → last_of b r ≢ m → On (spot m) b r → Place m b r (cut m b r))
        → (b ≢ m → last_of b r ≢ m → On (spot m) b r → straight_in b r ≡ false
        → join b (cut m b r).front (cut m b r).back ≡ r)
        → join a (cut_here p q m b r (cut m b r)).front (cut_here p q m b r (cut m b r)).back ≡ b ∷ r
    go true true e f place next = at_vertex r (λ k. l (k ∙ sym (same_point-true m b f))) w
    go true false e f place next = ap (λ (t : Bool). join_here t m (b ∷ r))
        (straight_between_is (record { on = on_segment-true m a b e; not_first = n; not_last = same_point_differ m b f }))
    go false q e f place next = join-cons a b (cut m b r).front (cut m b r).back (place n' l o').some_front
        ∙ ap (λ (z : List Point). b ∷ z) (next n' l o' (straight_tail a b r w))
      where
        n' : b ≢ m
        n' k = on_segment-false m a b e (at_last a (subst (At (spot m)) (sym k) (at_spot m)))

        beyond : OnSeg (spot m) a b ⊎ On (spot m) b r → On (spot m) b r
        beyond (inl o) = absurd (on_segment-false m a b e o)
        beyond (inr k) = k

        o' : On (spot m) b r
        o' = beyond h

-- ---- heal, then split

pub cut-join : (a : Point) (r s : List Point) → Some r → Some s → SimpleArc a r → Differ a r → Differ (last_of a r) s
    → cut (last_of a r) a (join a r s) ≡ record { front = r; back = s }
cut-join a [] s h k f n n' = absurd h
cut-join a (m ∷ []) [] h k f n n' = absurd k
cut-join a (m ∷ []) (y ∷ s) h k f n n' = go (straight_between a m y) refl
  where
    go : (t : Bool) → straight_between a m y ≡ t → cut m a (join_here t m (y ∷ s))
        ≡ record { front = m ∷ []; back = y ∷ s }
    go true e = λ t. cut_here (on_segment_is (straight_between-true a m y e).on t) (same_point-false m y n'.0 t) m y s
        (cut m y s)
    go false e = λ t. cut_here (on_segment_is (at_last a (at_spot m)) t) (same_point_refl m t) m m (y ∷ s)
        (cut m m (y ∷ s))
cut-join a (b ∷ c ∷ r) s h k f n n' = (λ t. cut_here (apart t) (same_point z b) z b (join b (c ∷ r) s)
    (cut z b (join b (c ∷ r) s))) ∙ ap (λ (u : Halves). record { front = b ∷ u.front; back = u.back })
    (cut-join b (c ∷ r) s tt k f.1 n.1 n')
  where
    z : Point
    z = last_of c r

    apart : on_segment z a b ≡ false
    apart = go (which (on_segment z a b))
      where
        go : (on_segment z a b ≡ true) ⊎ (on_segment z a b ≡ false) → on_segment z a b ≡ false
        go (inr e) = e
        go (inl e) = absurd (arc_open b c r f.1 n.1.0
            (at_one (at_spot z) (f.0 (spot z) (on_segment-true z a b e) (end_on b c r (inr (at_spot z))))))
