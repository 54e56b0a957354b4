-- What `before` is, for readers: irreflexive, transitive, total up to `same_way`, which is an equivalence that it
-- respects. So directions stand in one counterclockwise order. Assumes nothing.
use mathlib.Core.Path.{◌≡◌, refl, sym, ap, ◌∙◌}
use mathlib.Core.Logic.{◌⊎◌, inl, inr}
use mathlib.Core.Bool.{true, false, true≢false}
use Rattle.lists.proofs.Bools.{not-true, agree}
use Rattle.integers.specs.Order.{sgn}
use Rattle.plane.specs.Directions.{Way, before, same_way}
use Rattle.rotation.specs.Ways.{Met, first, alike, last}
use Rattle.rotation.proofs.Ways.{before_says, before_is, alike_says, alike_is, before_irrefl, before_trans, met}
use Rattle.rotation.proofs.Ways.{cross_self, alike_sym, alike_trans, alike_before, before_alike}

pub irreflexive : (v : Way) → before v v ≡ false
irreflexive v = not-true (before v v) (λ e. before_irrefl v (before_says v v e))

pub transitive : (u v w : Way) → before u v ≡ true → before v w ≡ true → before u w ≡ true
transitive u v w e f = before_is u w (before_trans u v w (before_says u v e) (before_says v w f))

pub total : (v w : Way) → (before v w ≡ true) ⊎ ((same_way v w ≡ true) ⊎ (before w v ≡ true))
total v w = go (met v w)
  where
    go : Met v w → (before v w ≡ true) ⊎ ((same_way v w ≡ true) ⊎ (before w v ≡ true))
    go (first h) = inl (before_is v w h)
    go (alike h) = inr (inl (alike_is v w h))
    go (last h) = inr (inr (before_is w v h))

pub same_way_refl : (v : Way) → same_way v v ≡ true
same_way_refl v = alike_is v v (record { one_class = refl; one_line = ap sgn (cross_self v) })

pub same_way_sym : (v w : Way) → same_way v w ≡ true → same_way w v ≡ true
same_way_sym v w e = alike_is w v (alike_sym v w (alike_says v w e))

pub same_way_trans : (u v w : Way) → same_way u v ≡ true → same_way v w ≡ true → same_way u w ≡ true
same_way_trans u v w e f = alike_is u w (alike_trans u v w (alike_says u v e) (alike_says v w f))

pub respects_left : (u v w : Way) → same_way u v ≡ true → before u w ≡ before v w
respects_left u v w e = agree (before u w) (before v w)
    (λ h. before_is v w (alike_before v u w (alike_says v u (same_way_sym u v e)) (before_says u w h)))
    (λ h. before_is u w (alike_before u v w (alike_says u v e) (before_says v w h)))

pub respects_right : (u v w : Way) → same_way v w ≡ true → before u v ≡ before u w
respects_right u v w e = agree (before u v) (before u w)
    (λ h. before_is u w (before_alike u v w (before_says u v h) (alike_says v w e)))
    (λ h. before_is u v (before_alike u w v (before_says u w h) (alike_says w v (same_way_sym v w e))))

-- of two directions at most one is before the other
pub not_after : (v w : Way) → before v w ≡ true → before w v ≡ false
not_after v w e = not-true (before w v) (λ f. true≢false (sym (transitive v w v e f) ∙ irreflexive v))
