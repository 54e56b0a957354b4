-- The tests of curves tell the truth: `meet_wrongly` false means common ends only, `simple` true means simple. Assumes
-- nothing.
use mathlib.Core.Path.{◌≡◌, refl, sym, ap, ◌∙◌, subst}
use mathlib.Core.Bool.{Bool, true, false, not, false≢true, ◌&&◌, ◌||◌}
use mathlib.Core.List.{List, [], ◌∷◌}
use mathlib.Core.Logic.{◌⊎◌, inl, inr, ◌≢◌}
use borrow.Author.Tests.{not-true, not-false}
use Rattle.lists.proofs.Bools.{or-true, and-true, or-false}
use Rattle.plane.specs.declared.Point.{Point}
use Rattle.plane.specs.Points.{same_point}
use Rattle.plane.specs.Segments.{on_segment, stretches}
use Rattle.plane.proofs.Laws.{same_point-true}
use Rattle.curves.specs.Curves.{Curve, last_of, last_point}
use Rattle.curves.specs.Tests.{shares, seg_wrong, may_share, seg_meeting, common_ends, meeting, is_met, meet_wrongly}
use Rattle.curves.specs.Tests.{lastly, free, free_after, arc, simple}
use Rattle.curves.proofs.Meetings.{met_seg, graver_unmet, seg_curve, curve_curve}
use Rattle.geometry.specs.Spots.{Spot, At, OnSeg, Among}
use Rattle.geometry.specs.Meaning.{On, SimpleArc, Simple, End}
use Rattle.geometry.specs.Drawing.{ClearCurves}
use Rattle.geometry.proofs.Meeting.{on_segment-true, meets-spot}
use Rattle.geometry.proofs.Stretch.{unique, same_at}

-- ---- two segments

among_shared : (P : Spot) (l : List Point) {a b c d : Point} → stretches a b c d ≡ false → OnSeg P a b → OnSeg P c d
    → shares l a b c d ≡ true → Among P l
among_shared P [] e o p s = absurd (false≢true s)
among_shared P (q ∷ l) {a} {b} {c} {d} e o p s =
    go (or-true (on_segment q a b && on_segment q c d) (shares l a b c d) s) (among_shared P l e o p)
  where
    go : (on_segment q a b && on_segment q c d ≡ true) ⊎ (shares l a b c d ≡ true)
        → (shares l a b c d ≡ true → Among P l) → At P q ⊎ Among P l
    go (inl f) k =
        let h = and-true (on_segment q a b) (on_segment q c d) f in
        inl (same_at (unique e o p (on_segment-true q a b h.0) (on_segment-true q c d h.1)))
    go (inr f) k = inr (k f)

-- what they share is in the list
pub seg_among : (P : Spot) (l : List Point) {a b c d : Point} → seg_wrong l a b c d ≡ false → OnSeg P a b → OnSeg P c d
    → Among P l
unfolding seg_wrong
seg_among P l {a} {b} {c} {d} e o p =
    let f : stretches a b c d || not (shares l a b c d) ≡ false =
    sym (ap (λ (t : Bool). t && (stretches a b c d || not (shares l a b c d))) (meets-spot o p)) ∙ e in
    let h = or-false (stretches a b c d) (not (shares l a b c d)) f in
    among_shared P l h.0 o p (not-false _ h.1)

-- ---- two curves

seg_curve_lem : (P : Spot) (l : List Point) {a b : Point} (c : Point) (s : List Point) → is_met (seg_curve l a b c s) ≡ false
    → OnSeg P a b → On P c s → Among P l
seg_curve_lem P l c [] e o p = absurd p
seg_curve_lem P l {a} {b} c (d ∷ s) e o (inl p) =
    seg_among P l (sym (met_seg l a b c d) ∙ (graver_unmet (seg_meeting l a b c d) (seg_curve l a b d s) e).0) o p
seg_curve_lem P l {a} {b} c (d ∷ s) e o (inr p) =
    seg_curve_lem P l d s (graver_unmet (seg_meeting l a b c d) (seg_curve l a b d s) e).1 o p

curve-curve : (P : Spot) (l : List Point) (a : Point) (r : List Point) (c : Point) (s : List Point)
    → is_met (curve_curve l a r c s) ≡ false → On P a r → On P c s → Among P l
curve-curve P l a [] c s e o p = absurd o
curve-curve P l a (b ∷ r) c s e (inl o) p =
    seg_curve_lem P l c s (graver_unmet (seg_curve l a b c s) (curve_curve l b r c s) e).0 o p
curve-curve P l a (b ∷ r) c s e (inr o) p =
    curve-curve P l b r c s (graver_unmet (seg_curve l a b c s) (curve_curve l b r c s) e).1 o p

kept : (P : Spot) (t : Bool) (q : Point) (l : List Point) → Among P (may_share t q l) → ((t ≡ true) × At P q) ⊎ Among P l
kept P true q l (inl h) = inl (refl, h)
kept P true q l (inr h) = inr h
kept P false q l h = inr h

-- a common end is an end of the second curve
is_end_lem : (P : Spot) (q b : Point) (s : List Point) → At P q → same_point q b || same_point q (last_of b s) ≡ true
    → End P b s
is_end_lem P q b s h e = go (or-true (same_point q b) (same_point q (last_of b s)) e)
  where
    go : (same_point q b ≡ true) ⊎ (same_point q (last_of b s) ≡ true) → End P b s
    go (inl f) = inl (subst (At P) (same_point-true q b f) h)
    go (inr f) = inr (subst (At P) (same_point-true q (last_of b s) f) h)

pub ends : (P : Spot) (c d : Curve) → Among P (common_ends c d) → End P c.first c.rest × End P d.first d.rest
ends P c d h = go (kept P (hit c.first) c.first (may_share (hit z) z []) h)
  where
    z : Point
    z = last_point c

    hit : Point → Bool
    hit q = same_point q d.first || same_point q (last_point d)

    next : ((hit z ≡ true) × At P z) ⊎ ⊥ → End P c.first c.rest × End P d.first d.rest
    next (inl k) = (inr k.1, is_end_lem P z d.first d.rest k.1 k.0)
    next (inr k) = absurd k

    go : ((hit c.first ≡ true) × At P c.first) ⊎ Among P (may_share (hit z) z [])
        → End P c.first c.rest × End P d.first d.rest
    go (inl k) = (inl k.1, is_end_lem P c.first d.first d.rest k.1 k.0)
    go (inr k) = next (kept P (hit z) z [] k)

pub unmet_clear : (c d : Curve) → meet_wrongly c d ≡ false → ClearCurves c d
unfolding meeting
unmet_clear c d e P o p =
    ends P c d (curve-curve P (common_ends c d) c.first c.rest d.first d.rest e o p)

-- ---- one curve

among-lastly : (P : Spot) (l r : List Point) → Among P (lastly l r) → Among P l
among-lastly P l [] h = h
among-lastly P l (b ∷ r) h = absurd h

free-among : (P : Spot) (l : List Point) {a b : Point} (c : Point) (r : List Point) → free l a b c r ≡ true
    → OnSeg P a b → On P c r → Among P l
free-among P l c [] e o p = absurd p
free-among P l {a} {b} c (d ∷ r) e o (inl p) =
    among-lastly P l r (seg_among P (lastly l r)
    (not-true _ (and-true (not (seg_wrong (lastly l r) a b c d)) (free l a b d r) e).0) o p)
free-among P l {a} {b} c (d ∷ r) e o (inr p) =
    free-among P l d r (and-true (not (seg_wrong (lastly l r) a b c d)) (free l a b d r) e).1 o p

after-among : (P : Spot) (l : List Point) (a b : Point) (r : List Point) → free_after l a b r ≡ true → OnSeg P a b
    → On P b r → At P b ⊎ Among P l
after-among P l a b [] e o p = absurd p
after-among P l a b (c ∷ r) e o (inl p) =
    go (seg_among P (b ∷ []) (not-true _ (and-true (not (seg_wrong (b ∷ []) a b b c)) (free l a b c r) e).0) o p)
  where
    go : At P b ⊎ ⊥ → At P b ⊎ Among P l
    go (inl k) = inl k
    go (inr k) = absurd k
after-among P l a b (c ∷ r) e o (inr p) =
    inr (free-among P l c r (and-true (not (seg_wrong (b ∷ []) a b b c)) (free l a b c r) e).1 o p)

pub arc-true : (a : Point) (r : List Point) → arc a r ≡ true → SimpleArc a r
arc-true a [] e = tt
arc-true a (b ∷ r) e = let h = and-true (free_after [] a b r) (arc b r) e in
    ((λ P o p. go P (after-among P [] a b r h.0 o p)), arc-true b r h.1)
  where
    go : (P : Spot) → At P b ⊎ ⊥ → At P b
    go P (inl k) = k
    go P (inr k) = absurd k

pub simple-true : (a : Point) (r : List Point) → simple a r ≡ true → Simple a r
unfolding simple
simple-true a [] e = tt
simple-true a (b ∷ r) e = ((λ P o p. go P (after-among P l a b r h.0 o p)), arc-true b r h.1)
  where
    l : List Point
    l = may_share (same_point (last_of b r) a) a []

    h : (free_after l a b r ≡ true) × (arc b r ≡ true)
    h = and-true (free_after l a b r) (arc b r) e

    next : (P : Spot) → ((same_point (last_of b r) a ≡ true) × At P a) ⊎ ⊥ → At P b ⊎ (At P a × (last_of b r ≡ a))
    next P (inl k) = inr (k.1, same_point-true (last_of b r) a k.0)
    next P (inr k) = absurd k

    go : (P : Spot) → At P b ⊎ Among P l → At P b ⊎ (At P a × (last_of b r ≡ a))
    go P (inl k) = inl k
    go P (inr k) = next P (kept P (same_point (last_of b r) a) a [] k)
