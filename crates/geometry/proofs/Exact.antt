-- The tests of curves refuse no curve wrongly: curves that share common ends only do not meet, and simple curves pass
-- `simple`. Assumes nothing.
use mathlib.Core.Path.{◌≡◌, refl, sym, ap, ◌∙◌, subst}
use mathlib.Core.Bool.{Bool, true, false, not, ◌&&◌, ◌||◌}
use mathlib.Core.List.{List, [], ◌∷◌}
use mathlib.Core.Logic.{◌⊎◌, inl, inr, ◌≢◌}
use Prim.Native.Nat.{ℕ, ◌+◌, ◌*◌, ◌<◌}
use native.Mathlib.Nat.{mul-pos}
use native.Mathlib.Omega.{arith}
use lib.IntN.{pos}
use Rattle.integers.specs.Solver.{con, ◌⊕◌, ◌⊗◌, ◌≐◌, solve}
use Rattle.integers.specs.Linear.{pos_injective}
use Rattle.lists.proofs.Bools.{which, or_right, and_is, or_left}
use Rattle.plane.specs.declared.Point.{Point}
use Rattle.plane.specs.Points.{same_point}
use Rattle.plane.specs.Segments.{meets, on_segment, stretches}
use Rattle.plane.proofs.Laws.{point_path}
use Rattle.curves.specs.Curves.{Curve, last_of, last_point}
use Rattle.curves.specs.Tests.{shares, seg_wrong, may_share, seg_meeting, common_ends, meeting, is_met, meet_wrongly}
use Rattle.curves.specs.Tests.{free, free_after, arc, simple}
use Rattle.curves.proofs.Meetings.{met_seg, unmet_graver, seg_curve, curve_curve}
use Rattle.geometry.specs.Spots.{Spot, spot, At, OnSeg, Among}
use Rattle.geometry.specs.Meaning.{On, Differ, SimpleArc, Simple, End}
use Rattle.geometry.specs.Drawing.{ClearCurves}
use Rattle.geometry.proofs.Segments.{at_one, at_spot, at_first, at_last}
use Rattle.geometry.proofs.Chains.{end_on, arc_open}
use Rattle.geometry.proofs.Meeting.{same_point_refl, meets-true, on_segment_is}
use Rattle.geometry.proofs.Double.{Two, stretch_two}
use Rattle.geometry.proofs.Contact.{at_on}

-- ---- the middle of two points

middle : Point → Point → Spot
middle p q = record { x = p.x + q.x; y = p.y + q.y; d = 2; some = omega arith }

half_way : (j i j' i' a b p q : ℕ) → (j + i) * p ≡ 1 * (j * a + i * b) → (j' + i') * q ≡ 1 * (j' * a + i' * b)
    → (j * (j' + i') + j' * (j + i) + (i * (j' + i') + i' * (j + i))) * (p + q)
    ≡ 2 * ((j * (j' + i') + j' * (j + i)) * a + (i * (j' + i') + i' * (j + i)) * b)
half_way j i j' i' a b p q e f =
    pos_injective (solve 6 (λ j i j' i' p q. (j ⊗ (j' ⊕ i') ⊕ j' ⊗ (j ⊕ i) ⊕ (i ⊗ (j' ⊕ i') ⊕ i' ⊗ (j ⊕ i))) ⊗ (p ⊕ q)
    ≐ con (pos 2) ⊗ ((j' ⊕ i') ⊗ ((j ⊕ i) ⊗ p) ⊕ (j ⊕ i) ⊗ ((j' ⊕ i') ⊗ q))) tt (pos j) (pos i) (pos j') (pos i')
    (pos p) (pos q)
    ∙ ap (λ (n : ℕ). pos (2 * ((j' + i') * n + (j + i) * ((j' + i') * q)))) e
    ∙ ap (λ (n : ℕ). pos (2 * ((j' + i') * (1 * (j * a + i * b)) + (j + i) * n))) f
    ∙ solve 6 (λ j i j' i' a b. con (pos 2) ⊗
    ((j' ⊕ i') ⊗ (con (pos 1) ⊗ (j ⊗ a ⊕ i ⊗ b)) ⊕ (j ⊕ i) ⊗ (con (pos 1) ⊗ (j' ⊗ a ⊕ i' ⊗ b)))
    ≐ con (pos 2) ⊗ ((j ⊗ (j' ⊕ i') ⊕ j' ⊗ (j ⊕ i)) ⊗ a ⊕ (i ⊗ (j' ⊕ i') ⊕ i' ⊗ (j ⊕ i)) ⊗ b)) tt (pos j) (pos i)
    (pos j') (pos i') (pos a) (pos b))

middle_on : {p q a b : Point} → OnSeg (spot p) a b → OnSeg (spot q) a b → OnSeg (middle p q) a b
unfolding middle
middle_on {p} {q} {a} {b} o r =
    record {
      j = o.j * (r.j + r.i) + r.j * (o.j + o.i);
      i = o.i * (r.j + r.i) + r.i * (o.j + o.i);
      weight = let h : 0 < (o.j + o.i) * (r.j + r.i) = mul-pos o.weight r.weight in
          subst (λ (n : ℕ). 0 < n) total (mul-pos two h);
      x = half_way o.j o.i r.j r.i a.x b.x p.x q.x o.x r.x;
      y = half_way o.j o.i r.j r.i a.y b.y p.y q.y o.y r.y;
    }
  where
    two : 0 < 2
    two = omega arith

    total : 2 * ((o.j + o.i) * (r.j + r.i))
        ≡ o.j * (r.j + r.i) + r.j * (o.j + o.i) + (o.i * (r.j + r.i) + r.i * (o.j + o.i))
    total = pos_injective (solve 4 (λ j i k l. con (pos 2) ⊗ ((j ⊕ i) ⊗ (k ⊕ l)) ≐ j ⊗ (k ⊕ l) ⊕ k ⊗
        (j ⊕ i) ⊕ (i ⊗ (k ⊕ l) ⊕ l ⊗ (j ⊕ i))) tt
        (pos o.j) (pos o.i) (pos r.j) (pos r.i))

middle_first : {p q : Point} → At (middle p q) p → p ≡ q
unfolding middle
middle_first h = point_path (omega (arith, h.x)) (omega (arith, h.y))

middle_last : {p q : Point} → At (middle p q) q → p ≡ q
unfolding middle
middle_last h = point_path (omega (arith, h.x)) (omega (arith, h.y))

-- ---- segments that share two points at most do not stretch

pub no_two_lem : {a b c d : Point} (u v : Point) → ((P : Spot) → OnSeg P a b → OnSeg P c d → At P u ⊎ At P v) → Two a b c d
    → ⊥
no_two_lem {a} {b} {c} {d} u v h t = go (h (spot t.p) t.p_ab t.p_cd) (h (spot t.q) t.q_ab t.q_cd)
    (h (middle t.p t.q) (middle_on t.p_ab t.q_ab) (middle_on t.p_cd t.q_cd))
  where
    is : {w : Point} (p : Point) → At (spot p) w → p ≡ w
    is p k = at_one (at_spot p) k

    first : {w : Point} → At (spot t.p) w → At (middle t.p t.q) w → ⊥
    first k l = t.differ (middle_first (subst (At (middle t.p t.q)) (sym (is t.p k)) l))

    last : {w : Point} → At (spot t.q) w → At (middle t.p t.q) w → ⊥
    last k l = t.differ (middle_last (subst (At (middle t.p t.q)) (sym (is t.q k)) l))

    go : At (spot t.p) u ⊎ At (spot t.p) v → At (spot t.q) u ⊎ At (spot t.q) v
        → At (middle t.p t.q) u ⊎ At (middle t.p t.q) v → ⊥
    go (inl k) l (inl m) = first k m
    go (inr k) l (inr m) = first k m
    go (inl k) (inr l) (inr m) = last l m
    go (inr k) (inl l) (inl m) = last l m
    go (inl k) (inl l) (inr m) = t.differ (is t.p k ∙ sym (is t.q l))
    go (inr k) (inr l) (inl m) = t.differ (is t.p k ∙ sym (is t.q l))

no_stretch : {a b c d : Point} (u v : Point) → ((P : Spot) → OnSeg P a b → OnSeg P c d → At P u ⊎ At P v)
    → stretches a b c d ≡ false
no_stretch {a} {b} {c} {d} u v h = elim
    (which (stretches a b c d)) [ inl e ↦ absurd (no_two_lem u v h (stretch_two a b c d e)) | inr e ↦ e ]

pub shares_is : (P : Spot) (l : List Point) {a b c d : Point} → OnSeg P a b → OnSeg P c d → Among P l → shares l a b c d
    ≡ true
shares_is P [] o p h = absurd h
shares_is P (q ∷ l) {a} {b} {c} {d} o p (inl h) =
    or_left (shares l a b c d) (and_is (on_segment_is (at_on h o)) (on_segment_is (at_on h p)))
shares_is P (q ∷ l) {a} {b} {c} {d} o p (inr h) =
    or_right (on_segment q a b && on_segment q c d) (shares l a b c d) (shares_is P l o p h)

-- what two segments share is in the list, and one of two points
pub seg_right : (l : List Point) {a b c d : Point} (u v : Point)
    → ((P : Spot) → OnSeg P a b → OnSeg P c d → Among P l × (At P u ⊎ At P v)) → seg_wrong l a b c d ≡ false
unfolding seg_wrong
seg_right l {a} {b} {c} {d} u v h = go (which (meets a b c d))
  where
    still : stretches a b c d ≡ false
    still = no_stretch u v (λ P o p. (h P o p).1)

    go : (meets a b c d ≡ true) ⊎ (meets a b c d ≡ false) → meets a b c d
        && (stretches a b c d || not (shares l a b c d)) ≡ false
    go (inr e) = ap (λ (t : Bool). t && (stretches a b c d || not (shares l a b c d))) e
    go (inl e) =
        let t = meets-true a b c d e in
        λ k. e k && (still k || not (shares_is t.0 l t.1 t.2 (h t.0 t.1 t.2).0 k))

-- ---- two curves

seg_curve_lem : (l : List Point) {a b : Point} (u v c : Point) (s : List Point)
    → ((P : Spot) → OnSeg P a b → On P c s → Among P l × (At P u ⊎ At P v)) → is_met (seg_curve l a b c s) ≡ false
seg_curve_lem l u v c [] h = refl
seg_curve_lem l {a} {b} u v c (d ∷ s) h =
    unmet_graver (seg_meeting l a b c d) (seg_curve l a b d s)
    (met_seg l a b c d ∙ seg_right l u v (λ P o p. h P o (inl p))) (seg_curve_lem l u v d s (λ P o p. h P o (inr p)))

curve-curve : (l : List Point) (u v a : Point) (r : List Point) (c : Point) (s : List Point)
    → ((P : Spot) → On P a r → On P c s → Among P l × (At P u ⊎ At P v)) → is_met (curve_curve l a r c s) ≡ false
curve-curve l u v a [] c s h = refl
curve-curve l u v a (b ∷ r) c s h =
    unmet_graver (seg_curve l a b c s) (curve_curve l b r c s) (seg_curve_lem l u v c s (λ P o p. h P (inl o) p))
    (curve-curve l u v b r c s (λ P o p. h P (inr o) p))

among_first : (P : Spot) (t : Bool) (q : Point) (l : List Point) → t ≡ true → At P q → Among P (may_share t q l)
among_first P t q l e h = subst (λ (b : Bool). Among P (may_share b q l)) (sym e) (inl h)

among_rest : (P : Spot) (t : Bool) (q : Point) (l : List Point) → Among P l → Among P (may_share t q l)
among_rest P true q l h = inr h
among_rest P false q l h = h

hit : (P : Spot) (q b : Point) (s : List Point) → At P q → End P b s → same_point q b || same_point q (last_of b s) ≡ true
hit P q b s h (inl k) = or_left (same_point q (last_of b s)) (ap (same_point q) (at_one k h) ∙ same_point_refl q)
hit P q b s h (inr k) = or_right (same_point q b) (same_point q (last_of b s))
    (ap (same_point q) (at_one k h) ∙ same_point_refl q)

-- an end of both is a common end
pub ends_among : (P : Spot) (c d : Curve) → End P c.first c.rest → End P d.first d.rest
    → Among P (common_ends c d)
ends_among P c d h e = go h
  where
    a : Point
    a = c.first

    z : Point
    z = last_point c

    ends : Point → Bool
    ends q = same_point q d.first || same_point q (last_point d)

    go : End P c.first c.rest → Among P (common_ends c d)
    go (inl k) = among_first P (ends a) a (may_share (ends z) z []) (hit P a d.first d.rest k e) k
    go (inr k) = among_rest P (ends a) a (may_share (ends z) z [])
        (among_first P (ends z) z [] (hit P z d.first d.rest k e) k)

pub clear_unmet : (c d : Curve) → ClearCurves c d → meet_wrongly c d ≡ false
unfolding meeting
clear_unmet c d h =
    curve-curve (common_ends c d) c.first (last_point c) c.first c.rest d.first d.rest
    (λ P o p. (ends_among P c d (h P o p).0 (h P o p).1, (h P o p).0))

-- ---- one curve

-- the first two segments of a simple curve share their common point only
module _ (a b c : Point) (w : a ≢ b) where
  pub near : (r : List Point) → SimpleArc b (c ∷ r) → Differ b (c ∷ r) → (P : Spot) → OnSeg P a b → OnSeg P b c → At P b
      ⊎ (At P a × (last_of c r ≡ a))
      → ((P : Spot) → OnSeg P a b → OnSeg P b c ⊎ On P c r → At P b ⊎ (At P a × (last_of c r ≡ a))) → At P b
  near r g n P o p (inl k) h = k
  near [] g n P o p (inr k) h = absurd (back
      (h (middle a b) (middle_on (at_first b (at_spot a)) (at_last a (at_spot b)))
      (inl (middle_on (subst (λ (z : Point). OnSeg (spot a) b z) (sym k.1) (at_last b (at_spot a)))
      (at_first c (at_spot b))))))
    where
      back : At (middle a b) b ⊎ (At (middle a b) a × (c ≡ a)) → ⊥
      back (inl f) = w (middle_last f)
      back (inr f) = w (middle_first f.0)
  near (d ∷ r) g n P o p (inr k) h =
      let f : At P c = g.0 P p (end_on c d r (inr (subst (At P) (sym k.1) k.0))) in
      absurd (arc_open c d r g.1 n.1.0 (k.1 ∙ at_one k.0 f))

-- the end of a closed curve lies on its last segment only
module _ (l : List Point) (a b : Point) where
  free_is : (c : Point) (r : List Point) → SimpleArc c r → Differ c r
      → ((P : Spot) → OnSeg P a b → On P c r → At P a × (last_of c r ≡ a))
      → (last_of c r ≡ a → (P : Spot) → At P a → Among P l) → free l a b c r ≡ true
  free_is c [] g n h m = refl
  free_is c (d ∷ []) g n h m =
      and_is (ap not (seg_right l a a (λ P o p. let k = h P o (inl p) in (m k.1 P k.0, inl k.0)))) refl
  free_is c (d ∷ e ∷ r) g n h m =
      and_is (ap not (seg_right [] a a (λ P o p. absurd (never P p (h P o (inl p))))))
      (free_is d (e ∷ r) g.1 n.1 (λ P o p. h P o (inr p)) m)
    where
      never : (P : Spot) → OnSeg P c d → At P a × (last_of e r ≡ a) → ⊥
      never P p k =
          let f : At P d = g.0 P p (end_on d e r (inr (subst (At P) (sym k.1) k.0))) in
          arc_open d e r g.1 n.1.0 (k.1 ∙ at_one k.0 f)

  after_is : (r : List Point) → SimpleArc b r → Differ b r → a ≢ b
      → ((P : Spot) → OnSeg P a b → On P b r → At P b ⊎ (At P a × (last_of b r ≡ a)))
      → (last_of b r ≡ a → (P : Spot) → At P a → Among P l) → free_after l a b r ≡ true
  after_is [] g n w h m = refl
  after_is (c ∷ r) g n w h m = and_is (ap not
      (seg_right (b ∷ []) b b (λ P o p. let k = near a b c w r g n P o p (h P o (inl p)) h in (inl k, inl k))))
      (free_is c r g.1 n.1 (λ P o p. far P p (h P o (inr p))) m)
    where
      far : (P : Spot) → On P c r → At P b ⊎ (At P a × (last_of c r ≡ a)) → At P a × (last_of c r ≡ a)
      far P p (inl k) = absurd (n.0 (at_one k (g.0 P (at_first c k) p)))
      far P p (inr k) = k

pub arc_is : (a : Point) (r : List Point) → Differ a r → SimpleArc a r → arc a r ≡ true
arc_is a [] n h = refl
arc_is a (b ∷ r) n h =
    and_is (after_is [] a b r h.1 n.1 n.0 (λ P o p. inl (h.0 P o p))
    (λ e. absurd (arc_open a b r h n.0 e))) (arc_is b r n.1 h.1)

pub simple_is : (a : Point) (r : List Point) → Differ a r → Simple a r → simple a r ≡ true
unfolding simple
simple_is a [] n h = refl
simple_is a (b ∷ r) n h =
    and_is (after_is (may_share (same_point (last_of b r) a) a []) a b r h.1 n.1 n.0 h.0
    (λ e P k. among_first P (same_point (last_of b r) a) a []
    (ap (λ (z : Point). same_point z a) e ∙ same_point_refl a) k)) (arc_is b r n.1 h.1)
