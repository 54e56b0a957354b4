-- The theorems of this crate, each in one line from the other files. A spot is a rational point; what stands right of
-- `↔` is defined in specs/. What every edit keeps on the list of all curves is `Edits`; which way two curves meet is
-- `Meetings`. Assumes nothing.
use mathlib.Core.Path.{◌≡◌, sym, ap, ◌∙◌, subst}
use mathlib.Core.Bool.{Bool, true, false}
use mathlib.Core.List.{[]}
use mathlib.Core.Logic.{◌↔◌, ◌⊎◌, inl, inr, ◌≢◌}
use Prim.Native.Nat.{ℕ, zero, suc, ◌+◌}
use lib.ListN.{length}
use Rattle.plane.specs.declared.Point.{Point}
use Rattle.plane.specs.declared.Contact.{Contact}
use Rattle.plane.specs.declared.Contact.TheVariants.{None, Touch, Crossing, Stretch}
use Rattle.plane.specs.Points.{same_point}
use Rattle.plane.specs.Segments.{meets, on_segment, straight_between, contact}
use Rattle.plane.specs.Directions.{way_to, same_way}
use Rattle.plane.proofs.Laws.{same_point-true}
use Rattle.curves.specs.Curves.{Curve, last_of, before_last, last_point, start_way, end_way}
use Rattle.curves.specs.Tests.{neighbours_differ, straight_inside, on_curve, is_simple, meet_wrongly}
use Rattle.curves.specs.Edits.{cut, join, front, back, joined, reversed, course}
use Rattle.geometry.specs.Spots.{Spot, spot, At, OnSeg, Between, SameWay}
use Rattle.geometry.specs.Meaning.{Shared, Single, Inner, Double, Means, Some, On, OnNth, point_of, Differ, Simple}
use Rattle.geometry.specs.Drawing.{OnCurve, GoodCurve, ClearCurves}
use Rattle.geometry.proofs.Meeting.{same_point_refl, meets-true, meets-spot, on_segment-true, on_segment_is}
use Rattle.geometry.proofs.Meeting.{straight_between-true, straight_between_is, differs_true, differs_is}
use Rattle.geometry.proofs.Meeting.{passes-true, passes_is}
use Rattle.geometry.proofs.Contact.{contact_means, contact_is}
use Rattle.geometry.proofs.Chains.{simple-arc}
use Rattle.geometry.proofs.Truth.{unmet_clear, simple-true}
use Rattle.geometry.proofs.Exact.{clear_unmet, simple_is}
use Rattle.geometry.proofs.Nth.{nth_on, on_nth, simple_pair}
use Rattle.geometry.proofs.Turning.{last_turned, turned_twice, on_turned, on_turned', second_turned}
use Rattle.geometry.proofs.Turning.{before-turned, length-turned}
use Rattle.geometry.proofs.Undo.{join-cut, cut-join}
use Rattle.geometry.proofs.Ways.{same_way-true, same_way_is, curves_differ, ends_differ_lem}
use Rattle.geometry.proofs.Drawing.{Split, split, Healed, heal, good_course, clear-course, clear_sym}

-- ---- points and segments

pub same_point_iff : (p q : Point) → (same_point p q ≡ true) ↔ (p ≡ q)
same_point_iff p q = (same_point-true p q, λ e. ap (same_point p) (sym e) ∙ same_point_refl p)

pub on_segment_iff : (p a b : Point) → (on_segment p a b ≡ true) ↔ OnSeg (spot p) a b
on_segment_iff p a b = (on_segment-true p a b, on_segment_is)

pub straight_between_iff : (a m b : Point) → (straight_between a m b ≡ true) ↔ Between a m b
straight_between_iff a m b = (straight_between-true a m b, straight_between_is)

pub same_way_iff : (a b c d : Point) → a ≢ b → (same_way (way_to a b) (way_to c d) ≡ true) ↔ SameWay a b c d
same_way_iff a b c d n = (same_way-true a b c d n, same_way_is)

module _ (a b c d : Point) where
  pub meets_iff : (meets a b c d ≡ true) ↔ ((P : Spot) × Shared a b c d P)
  meets_iff = ((λ e. let h = meets-true a b c d e in (h.0, (h.1, h.2))), λ s. meets-spot s.1.0 s.1.1)

  contact_iff : (k : Contact) → (contact a b c d ≡ k) ↔ Means k a b c d
  contact_iff k = ((λ e. subst (λ (k : Contact). Means k a b c d) e (contact_means a b c d)), contact_is a b c d k)

  -- no shared point
  pub none_iff : (contact a b c d ≡ None) ↔ ((P : Spot) → Shared a b c d P → ⊥)
  none_iff = contact_iff None

  -- one shared point, an end of one of them
  pub touch_iff : (contact a b c d ≡ Touch) ↔
      ((s : Single a b c d) × (At s.spot a ⊎ At s.spot b ⊎ At s.spot c ⊎ At s.spot d))
  touch_iff = contact_iff Touch

  -- one shared point, inner to both
  pub crossing_iff : (contact a b c d ≡ Crossing) ↔ ((s : Single a b c d) × Inner a b c d s.spot)
  crossing_iff = contact_iff Crossing

  -- two different shared points
  pub stretch_iff : (contact a b c d ≡ Stretch) ↔ Double a b c d
  stretch_iff = contact_iff Stretch

-- ---- curves

pub on_curve_iff : (c : Curve) (p : Point) → (on_curve c p ≡ true) ↔ OnCurve (spot p) c
on_curve_iff c p = (passes-true p c.first c.rest, passes_is p c.first c.rest)

pub neighbours_differ_iff : (c : Curve) → (neighbours_differ c ≡ true) ↔ Differ c.first c.rest
neighbours_differ_iff c = (differs_true c.first c.rest, differs_is c.first c.rest)

-- the curves share no point but common ends
pub meet_wrongly_iff : (c d : Curve) → (meet_wrongly c d ≡ false) ↔ ClearCurves c d
meet_wrongly_iff c d = (unmet_clear c d, clear_unmet c d)

pub is_simple_iff : (c : Curve) → neighbours_differ c ≡ true → (is_simple c ≡ true) ↔ Simple c.first c.rest
is_simple_iff c n = (simple-true c.first c.rest, simple_is c.first c.rest ((neighbours_differ_iff c).0 n))

pub good_iff : (c : Curve) → GoodCurve c ↔ (Some c.rest × (neighbours_differ c ≡ true) × (is_simple c ≡ true))
good_iff c = (
  (λ g. let n = (neighbours_differ_iff c).1 g.differ in (g.some, n, (is_simple_iff c n).1 g.simple)),
  λ h. record { some = h.0; differ = (neighbours_differ_iff c).0 h.1; simple = (is_simple_iff c h.1).0 h.2 },
)

-- a spot of the curve lies on one of its segments, counted from 0
pub on_nth_iff : (c : Curve) (P : Spot) → OnCurve P c ↔ ((i : ℕ) × OnNth P c.first c.rest i)
on_nth_iff c P = (on_nth P c.first c.rest, λ h. nth_on P c.first c.rest h.0 h.1)

-- segments i and i + 1 + k of a simple curve share a point: they are neighbours and it is their common point, or they
-- are the first and the last of a closed curve and it is its end
pub simple-segments : (c : Curve) → GoodCurve c → (P : Spot) (i k : ℕ) → OnNth P c.first c.rest i
    → OnNth P c.first c.rest (suc (i + k))
    → ((k ≡ zero) × At P (point_of c.first c.rest (suc i)))
    ⊎ ((i ≡ zero) × (suc (suc k) ≡ length c.rest) × (last_point c ≡ c.first) × At P c.first)
simple-segments c g P i k = simple_pair P c.first c.rest i k g.simple g.differ

-- ---- the cut at a point m of the curve that is no end of it

module _ (m : Point) (c : Curve) (n : c.first ≢ m) (l : last_point c ≢ m) (o : OnCurve (spot m) c) where
  module _ (g : GoodCurve c) where
    parts : Split m c []
    parts = split m c [] n l o (record { good = g; clear = tt; drawn = record { good = tt; clear = tt } })

    pub cut_good : GoodCurve (front m c) × GoodCurve (back m c)
    cut_good = (parts.front_good, parts.back_good)

    pub cut-clear : ClearCurves (front m c) (back m c)
    cut-clear = clear_sym (back m c) (front m c) parts.halves

    pub cut_ends : (last_point (front m c) ≡ m) × (last_point (back m c) ≡ last_point c)
    cut_ends = (parts.cloven.joint, parts.cloven.last)

    pub cut-points : (P : Spot) → OnCurve P c ↔ (OnCurve P (front m c) ⊎ OnCurve P (back m c))
    cut-points P = (
      parts.cloven.on_either P,
      λ k. elim k [ inl p ↦ parts.cloven.on_front P p | inr p ↦ parts.cloven.on_back P p ],
    )

    -- no point more where m is a point of the list, and else one
    pub cut_count : (length (front m c).rest + length (back m c).rest ≡ length c.rest)
        ⊎ (length (front m c).rest + length (back m c).rest ≡ suc (length c.rest))
    cut_count = parts.cloven.count

    pub cut_ways : (same_way (start_way c) (start_way (front m c)) ≡ true)
        × (same_way (end_way c) (end_way (back m c)) ≡ true)
    cut_ways = (same_way_is parts.cloven.start, same_way_is parts.cloven.finish)

  -- healing undoes splitting
  pub heal-split : straight_inside c ≡ false → joined (front m c) (back m c) ≡ c
  heal-split w = λ t. record { first = c.first; rest = join-cut m c.first c.rest n l o w t }

-- ---- the join of two curves that share common ends only, at a common end that is not the far end of either

module _ (c d : Curve) (joint : d.first ≡ last_point c) (open_c : last_point c ≢ c.first) (g : GoodCurve c)
    (g' : GoodCurve d) where
  module _ (open_d : last_point d ≢ d.first) (k : ClearCurves c d) where
    healed : Healed c d []
    healed = heal c d [] joint open_c open_d g g' k tt tt tt

    pub join_good : GoodCurve (joined c d)
    join_good = healed.good

    pub join_last : last_point (joined c d) ≡ last_point d
    join_last = healed.is.last ∙ ap (λ (z : Point). last_of z d.rest) (sym joint)

    pub join-points : (P : Spot) → OnCurve P (joined c d) ↔ (OnCurve P c ⊎ OnCurve P d)
    join-points P = subst (λ (z : Point). OnCurve P (joined c d) ↔ (OnCurve P c ⊎ On P z d.rest)) (sym joint)
        (healed.is.on_either P, λ k. elim k [ inl p ↦ healed.is.on_first P p | inr p ↦ healed.is.on_second P p ])

    pub join_count : (length (joined c d).rest ≡ length c.rest + length d.rest)
        ⊎ (suc (length (joined c d).rest) ≡ length c.rest + length d.rest)
    join_count = healed.is.count

    pub join_ways : (same_way (start_way c) (start_way (joined c d)) ≡ true)
        × (same_way (end_way d) (end_way (joined c d)) ≡ true)
    join_ways = (
      same_way_is healed.is.start,
      same_way_is (subst (λ (z : Point). SameWay (last_of z d.rest) (before_last z d.rest) (last_point (joined c d))
          (before_last c.first (joined c d).rest)) (sym joint) healed.is.finish),
    )

  -- splitting undoes healing
  pub split-heal : (front (last_point c) (joined c d) ≡ c) × (back (last_point c) (joined c d) ≡ d)
  split-heal = (
    (λ t. record { first = c.first; rest = (halves t).front }),
    (λ t. record { first = sym joint t; rest = (halves t).back }),
  )
    where
      halves : cut (last_point c) c.first (join c.first c.rest d.rest)
          ≡ record { front = c.rest; back = d.rest }
      halves = cut-join c.first c.rest d.rest g.some g'.some
          (simple-arc c.first c.rest open_c g.simple) g.differ
          (subst (λ (z : Point). Differ z d.rest) joint g'.differ)

-- ---- the reverse

pub reverse_good : (c : Curve) → GoodCurve c → GoodCurve (reversed c)
reverse_good c = good_course true c

pub reverse-points : (c : Curve) (P : Spot) → OnCurve P (reversed c) ↔ OnCurve P c
reverse-points c P = (on_turned' P c.first c.rest, on_turned P c.first c.rest)

pub reverse_twice : (c : Curve) → reversed (reversed c) ≡ c
reverse_twice c = λ t. record { first = last_turned c.first c.rest t; rest = turned_twice c.first c.rest t }

pub reverse_ways : (c : Curve) → GoodCurve c → (start_way (reversed c) ≡ end_way c) × (end_way (reversed c) ≡ start_way c)
reverse_ways c g = (
  ap (way_to (last_point c)) (second_turned c.first c.rest g.some),
  (λ t. way_to (last_turned c.first c.rest t) (before-turned c.first c.rest g.some t)),
)

pub reverse_count : (c : Curve) → length (reversed c).rest ≡ length c.rest
reverse_count c = length-turned c.first c.rest

-- ---- departures

-- curves that share common ends only leave a common end in different directions; s and t say which curve is taken the
-- other way round
pub departures_differ_lem : (s t : Bool) (c d : Curve) → GoodCurve c → GoodCurve d → ClearCurves c d → (course s c).first
    ≡ (course t d).first
    → same_way (start_way (course s c)) (start_way (course t d)) ≡ false
departures_differ_lem s t c d g g' h = curves_differ (course s c) (course t d) (good_course s c g) (good_course t d g')
    (clear-course s c (course t d) (clear_sym (course t d) c (clear-course t d c (clear_sym c d h))))

-- so do the two ends of a closed curve
pub closed_differ : (c : Curve) → GoodCurve c → last_point c ≡ c.first → same_way (start_way c) (end_way c) ≡ false
closed_differ = ends_differ_lem
