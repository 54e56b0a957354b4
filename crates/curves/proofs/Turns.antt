-- The tests of curves over the points of a run that are left from point i on: a turn of the loop is `-hit` or `-miss`,
-- and the loop's end is `-end`. Assumes nothing.
use Rattle.std.specs.Prelude.{Some}
use mathlib.Core.Path.{◌≡◌, refl, sym, ap, ap₂, ◌∙◌}
use mathlib.Core.Bool.{Bool, true, false, not, ◌&&◌, ◌||◌, beq}
use mathlib.Core.List.{List, [], ◌∷◌, map}
use Prim.Native.Nat.{ℕ, ◌+◌, ◌/◌, ◌≤◌, ◌<◌}
use native.Mathlib.Omega.{arith}
use lib.Dec.{eqb}
use lib.IntN.{ℤ}
use lib.ListN.{length}
use borrow.Author.Tests.{eqb-true, eqb-false}
use Rattle.lists.specs.Tests.{◌⊕◌}
use Rattle.lists.specs.Scans.{odd_count}
use Rattle.lists.specs.Tables.{place}
use Rattle.lists.proofs.Bools.{eq2, eq3, ⊕-false}
use Rattle.plane.specs.declared.Point.{Point}
use Rattle.plane.specs.declared.Contact.{Contact}
use Rattle.plane.specs.Points.{InRange, same_point}
use Rattle.plane.specs.Segments.{on_segment}
use Rattle.plane.specs.Below.{Segment, passes_below}
use Rattle.curves.specs.Curves.{Curve, Run, point_at, points_from, segments_of, curve_of, last_point}
use Rattle.curves.specs.Tests.{differs, shares, seg_wrong, may_share, graver, gravest}
use Rattle.curves.specs.declared.End.{End}
use Rattle.curves.specs.declared.End.TheVariants.{Common, Own}
use Rattle.curves.specs.Shares.{point_of, end_of, listed, shareable, marked_ends}
use Rattle.curves.specs.Tests.{common_ends, lastly, free, free_after, arc, simple, is_simple}
use Rattle.curves.proofs.Meetings.{graver_none, graver_assoc}
use Rattle.curves.proofs.Runs.{two-points, from_step, from_end, curve_is, last_is}

-- what a test of two points answered, of the points that they are
pub asked : (t : Point → Point → Bool) {p q a b : Point} {r v : Bool} → p ≡ a → q ≡ b → r ≡ t p q → r ≡ v → t a b ≡ v
asked t e f g h = sym (ap₂ t e f) ∙ sym g ∙ h

pub asked₃ : (t : Point → Point → Point → Bool) {p q s a b c : Point} {r v : Bool} → p ≡ a → q ≡ b → s ≡ c → r
    ≡ t p q s → r ≡ v → t a b c ≡ v
asked₃ t e f k g h = sym (λ i. t (e i) (f i) (k i)) ∙ sym g ∙ h

-- p lies on the segment
abbrev pub on : Point → Segment → Bool
on p s = on_segment p s.from s.to

-- the segments from point i on
abbrev pub segments_from : List ℤ → ℕ → List Segment
segments_from l i = segments_of (point_at l i) (points_from l (i + 1))

-- segment i of n
module _ (l : List ℤ) (i : ℕ) {n : ℕ} (all : n + 1 ≡ length l / 2) (taken : i < n) where
  within : i + 1 < length l / 2
  within = omega arith

  pub differs_hit : same_point (point_at l i) (point_at l (i + 1)) ≡ true → differs (point_at l i) (points_from l (i + 1))
      ≡ false
  differs_hit e = rw (from_step l (i + 1) within, e)

  pub differs_miss : same_point (point_at l i) (point_at l (i + 1)) ≡ false
      → differs (point_at l i) (points_from l (i + 1)) ≡ differs (point_at l (i + 1)) (points_from l (i + 1 + 1))
  differs_miss e = rw (from_step l (i + 1) within, e)

  pub segments_step : segments_from l i ≡ record { from = point_at l i; to = point_at l (i + 1) } ∷ segments_from l (i + 1)
  segments_step = rw (from_step l (i + 1) within)

  module _ (p : Point) where
    pub place_hit : on_segment p (point_at l i) (point_at l (i + 1)) ≡ true → place (on p) i (segments_from l i) ≡ Some i
    place_hit e = rw (segments_step, e)

    pub place_miss : on_segment p (point_at l i) (point_at l (i + 1)) ≡ false
        → place (on p) i (segments_from l i) ≡ place (on p) (i + 1) (segments_from l (i + 1))
    place_miss e = rw (segments_step, e)

  module _ (k : List Point) (a b : Point) where
    pub free_hit : seg_wrong (lastly k (points_from l (i + 1 + 1))) a b (point_at l i) (point_at l (i + 1)) ≡ true
        → free k a b (point_at l i) (points_from l (i + 1)) ≡ false
    free_hit e = rw (from_step l (i + 1) within, e)

    pub free_miss : seg_wrong (lastly k (points_from l (i + 1 + 1))) a b (point_at l i) (point_at l (i + 1)) ≡ false
        → free k a b (point_at l i) (points_from l (i + 1)) ≡ free k a b (point_at l (i + 1)) (points_from l (i + 1 + 1))
    free_miss e = rw (from_step l (i + 1) within, e)

  pub arc_hit : free_after [] (point_at l i) (point_at l (i + 1)) (points_from l (i + 2)) ≡ false
      → arc (point_at l i) (points_from l (i + 1)) ≡ false
  arc_hit e = let f : i + 1 + 1 ≡ i + 2 = omega arith in rw (from_step l (i + 1) within, f, e)

  pub arc_miss : free_after [] (point_at l i) (point_at l (i + 1)) (points_from l (i + 2)) ≡ true
      → arc (point_at l i) (points_from l (i + 1)) ≡ arc (point_at l (i + 1)) (points_from l (i + 1 + 1))
  arc_miss e = let f : i + 2 ≡ i + 1 + 1 = omega arith in rw (from_step l (i + 1) within, rw f at e)

  -- one segment more that may meet
  pub meeting_again : (f : Segment → Contact) (found : Contact) {a b : Point} {r whole : Contact} → a ≡ point_at l i
      → b ≡ point_at l (i + 1) → r ≡ graver found (f (record { from = a; to = b }))
      → graver found (gravest (map f (segments_from l i))) ≡ whole
      → graver r (gravest (map f (segments_from l (i + 1)))) ≡ whole
  meeting_again f found ea eb er inv =
      rw (er, ea, eb) (graver_assoc found _ (gravest (map f (segments_from l (i + 1)))) ∙ rw segments_step at inv)

  -- one segment more that may pass below p
  pub odd_again : (p : Point) (o r : Bool) {a b : Point} {t : Bool} → a ≡ point_at l i → b ≡ point_at l (i + 1)
      → r ≡ passes_below p (record { from = a; to = b }) → o ⊕ odd_count (segments_from l i) (passes_below p) ≡ t
      → not (beq o r) ⊕ odd_count (segments_from l (i + 1)) (passes_below p) ≡ t
  odd_again p o r ea eb e inv =
      rw (e, ea, eb) (eq3 (λ a b c. not (beq a b) ⊕ c) (λ a b c. a ⊕ (b ⊕ c)) tt o _
      (odd_count (segments_from l (i + 1)) (passes_below p)) ∙ rw segments_step at inv)

-- after the last segment
module _ (l : List ℤ) (i : ℕ) {n : ℕ} (all : n + 1 ≡ length l / 2) (left : n ≤ i) where
  past : length l / 2 ≤ i + 1
  past = omega arith

  pub differs-end : differs (point_at l i) (points_from l (i + 1)) ≡ true
  differs-end = rw (from_end l (i + 1) past)

  pub segments-end : segments_from l i ≡ []
  segments-end = rw (from_end l (i + 1) past)

  pub odd-end : (p : Point) (o : Bool) → o ⊕ odd_count (segments_from l i) (passes_below p) ≡ o
  odd-end p o = rw segments-end (⊕-false o)

  pub meeting-end : (f : Segment → Contact) (found : Contact) → graver found (gravest (map f (segments_from l i)))
      ≡ found
  meeting-end f found = rw segments-end (graver_none found)

  pub free-end : (k : List Point) (a b : Point) → free k a b (point_at l i) (points_from l (i + 1)) ≡ true
  free-end k a b = rw (from_end l (i + 1) past)

  pub arc-end : arc (point_at l i) (points_from l (i + 1)) ≡ true
  arc-end = rw (from_end l (i + 1) past)

-- the points that two segments may share, as lists
pub listed_is : (m : Bool) (p : Point) (l : List Point) → listed (end_of m p) l ≡ may_share m p l
listed_is true p l = refl
listed_is false p l = refl

pub shareable_ends : (c d : Curve) → shareable (marked_ends c d) ≡ common_ends c d
shareable_ends c d = rw (
  listed_is (same_point c.first d.first || same_point c.first (last_point d)),
  listed_is (same_point (last_point c) d.first || same_point (last_point c) (last_point d)),
)

pub end_in_range : {e : End} (m : Bool) (p : Point) → e ≡ end_of m p → InRange p → InRange (point_of e)
end_in_range true p e h = rw e h
end_in_range false p e h = rw e h

-- the ends of one run, each with whether it is an end of the other
pub common_ends_are : {l k : List ℤ} (n m : ℕ) {a z b y : Point} {s t : Bool} {f g : End} → Run l → Run k
    → n + 1 ≡ length l / 2 → m + 1 ≡ length k / 2
    → a ≡ point_at l 0 → z ≡ point_at l n → b ≡ point_at k 0 → y ≡ point_at k m
    → s ≡ same_point a b || same_point a y → t ≡ same_point z b || same_point z y
    → f ≡ end_of s a → g ≡ end_of t z
    → record { first = f; last = g } ≡ marked_ends (curve_of l) (curve_of k)
common_ends_are {l} {k} n m run run' en em ea ez eb ey es et ef eg =
    rw (curve_is run, curve_is run', last_is l n en, last_is k m em, ef, eg, es, et, ea, ez, eb, ey)

-- the first segment of a run, and the others
pub simple_is : {l : List ℤ} (n : ℕ) → Run l → n + 1 ≡ length l / 2
    → is_simple (curve_of l) ≡ free_after (may_share (same_point (point_at l n) (point_at l 0)) (point_at l 0) []) (point_at l 0)
    (point_at l 1) (points_from l 2) && arc (point_at l 1) (points_from l 2)
unfolding simple
simple_is {l} n run e =
    let f = from_step l 1 (two-points run) in
    rw (curve_is run, ← last_is l n e, f)

-- a point of either lies on both segments
pub shares_is : (p q : End) (a b c d : Point)
    → shares (listed p (listed q [])) a b c d ≡ shares (listed p []) a b c d || shares (listed q []) a b c d
shares_is (Own p) q a b c d = refl
shares_is (Common p) q a b c d =
    sym (eq2 (λ s t. (s || false) || t) (λ s t. s || t) tt (on_segment p a b && on_segment p c d)
    (shares (listed q []) a b c d))

-- the first point may be shared with the last segment alone
pub share_last : (l : List ℤ) (m : Bool) (p : Point) (i n : ℕ) → n + 1 ≡ length l / 2 → i + 1 ≤ n
    → may_share (m && eqb (i + 1) n) p [] ≡ lastly (may_share m p []) (points_from l (i + 1 + 1))
share_last l m p i n e h = go (eqb (i + 1) n) refl
  where
    go : (t : Bool) → eqb (i + 1) n ≡ t → may_share (m && t) p [] ≡ lastly (may_share m p []) (points_from l (i + 1 + 1))
    go true q = let k : i + 1 ≡ n = eqb-true (i + 1) n q in rw (from_end l (i + 1 + 1) (omega arith)) (full m)
      where
        full : (m : Bool) → may_share (m && true) p [] ≡ may_share m p []
        full true = refl
        full false = refl
    go false q =
        let k : (i + 1 ≡ n) → ⊥ = eqb-false (i + 1) n q in
        rw (from_step l (i + 1 + 1) (omega arith)) (none m)
      where
        none : (m : Bool) → may_share (m && false) p [] ≡ []
        none true = refl
        none false = refl

-- what the test of segment i answered, where o is p as an end
pub free_told : (l : List ℤ) (i n : ℕ) (m : Bool) (p a b : Point) {q r : Point} {s t v : Bool} {o : End}
    → n + 1 ≡ length l / 2 → i < n → q ≡ point_at l i → r ≡ point_at l (i + 1)
    → s ≡ (m && eqb (i + 1) n) → o ≡ end_of s p → t ≡ seg_wrong (listed o []) a b q r → t ≡ v
    → seg_wrong (lastly (may_share m p []) (points_from l (i + 1 + 1))) a b (point_at l i) (point_at l (i + 1)) ≡ v
free_told l i n m p a b all taken eq er es eo et ev =
    sym (ap (λ (k : List Point). seg_wrong k a b (point_at l i) (point_at l (i + 1)))
    (rw (eo, es, listed_is (m && eqb (i + 1) n) p []) (share_last l m p i n all (omega arith))))
    ∙ asked (seg_wrong _ a b) eq er et ev

-- segment i has a next one
module _ (l : List ℤ) (i : ℕ) (h : i + 2 < length l / 2) (k : List Point) (a b : Point) where
  after_step : free_after k a b (points_from l (i + 2)) ≡ not (seg_wrong (b ∷ []) a b b (point_at l (i + 2)))
      && free k a b (point_at l (i + 2)) (points_from l (i + 3))
  after_step = let e : i + 2 + 1 ≡ i + 3 = omega arith in rw (from_step l (i + 2) h, e)

  pub after_hit : seg_wrong (b ∷ []) a b b (point_at l (i + 2)) ≡ true → free_after k a b (points_from l (i + 2)) ≡ false
  after_hit e = rw (after_step, e)

  pub after_miss : seg_wrong (b ∷ []) a b b (point_at l (i + 2)) ≡ false
      → free_after k a b (points_from l (i + 2)) ≡ free k a b (point_at l (i + 2)) (points_from l (i + 3))
  after_miss e = rw (after_step, e)

pub after-end : (l : List ℤ) (i : ℕ) (k : List Point) (a b : Point) → length l / 2 ≤ i + 2
    → free_after k a b (points_from l (i + 2)) ≡ true
after-end l i k a b h = rw (from_end l (i + 2) h)

-- what the test of the first segment answered
pub first_told : {l : List ℤ} (n : ℕ) {p q : Point} {m t v : Bool} → Run l → n + 1 ≡ length l / 2 → p ≡ point_at l n → q
    ≡ point_at l 0 → m ≡ same_point p q
    → t ≡ free_after (may_share m (point_at l 0) []) (point_at l 0) (point_at l 1) (points_from l 2) → t ≡ v
    → is_simple (curve_of l) ≡ v && arc (point_at l 1) (points_from l 2)
first_told {l} n run all ep eq em et ev =
    simple_is n run all
    ∙ ap (λ (m : Bool). free_after (may_share m (point_at l 0) []) (point_at l 0) (point_at l 1) (points_from l 2)
    && arc (point_at l 1) (points_from l 2)) (asked same_point ep eq em refl)
    ∙ ap (λ (t : Bool). t && arc (point_at l 1) (points_from l 2)) (sym et ∙ ev)
