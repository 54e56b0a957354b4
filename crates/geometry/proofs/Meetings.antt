-- What a meeting of two curves means over rational points: a stretch, a crossing, a touch or none, by the segments of
-- each; and that curves meet wrongly exactly if they share a spot that is not an end of both. Assumes nothing.
use mathlib.Core.Path.{◌≡◌, refl, sym, ap, ap₂, ◌∙◌, subst}
use mathlib.Core.Bool.{Bool, true, false, not, false≢true, ◌&&◌}
use mathlib.Core.List.Memᴰ
use mathlib.Core.List.{List, [], ◌∷◌, map, Memᴰ}
use mathlib.Core.Logic.{◌↔◌, ◌⊎◌, inl, inr}
use Prim.Native.Nat.{ℕ, ◌+◌, ◌*◌, ◌<◌, ◌≤◌}
use native.Mathlib.Nat.{mul-le-mul_left, mul-one, mul-add, add-mul}
use native.Mathlib.Decide.{dec_lt}
use native.Mathlib.Omega.{arith}
use Rattle.lists.proofs.Bools.{which, not-true, or-true, or_right, and-true, and_is}
use Rattle.lists.proofs.Members.{any_some, some_any}
use Rattle.plane.specs.declared.Point.{Point}
use Rattle.plane.specs.declared.Contact.{Contact}
use Rattle.plane.specs.declared.Contact.TheVariants.{None, Touch, Crossing, Stretch}
use Rattle.plane.specs.Points.{same_point}
use Rattle.plane.specs.Below.{Segment}
use Rattle.plane.specs.Segments.{meets, stretches, contact, on_segment}
use Rattle.plane.proofs.Laws.{point_path, same_point-true}
use Rattle.curves.specs.Curves.{Curve, last_of, last_point, segments_of, segments}
use Rattle.curves.specs.Tests.{shares, seg_wrong, common_ends, seg_meeting, gravest, meeting, is_met, meet_wrongly}
use Rattle.curves.proofs.Meetings.{Adds, is_grave, is_stretch, is_crossing, met_adds, grave_adds, stretch_adds}
use Rattle.curves.proofs.Meetings.{gravest_any, met_seg, stretch_seg, grave_seg}
use Rattle.curves.proofs.Meetings.{unmet, stretch_only, crossing_only, touch_only}
use Rattle.geometry.specs.Spots.{Spot, spot, At, OnSeg, Among}
use Rattle.geometry.specs.Meaning.{Shared, Means, On, Differ, SimpleArc, Simple, End, IsSeg}
use Rattle.geometry.specs.Drawing.{ClearCurves, MeetCurves, CommonSpot}
use Rattle.geometry.proofs.Segments.{flip, at_first, at_spot, at_one, first_part, last_part, parts}
use Rattle.geometry.proofs.Meeting.{same_point_differ, meets-true, on_segment-true}
use Rattle.geometry.proofs.Contact.{contact_means, contact_is}
use Rattle.geometry.proofs.Stretch.{same_at}
use Rattle.geometry.proofs.Double.{Two, stretch_two}
use Rattle.geometry.proofs.Chains.{end_on}
use Rattle.geometry.proofs.Truth.{ends, unmet_clear}
use Rattle.geometry.proofs.Exact.{shares_is, ends_among, clear_unmet}

-- ---- the segments of a curve

listed : (u v a : Point) (r : List Point) → IsSeg u v a r → Memᴰ (record { from = u; to = v }) (segments_of a r)
listed u v a [] i = absurd i
listed u v a (b ∷ r) (inl e) = Memᴰ.head (ap₂ (λ (x y : Point). record { from = x; to = y }) e.0 e.1)
listed u v a (b ∷ r) (inr i) = Memᴰ.tail (listed u v b r i)

unlisted : (s : Segment) (a : Point) (r : List Point) → Memᴰ s (segments_of a r) → IsSeg s.from s.to a r
unlisted s a [] m = absurd (Memᴰ.not-nil m)
unlisted s a (b ∷ r) m = go (Memᴰ.cases_cons m) (unlisted s b r)
  where
    go : (s ≡ record { from = a; to = b }) ⊎ Memᴰ s (segments_of b r)
        → (Memᴰ s (segments_of b r) → IsSeg s.from s.to b r) → IsSeg s.from s.to a (b ∷ r)
    go (inl e) next = inl (ap (λ (t : Segment). t.from) e, ap (λ (t : Segment). t.to) e)
    go (inr k) next = inr (next k)

seg_on : (P : Spot) (u v a : Point) (r : List Point) → IsSeg u v a r → OnSeg P u v → On P a r
seg_on P u v a [] i o = absurd i
seg_on P u v a (b ∷ r) (inl e) o =
    inl (subst (λ (y : Point). OnSeg P a y) e.1 (subst (λ (x : Point). OnSeg P x v) e.0 o))
seg_on P u v a (b ∷ r) (inr i) o = inr (seg_on P u v b r i o)

-- ---- a test that adds holds of the meeting exactly if it holds of two segments, one of each curve

record Pair (f : Contact → Bool) (c d : Curve) : Type 0 where
  from : Point
  to : Point
  from' : Point
  to' : Point
  one : IsSeg from to c.first c.rest
  other : IsSeg from' to' d.first d.rest
  holds : f (seg_meeting (common_ends c d) from to from' to') ≡ true

module _ (f : Contact → Bool) (adds : Adds f) (c d : Curve) where
  abbrev of : Segment → Segment → Contact
  of s t = seg_meeting (common_ends c d) s.from s.to t.from t.to

  abbrev row : Segment → Contact
  row s = gravest (map (of s) (segments d))

  pair_hit : f (meeting c d) ≡ true → Pair f c d
  unfolding meeting
  pair_hit e =
      let x = any_some (λ s. f (row s)) (segments c) (sym (gravest_any f adds row (segments c)) ∙ e) in
      let s = x.0 in
      let y = any_some (λ t. f (of s t)) (segments d) (sym (gravest_any f adds (of s) (segments d)) ∙ x.2) in
      let t = y.0 in
      record {
        from = s.from;
        to = s.to;
        from' = t.from;
        to' = t.to;
        one = unlisted s c.first c.rest x.1;
        other = unlisted t d.first d.rest y.1;
        holds = y.2;
      }

  pair_is : {k : Contact} (m : MeetCurves k c d) → f (seg_meeting (common_ends c d) m.from m.to m.from' m.to')
      ≡ true → f (meeting c d) ≡ true
  unfolding meeting
  pair_is m e =
      let s : Segment = record { from = m.from; to = m.to } in
      gravest_any f adds row (segments c)
      ∙ some_any (λ s. f (row s)) (segments c) (listed m.from m.to c.first c.rest m.one)
      (gravest_any f adds (of s) (segments d)
      ∙ some_any (λ t. f (of s t)) (segments d) (listed m.from' m.to' d.first d.rest m.other) e)

-- ---- curves that meet wrongly share a spot that is not an end of both

-- the first of k + 1 steps from p to q
step : ℕ → Point → Point → Spot
step k p q = record { x = k * p.x + q.x; y = k * p.y + q.y; d = k + 1; some = omega arith }

step_on : (k : ℕ) (p q : Point) → OnSeg (step k p q) p q
unfolding step
step_on k p q = record { j = k; i = 1; weight = omega arith; x = go p.x q.x; y = go p.y q.y }
  where
    go : (m n : ℕ) → (k + 1) * (k * m + n) ≡ (k + 1) * (k * m + 1 * n)
    go m n = ap (λ (i : ℕ). (k + 1) * (k * m + i)) (omega arith)

-- where the steps are many, it is a whole number of times k + 1 only if m is n
whole : (k m n a : ℕ) → m ≤ k → n ≤ k → k * m + n ≡ (k + 1) * a → m ≡ n
whole k m n a h h' e = go (dec_lt a m) (dec_lt m a)
  where
    f : k * m + n ≡ k * a + a
    f = e ∙ add-mul k 1 a ∙ ap (λ (i : ℕ). k * a + i) (omega arith)

    less : (a b : ℕ) → a < b → k * a + k ≤ k * b
    less a b l =
        let g : k * (a + 1) ≤ k * b = mul-le-mul_left k (omega arith) in
        omega (arith, mul-add k a 1, mul-one k)

    go : Dec (a < m) → Dec (m < a) → m ≡ n
    go (yes l) j = let g = less a m l in absurd (omega arith)
    go (no l) (yes j) = let g = less m a j in absurd (omega arith)
    go (no l) (no j) = let g : a ≡ m = omega arith in omega (arith, ap (λ (i : ℕ). k * i) g)

-- a spot between two points of a segment is on it
part_on : {P : Spot} {a b p q : Point} → OnSeg (spot p) a b → OnSeg (spot q) a b → OnSeg P p q → OnSeg P a b
part_on {P} {a} {b} {p} {q} o r s = go (which (same_point a p)) (which (same_point p b))
  where
    go : (same_point a p ≡ true) ⊎ (same_point a p ≡ false) → (same_point p b ≡ true) ⊎ (same_point p b ≡ false)
        → OnSeg P a b
    go (inl e) k = first_part r (subst (λ (z : Point). OnSeg P z q) (sym (same_point-true a p e)) s)
    go (inr e) (inl k) = last_part r (flip (subst (λ (z : Point). OnSeg P z q) (same_point-true p b k) s))
    go (inr e) (inr k) =
        elim (parts (record {
          on = o;
          not_first = same_point_differ a p e;
          not_last = same_point_differ p b k;
        }) r) [
          | inl i ↦ first_part o (last_part i (flip s))
          | inr i ↦ last_part o (first_part i s)
        ]

-- segments that stretch share a spot that is no point
no_point_lem : {a b c d : Point} → Two a b c d → (P : Spot) × Shared a b c d P × ((e : Point) → At P e → ⊥)
unfolding step
no_point_lem t =
    let p = t.p in
    let q = t.q in
    let k : ℕ = p.x + q.x + (p.y + q.y) in (
      step k p q,
      (part_on t.p_ab t.q_ab (step_on k p q), part_on t.p_cd t.q_cd (step_on k p q)),
      λ e h. t.differ (point_path
          (whole k p.x q.x e.x (omega arith) (omega arith) h.x)
          (whole k p.y q.y e.y (omega arith) (omega arith) h.y)),
    )

-- what two segments share wrongly is no point, or they share no point of the list
wrong_spot : (l : List Point) (p q u v : Point) → seg_wrong l p q u v ≡ true
    → (P : Spot) × Shared p q u v P × (((e : Point) → At P e → ⊥) ⊎ (not (shares l p q u v) ≡ true))
unfolding seg_wrong
wrong_spot l p q u v e =
    let h = and-true (meets p q u v) _ e in
    elim (or-true (stretches p q u v) _ h.1) [
      | inl s ↦ let y = no_point_lem (stretch_two p q u v s) in (y.0, y.1, inl y.2)
      | inr s ↦ let y = meets-true p q u v h.0 in (y.0, (y.1, y.2), inr s)
    ]

pub wrong_shares : (c d : Curve) → meet_wrongly c d ≡ true → CommonSpot c d
wrong_shares c d e =
    let x = pair_hit is_met met_adds c d e in
    let l = common_ends c d in
    let y = wrong_spot l x.from x.to x.from' x.to'
    (sym (met_seg l x.from x.to x.from' x.to') ∙ x.holds) in
    record {
      spot = y.0;
      on_one = seg_on y.0 x.from x.to c.first c.rest x.one y.1.0;
      on_other = seg_on y.0 x.from' x.to' d.first d.rest x.other y.1.1;
      no_end = λ k. elim y.2 [
        | inl n ↦ elim k.0 [ inl m ↦ n c.first m | inr m ↦ n (last_point c) m ]
        | inr n ↦ false≢true
            (sym (ap not (shares_is y.0 l y.1.0 y.1.1 (ends_among y.0 c d k.0 k.1))) ∙ n)
      ];
    }

pub shares_wrong : (c d : Curve) → CommonSpot c d → meet_wrongly c d ≡ true
shares_wrong c d s = elim (which (meet_wrongly c d)) [
  | inl e ↦ e
  | inr e ↦ absurd (s.no_end (unmet_clear c d e s.spot s.on_one s.on_other))
]

-- ---- an end of a simple curve is inner to none of its segments

-- the spot is on the segment u v and no end of it
record Within (P : Spot) (u v : Point) : Type 0 where
  on : OnSeg P u v
  not_first : At P u → ⊥
  not_last : At P v → ⊥

within_is : {P : Spot} {u v a b : Point} → (u ≡ a) × (v ≡ b) → Within P u v → Within P a b
within_is {P} {u} {v} {a} {b} e w =
    subst (λ (y : Point). Within P a y) e.1 (subst (λ (x : Point). Within P x v) e.0 w)

arc_last : (P : Spot) (u v a : Point) (r : List Point) → SimpleArc a r → At P (last_of a r) → IsSeg u v a r
    → Within P u v → ⊥
arc_last P u v a [] g k i w = i
arc_last P u v a (b ∷ []) g k (inl e) w = (within_is e w).not_last k
arc_last P u v a (b ∷ []) g k (inr i) w = i
arc_last P u v a (b ∷ c ∷ r) g k (inl e) w =
    (within_is e w).not_last (g.0 P (within_is e w).on (end_on b c r (inr k)))
arc_last P u v a (b ∷ c ∷ r) g k (inr i) w = arc_last P u v b (c ∷ r) g.1 k i w

simple-end : (P : Spot) (u v a : Point) (r : List Point) → Differ a r → Simple a r → End P a r → IsSeg u v a r
    → Within P u v → ⊥
simple-end P u v a [] n g k i w = i
simple-end P u v a (b ∷ r) n g (inl k) (inl e) w = (within_is e w).not_first k
simple-end P u v a (b ∷ r) n g (inl k) (inr i) w = go (g.0 P (at_first b k) (seg_on P u v b r i w.on))
  where
    go : At P b ⊎ (At P a × (last_of b r ≡ a)) → ⊥
    go (inl j) = n.0 (at_one k j)
    go (inr j) = arc_last P u v b r g.1 (subst (At P) (sym j.1) j.0) i w
simple-end P u v a (b ∷ []) n g (inr k) (inl e) w = (within_is e w).not_last k
simple-end P u v a (b ∷ c ∷ r) n g (inr k) (inl e) w = go (g.0 P (within_is e w).on (end_on b c r (inr k)))
  where
    go : At P b ⊎ (At P a × (last_of c r ≡ a)) → ⊥
    go (inl j) = (within_is e w).not_last j
    go (inr j) = (within_is e w).not_first j.0
simple-end P u v a (b ∷ r) n g (inr k) (inr i) w = arc_last P u v b r g.1 k i w

-- ---- what each answer means

-- a shared point of the list is among the spots
shared_among : (l : List Point) (a b c d : Point) → shares l a b c d ≡ true
    → (q : Point) × Among (spot q) l × OnSeg (spot q) a b × OnSeg (spot q) c d
shared_among [] a b c d e = absurd (false≢true e)
shared_among (q ∷ l) a b c d e = go (or-true (on_segment q a b && on_segment q c d) (shares l a b c d) e)
    (shared_among l a b c d)
  where
    go : (on_segment q a b && on_segment q c d ≡ true) ⊎ (shares l a b c d ≡ true)
        → (shares l a b c d ≡ true → (p : Point) × Among (spot p) l × OnSeg (spot p) a b × OnSeg (spot p) c d)
        → (p : Point) × Among (spot p) (q ∷ l) × OnSeg (spot p) a b × OnSeg (spot p) c d
    go (inl k) next = let h = and-true (on_segment q a b) (on_segment q c d) k in
        (q, inl (at_spot q), on_segment-true q a b h.0, on_segment-true q c d h.1)
    go (inr k) next = let x = next k in (x.0, inr x.1, x.2, x.3)

-- segments of each whose contact is k
meet_is : {f : Contact → Bool} {c d : Curve} (k : Contact) (x : Pair f c d)
    → contact x.from x.to x.from' x.to' ≡ k → MeetCurves k c d
meet_is k x e = record {
  from = x.from;
  to = x.to;
  from' = x.from';
  to' = x.to';
  one = x.one;
  other = x.other;
  means = subst (λ (k : Contact). Means k x.from x.to x.from' x.to') e
      (contact_means x.from x.to x.from' x.to');
}

module _ (c d : Curve) where
  abbrev l : List Point
  l = common_ends c d

  -- a stretch: a segment of each share two different spots
  stretch_hit : is_stretch (meeting c d) ≡ true → MeetCurves Stretch c d
  stretch_hit e =
      let x = pair_hit is_stretch stretch_adds c d e in
      meet_is Stretch x (stretch_only _ (sym (stretch_seg l x.from x.to x.from' x.to') ∙ x.holds))

  stretch_is : MeetCurves Stretch c d → is_stretch (meeting c d) ≡ true
  stretch_is m =
      pair_is is_stretch stretch_adds c d m
      (stretch_seg l m.from m.to m.from' m.to'
      ∙ ap is_stretch (contact_is m.from m.to m.from' m.to' Stretch m.means))

  pub stretch_meeting : (meeting c d ≡ Stretch) ↔ MeetCurves Stretch c d
  stretch_meeting = ((λ e. stretch_hit (ap is_stretch e)), λ m. stretch_only (meeting c d) (stretch_is m))

  still : (MeetCurves Stretch c d → ⊥) → is_stretch (meeting c d) ≡ false
  still n = not-true _ (λ e. n (stretch_hit e))

  -- no crossing is at a common end where the first curve is simple
  module _ (differ : Differ c.first c.rest) (simple : Simple c.first c.rest) where
    apart : (m : MeetCurves Crossing c d) → shares l m.from m.to m.from' m.to' ≡ false
    apart m = not-true _ (λ e.
        let x = shared_among l m.from m.to m.from' m.to' e in
        let s = m.means.0 in
        let i = m.means.1 in
        let at : At s.spot x.0 = same_at (s.only s.spot (spot x.0) s.on (x.2, x.3)) in
        simple-end (spot x.0) m.from m.to c.first c.rest differ simple
        (ends (spot x.0) c d x.1).0 m.one (record {
          on = x.2;
          not_first = λ k. i.not_a (subst (At s.spot) (at_one (at_spot x.0) k) at);
          not_last = λ k. i.not_b (subst (At s.spot) (at_one (at_spot x.0) k) at);
        }))

    grave_hit : is_stretch (meeting c d) ≡ false → is_grave (meeting c d) ≡ true → MeetCurves Crossing c d
    grave_hit n e = go (or-true (is_stretch k) (is_crossing k && not shared)
        (sym (grave_seg l x.from x.to x.from' x.to') ∙ x.holds))
      where
        x : Pair is_grave c d
        x = pair_hit is_grave grave_adds c d e

        k : Contact
        k = contact x.from x.to x.from' x.to'

        shared : Bool
        shared = shares l x.from x.to x.from' x.to'

        crossing : (k : Contact) → is_crossing k ≡ true → k ≡ Crossing
        crossing None e = absurd (false≢true e)
        crossing Touch e = absurd (false≢true e)
        crossing Crossing e = refl
        crossing Stretch e = absurd (false≢true e)

        go : (is_stretch k ≡ true) ⊎ (is_crossing k && not shared ≡ true) → MeetCurves Crossing c d
        go (inl h) = absurd (false≢true (sym n ∙ stretch_is (meet_is Stretch x (stretch_only k h))))
        go (inr h) = meet_is Crossing x (crossing k (and-true (is_crossing k) (not shared) h).0)

    grave_is : MeetCurves Crossing c d → is_grave (meeting c d) ≡ true
    grave_is m =
        let is = contact_is m.from m.to m.from' m.to' Crossing m.means in
        pair_is is_grave grave_adds c d m
        (grave_seg l m.from m.to m.from' m.to'
        ∙ or_right (is_stretch (contact m.from m.to m.from' m.to')) _
        (and_is (ap is_crossing is) (ap not (apart m))))

    -- a crossing: no stretch, and a segment of each share one spot, inner to both
    pub crossing-meeting : (meeting c d ≡ Crossing) ↔ ((MeetCurves Stretch c d → ⊥) × MeetCurves Crossing c d)
    crossing-meeting = (
      (λ e. (
        (λ m. false≢true (sym (ap is_stretch e) ∙ stretch_is m)),
        grave_hit (ap is_stretch e) (ap is_grave e),
      )),
      λ h. crossing_only (meeting c d) (still h.0) (grave_is h.1),
    )

    -- a touch: neither, and they share a spot that is no common end
    pub touch_meeting : (meeting c d ≡ Touch)
        ↔ ((MeetCurves Stretch c d → ⊥) × (MeetCurves Crossing c d → ⊥) × CommonSpot c d)
    touch_meeting = (
      (λ e. (
        (λ m. false≢true (sym (ap is_stretch e) ∙ stretch_is m)),
        (λ m. false≢true (sym (ap is_grave e) ∙ grave_is m)),
        wrong_shares c d (ap is_met e),
      )),
      λ h. touch_only (meeting c d) (not-true _ (λ e. h.1 (grave_hit (still h.0) e))) (shares_wrong c d h.2),
    )

  -- no meeting: the curves share no spot but common ends
  pub none_meeting : (meeting c d ≡ None) ↔ ClearCurves c d
  none_meeting = (
    (λ e. unmet_clear c d (ap is_met e)),
    λ k. unmet (meeting c d) (clear_unmet c d k),
  )
