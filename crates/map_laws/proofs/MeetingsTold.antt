-- How a curve meets other edges, and what the answer to it says of that, over rational points (specs/Claims.antt).
-- Assumes nothing.
use mathlib.Core.Path.{◌≡◌, refl, sym, ap, ◌∙◌}
use mathlib.Core.Bool.{Bool, true, false, cond, true≢false, false≢true, ◌&&◌, ◌||◌}
use mathlib.Core.List.{List, [], ◌∷◌, ◌++◌, Memᴰ, append-nil}
use mathlib.Core.Logic.{◌↔◌, inl, inr}
use Prim.Native.Nat.{ℕ}
use borrow.Author.Tests.{not-false, le-leb}
use lib.Dec.{leb}
use lib.IntN.{ℤ, nat_abs}
use Rattle.lists.specs.Tests.{same}
use Rattle.lists.specs.Scans.{any_of}
use Rattle.lists.specs.Members.{All}
use Rattle.lists.proofs.Bools.{which, or-false, or_left, or_right, and_is, not-true}
use Rattle.lists.proofs.Members.{any_some, some_any, none_has}
use Rattle.plane.specs.declared.Contact.{Contact}
use Rattle.plane.specs.declared.Contact.TheVariants.{None, Touch, Crossing, Stretch}
use Rattle.curves.specs.Curves.{Curve, curve_of}
use Rattle.curves.specs.Tests.{neighbours_differ, is_simple, meeting, is_met}
use Rattle.curves.proofs.Meetings.{Adds, is_grave, is_stretch, met_adds, grave_adds, stretch_adds, gravest_any}
use Rattle.curves.proofs.Meetings.{unmet, stretch_only, crossing_only, touch_only}
use Rattle.geometry.specs.Meaning.{Differ, Simple}
use Rattle.geometry.specs.Drawing.{MeetCurves}
use Rattle.geometry.proofs.Theorems.{neighbours_differ_iff, is_simple_iff, meet_wrongly_iff}
use Rattle.geometry.proofs.Meetings.{stretch_meeting, crossing-meeting, wrong_shares, shares_wrong}
use Rattle.geometry.proofs.Thinning.{surplus_differ}
use Rattle.map.specs.Rows.{Map, Edge, without_edge}
use Rattle.map.specs.Reasons.{Reasons, first_reason, reasons, edge_meeting, contact_reason, curve_reasons, meeting_reasons}
use Rattle.map.specs.Reasons.{node_inside, sent_reasons, curve_in}
use Rattle.map.proofs.Reasons.{first_hit, first_miss}
use Rattle.map_laws.specs.Claims.{MeetsOne, SharesOne, Crosses, Touches, AllClear, MeetingMeans}
use Rattle.map_laws.specs.Claims.{MeetingsMean, Told, MeetingsTold}

-- ---- how a curve meets several edges

module _ (es : List Edge) (c : Curve) where
  abbrev by : Edge → Contact
  by e = meeting c e.curve

  -- a test that adds holds of the meeting with all exactly if it holds of the meeting with one
  module _ (f : Contact → Bool) (adds : Adds f) where
    all_any : f (edge_meeting es c) ≡ any_of (λ e. f (by e)) es
    unfolding edge_meeting
    all_any = gravest_any f adds by es

    one_hit : f (edge_meeting es c) ≡ true → (e : Edge) × Memᴰ e es × (f (by e) ≡ true)
    one_hit h = any_some (λ e. f (by e)) es (sym all_any ∙ h)

    one_is : {e : Edge} → Memᴰ e es → f (by e) ≡ true → f (edge_meeting es c) ≡ true
    one_is k h = all_any ∙ some_any (λ e. f (by e)) es k h

    each_miss : f (edge_meeting es c) ≡ false → (e : Edge) → Memᴰ e es → f (by e) ≡ false
    each_miss h = none_has (λ e. f (by e)) es (sym all_any ∙ h)

  stretch_hit : is_stretch (edge_meeting es c) ≡ true → MeetsOne Stretch c es
  stretch_hit h = let x = one_hit is_stretch stretch_adds h in
      record { edge = x.0; among = x.1; meet = (stretch_meeting c x.0.curve).0 (stretch_only (by x.0) x.2) }

  stretch_is : MeetsOne Stretch c es → is_stretch (edge_meeting es c) ≡ true
  stretch_is m = let k = (stretch_meeting c m.edge.curve).1 m.meet in
      one_is is_stretch stretch_adds m.among (ap is_stretch k)

  still : (MeetsOne Stretch c es → ⊥) → is_stretch (edge_meeting es c) ≡ false
  still n = not-true (is_stretch (edge_meeting es c)) (λ h. n (stretch_hit h))

  spot_hit : is_met (edge_meeting es c) ≡ true → SharesOne c es
  spot_hit h = let x = one_hit is_met met_adds h in
      record { edge = x.0; among = x.1; spot = wrong_shares c x.0.curve x.2 }

  spot_is : SharesOne c es → is_met (edge_meeting es c) ≡ true
  spot_is m = one_is is_met met_adds m.among (shares_wrong c m.edge.curve m.spot)

  -- a stretch with one
  edges_stretch : (edge_meeting es c ≡ Stretch) ↔ MeetsOne Stretch c es
  edges_stretch = ((λ h. stretch_hit (ap is_stretch h)), λ m. stretch_only (edge_meeting es c) (stretch_is m))

  -- with each, no common spot but common ends
  edges_clear : (edge_meeting es c ≡ None) ↔ AllClear c es
  edges_clear = (
    (λ h e k. (meet_wrongly_iff c e.curve).0 (each_miss is_met met_adds (ap is_met h) e k)),
    λ k. unmet (edge_meeting es c) (not-true (is_met (edge_meeting es c)) (λ h.
        let x = one_hit is_met met_adds h in
        true≢false (sym x.2 ∙ (meet_wrongly_iff c x.0.curve).1 (k x.0 x.1)))),
  )

  -- a simple curve crosses no other in an end of its own
  module _ (differ : Differ c.first c.rest) (simple : Simple c.first c.rest) where
    crossing_hit : is_stretch (edge_meeting es c) ≡ false → is_grave (edge_meeting es c) ≡ true → MeetsOne Crossing c es
    crossing_hit n h =
        let x = one_hit is_grave grave_adds h in
        let k = crossing_only (by x.0) (each_miss is_stretch stretch_adds n x.0 x.1) x.2 in
        record { edge = x.0; among = x.1; meet = ((crossing-meeting c x.0.curve differ simple).0 k).1 }

    crossing_is : is_stretch (edge_meeting es c) ≡ false → MeetsOne Crossing c es → is_grave (edge_meeting es c) ≡ true
    crossing_is n m =
        let d = m.edge.curve in
        let no : MeetCurves Stretch c d → ⊥ =
        λ k. false≢true (sym n ∙ stretch_is (record { edge = m.edge; among = m.among; meet = k })) in
        one_is is_grave grave_adds m.among (ap is_grave ((crossing-meeting c d differ simple).1 (no, m.meet)))

    -- no stretch with any, and a crossing with one
    edges_crossing : (edge_meeting es c ≡ Crossing) ↔ Crosses c es
    edges_crossing = (
      (λ h. (
        (λ m. false≢true (sym (ap is_stretch h) ∙ stretch_is m)),
        crossing_hit (ap is_stretch h) (ap is_grave h),
      )),
      λ h. crossing_only (edge_meeting es c) (still h.0) (crossing_is (still h.0) h.1),
    )

    -- neither with any, and with one a common spot that is not an end of both
    edges_touch : (edge_meeting es c ≡ Touch) ↔ Touches c es
    edges_touch = (
      (λ h. (
        (λ m. false≢true (sym (ap is_stretch h) ∙ stretch_is m)),
        (λ m. false≢true (sym (ap is_grave h) ∙ crossing_is (ap is_stretch h) m)),
        spot_hit (ap is_met h),
      )),
      λ h. touch_only (edge_meeting es c)
          (not-true (is_grave (edge_meeting es c)) (λ k. h.1 (crossing_hit (still h.0) k)))
          (spot_is h.2),
    )

pub meetings_mean : MeetingsMean
meetings_mean c es n s =
    let differ = (neighbours_differ_iff c).0 n in
    let simple = (is_simple_iff c n).0 s in
    record {
      stretch = edges_stretch es c;
      crossing = edges_crossing es c differ simple;
      touch = edges_touch es c differ simple;
      none = edges_clear es c;
    }

-- ---- what was found, from the answer

-- the number of a contact, 0 among them
abbrev is_found : ℕ → Bool
is_found n = same n 0 || same n 24 || same n 15 || same n 23

is_found_lem : (k : Contact) → is_found (contact_reason k) ≡ true
unfolding same
is_found_lem None = refl
is_found_lem Touch = refl
is_found_lem Crossing = refl
is_found_lem Stretch = refl

-- different contacts have different numbers
number_tells : (j k : Contact) → contact_reason j ≡ contact_reason k → j ≡ k
unfolding same
number_tells j k e = sym (back j) ∙ ap of e ∙ back k
  where
    of : ℕ → Contact
    of n = cond (same n 23) Stretch (cond (same n 15) Crossing (cond (same n 24) Touch None))

    back : (k : Contact) → of (contact_reason k) ≡ k
    back None = refl
    back Touch = refl
    back Crossing = refl
    back Stretch = refl

-- a number of those that come after
abbrev is_later : ℕ → Bool
is_later n = leb 19 n && leb n 22

-- where the answer is a number that p takes, reasons with numbers that it does not take do not hold, and the next are
-- looked at
passed : (p : ℕ → Bool) (n : ℕ) → p n ≡ true → (rs ss : Reasons) → any_of (λ r. p r.0) rs ≡ false
    → first_reason (rs ++ ss) ≡ n → All (λ r. r.1 ≡ false) rs × (first_reason ss ≡ n)
passed p n q [] ss o e = (tt, e)
passed p n q (r ∷ rs) ss o e =
    let h = or-false (p r.0) (any_of (λ r. p r.0) rs) o in
    let later = passed p n q rs ss h.1 in
    elim (which r.1) [
      | inl t ↦ absurd (false≢true (sym h.0 ∙ ap p (sym (first_hit r.0 r.1 (rs ++ ss) t) ∙ e) ∙ q))
      | inr t ↦ let x = later (sym (first_miss r.0 r.1 (rs ++ ss) t) ∙ e) in ((t, x.0), x.1)
    ]

-- the reasons of a contact, and others
abbrev contacts_of : Contact → Reasons → Reasons
contacts_of j rs =
    (23, same (contact_reason j) 23) ∷ (15, same (contact_reason j) 15) ∷ (24, same (contact_reason j) 24) ∷ rs

-- the answer is the number of a contact: of the one that these are made of
found : (j k : Contact) (rs : Reasons) → any_of (λ r. is_found r.0) rs ≡ false
    → first_reason (contacts_of j rs) ≡ contact_reason k → j ≡ k
unfolding first_reason same
found None k rs o e = number_tells None k
    (passed is_found (contact_reason k) (is_found_lem k) rs [] o (ap first_reason (append-nil rs) ∙ e)).1
found Touch k rs o e = number_tells Touch k e
found Crossing k rs o e = number_tells Crossing k e
found Stretch k rs o e = number_tells Stretch k e

-- it is one of those that come after: they are made of none
unfound : (j : Contact) (n : ℕ) (rs : Reasons) → is_later n ≡ true → first_reason (contacts_of j rs) ≡ n → j ≡ None
unfolding first_reason same
unfound None n rs q e = refl
unfound Touch n rs q e = absurd (false≢true (ap is_later e ∙ q))
unfound Crossing n rs q e = absurd (false≢true (ap is_later e ∙ q))
unfound Stretch n rs q e = absurd (false≢true (ap is_later e ∙ q))

-- ---- the kinds

-- a number that `Told` speaks of
abbrev is_told : ℕ → Bool
is_told n = is_found n || is_later n

-- the shape of all four: 4 to 6, the reasons of the curve that is left, others, those of its meeting, others
module _ (most : ℕ) (m : Map) (l : List ℤ) (u v : ℕ) (es : List Edge) (missing : Bool) (before after : Reasons)
    (others : any_of (λ r. is_told r.0) before ≡ false) (rest : any_of (λ r. is_found r.0) after ≡ false) where
  abbrev c : Curve
  c = curve_in l

  abbrev early : Reasons
  early = (4, missing) ∷ sent_reasons most l ++ curve_reasons m c u v ++ before

  abbrev answer : ℕ
  answer = first_reason (early ++ (meeting_reasons m es c ++ after))

  -- up to the meeting
  let_pass : is_told answer ≡ true
      → (neighbours_differ c ≡ true) × (is_simple c ≡ true) × (first_reason (contacts_of (edge_meeting es c) after) ≡ answer)
  unfolding same
  let_pass q =
      let x = passed is_told answer q early (meeting_reasons m es c ++ after) others refl in
      let y = passed is_told answer q ((14, node_inside m c) ∷ []) _ refl x.1 in (
        surplus_differ (curve_of l) (not-false (neighbours_differ (curve_of l)) x.0.1.1.0),
        not-false (is_simple c) x.0.1.1.1.0,
        y.1,
      )

  answered : (k : Contact) → answer ≡ contact_reason k → MeetingMeans c es × (edge_meeting es c ≡ k)
  answered k e =
      let x = let_pass (or_left (is_later answer) (ap is_found e ∙ is_found_lem k)) in
      (meetings_mean c es x.0 x.1, found (edge_meeting es c) k after rest (x.2 ∙ e))

  told : Told answer c es
  told = record {
    stretch = λ e. let x = answered Stretch e in x.0.stretch.0 x.1;
    crossing = λ e. let x = answered Crossing e in x.0.crossing.0 x.1;
    touch = λ e. let x = answered Touch e in x.0.touch.0 x.1;
    clear = λ e. let x = answered None e in x.0.none.0 x.1;
    later = λ a b.
        let q = and_is (le-leb 19 answer a) (le-leb answer 22 b) in
        let x = let_pass (or_right (is_found answer) (is_later answer) q) in
        (edges_clear es c).0 (unfound (edge_meeting es c) answer after q x.2);
  }

pub meetings_told : MeetingsTold
unfolding reasons same
meetings_told = record {
  add-isolated = λ s m u v l. told _ m l (nat_abs u) (nat_abs v) m.edges _ ((9, _) ∷ (12, _) ∷ [])
      ((20, _) ∷ (21, _) ∷ []) refl refl;
  change = λ s m e l. told _ m l _ _ (without_edge (nat_abs e) m.edges) _ ((11, _) ∷ [])
      ((19, _) ∷ (22, _) ∷ []) refl refl;
  add_new = λ s m u v l. told _ m l (nat_abs u) (nat_abs v) m.edges _ ((11, _) ∷ (12, _) ∷ [])
      ((20, _) ∷ (21, _) ∷ []) refl refl;
  add-mod = λ s m u v l. told _ m l (nat_abs u) (nat_abs v) m.edges _ ((11, _) ∷ (12, _) ∷ [])
      ((20, _) ∷ (21, _) ∷ []) refl refl;
}
