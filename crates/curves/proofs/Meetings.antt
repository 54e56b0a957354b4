-- How curves meet: the laws of `graver` and `gravest`, and of the tests that hold of the gravest of several contacts
-- exactly if they hold of one. Assumes nothing.
use mathlib.Core.Path.{◌≡◌, refl, sym, ap, ◌∙◌}
use mathlib.Core.Bool.{Bool, true, false, cond, not, ◌&&◌, ◌||◌, true≢false}
use mathlib.Core.List.{List, [], ◌∷◌, map}
use Rattle.lists.specs.Scans.{any_of}
use Rattle.lists.proofs.Bools.{or-false, or_no}
use Rattle.std.specs.Ordering.{ord_max}
use Rattle.plane.specs.contracts.ContactOrd.TheImpl.{cmp-value}
use Rattle.plane.specs.declared.Point.{Point}
use Rattle.plane.specs.declared.Contact.{Contact}
use Rattle.plane.specs.declared.Contact.TheVariants.{None, Touch, Crossing, Stretch}
use Rattle.plane.specs.Segments.{meets, stretches, ended, contact_of, contact}
use Rattle.curves.specs.Curves.{segments_of}
use Rattle.curves.specs.Tests.{shares, seg_wrong, seg_meeting, graver, gravest, is_met}

-- ---- the graver of two

pub graver_none : (k : Contact) → graver k None ≡ k
graver_none None = refl
graver_none Touch = refl
graver_none Crossing = refl
graver_none Stretch = refl

-- the derived order goes by how grave they are
pub max_is : (j k : Contact) → ord_max cmp-value.it j k ≡ graver j k
max_is None None = refl
max_is None Touch = refl
max_is None Crossing = refl
max_is None Stretch = refl
max_is Touch None = refl
max_is Touch Touch = refl
max_is Touch Crossing = refl
max_is Touch Stretch = refl
max_is Crossing None = refl
max_is Crossing Touch = refl
max_is Crossing Crossing = refl
max_is Crossing Stretch = refl
max_is Stretch None = refl
max_is Stretch Touch = refl
max_is Stretch Crossing = refl
max_is Stretch Stretch = refl

pub graver_assoc : (i j k : Contact) → graver (graver i j) k ≡ graver i (graver j k)
graver_assoc None j k = refl
graver_assoc Stretch j k = refl
graver_assoc Touch None k = refl
graver_assoc Touch Stretch k = refl
graver_assoc Touch Touch None = refl
graver_assoc Touch Touch Touch = refl
graver_assoc Touch Touch Crossing = refl
graver_assoc Touch Touch Stretch = refl
graver_assoc Touch Crossing None = refl
graver_assoc Touch Crossing Touch = refl
graver_assoc Touch Crossing Crossing = refl
graver_assoc Touch Crossing Stretch = refl
graver_assoc Crossing None k = refl
graver_assoc Crossing Stretch k = refl
graver_assoc Crossing Touch None = refl
graver_assoc Crossing Touch Touch = refl
graver_assoc Crossing Touch Crossing = refl
graver_assoc Crossing Touch Stretch = refl
graver_assoc Crossing Crossing None = refl
graver_assoc Crossing Crossing Touch = refl
graver_assoc Crossing Crossing Crossing = refl
graver_assoc Crossing Crossing Stretch = refl

-- ---- tests that hold of the gravest exactly if they hold of one

pub record Adds (f : Contact → Bool) : Type 0 where
  pub none : f None ≡ false
  pub graver : (k j : Contact) → f (graver k j) ≡ f k || f j

-- a crossing or a stretch
abbrev pub is_grave : Contact → Bool
is_grave None = false
is_grave Touch = false
is_grave Crossing = true
is_grave Stretch = true

abbrev pub is_stretch : Contact → Bool
is_stretch None = false
is_stretch Touch = false
is_stretch Crossing = false
is_stretch Stretch = true

abbrev pub is_crossing : Contact → Bool
is_crossing None = false
is_crossing Touch = false
is_crossing Crossing = true
is_crossing Stretch = false

pub met_adds : Adds is_met
met_adds = record { none = refl; graver = go }
  where
    go : (k j : Contact) → is_met (graver k j) ≡ is_met k || is_met j
    go None j = refl
    go Stretch j = refl
    go Touch None = refl
    go Touch Touch = refl
    go Touch Crossing = refl
    go Touch Stretch = refl
    go Crossing None = refl
    go Crossing Touch = refl
    go Crossing Crossing = refl
    go Crossing Stretch = refl

pub grave_adds : Adds is_grave
grave_adds = record { none = refl; graver = go }
  where
    go : (k j : Contact) → is_grave (graver k j) ≡ is_grave k || is_grave j
    go None j = refl
    go Stretch j = refl
    go Touch None = refl
    go Touch Touch = refl
    go Touch Crossing = refl
    go Touch Stretch = refl
    go Crossing None = refl
    go Crossing Touch = refl
    go Crossing Crossing = refl
    go Crossing Stretch = refl

pub stretch_adds : Adds is_stretch
stretch_adds = record { none = refl; graver = go }
  where
    go : (k j : Contact) → is_stretch (graver k j) ≡ is_stretch k || is_stretch j
    go None j = refl
    go Stretch j = refl
    go Touch None = refl
    go Touch Touch = refl
    go Touch Crossing = refl
    go Touch Stretch = refl
    go Crossing None = refl
    go Crossing Touch = refl
    go Crossing Crossing = refl
    go Crossing Stretch = refl

pub graver_unmet : (k j : Contact) → is_met (graver k j) ≡ false → (is_met k ≡ false) × (is_met j ≡ false)
graver_unmet k j e = or-false (is_met k) (is_met j) (sym (met_adds.graver k j) ∙ e)

pub unmet_graver : (k j : Contact) → is_met k ≡ false → is_met j ≡ false → is_met (graver k j) ≡ false
unmet_graver k j e f = met_adds.graver k j ∙ or_no e f

-- of several, whatever they are the contacts of
pub gravest_any : {A : Type 0} (f : Contact → Bool) → Adds f → (k : A → Contact) (rs : List A)
    → f (gravest (map k rs)) ≡ any_of (λ r. f (k r)) rs
gravest_any f adds k [] = adds.none
gravest_any f adds k (r ∷ rs) = adds.graver (k r) (gravest (map k rs))
    ∙ ap (λ (b : Bool). f (k r) || b) (gravest_any f adds k rs)

-- ---- which contact it is, by these tests

pub unmet : (k : Contact) → is_met k ≡ false → k ≡ None
unmet None e = refl
unmet Touch e = absurd (true≢false e)
unmet Crossing e = absurd (true≢false e)
unmet Stretch e = absurd (true≢false e)

pub stretch_only : (k : Contact) → is_stretch k ≡ true → k ≡ Stretch
stretch_only None e = absurd (true≢false (sym e))
stretch_only Touch e = absurd (true≢false (sym e))
stretch_only Crossing e = absurd (true≢false (sym e))
stretch_only Stretch e = refl

pub crossing_only : (k : Contact) → is_stretch k ≡ false → is_grave k ≡ true → k ≡ Crossing
crossing_only None e f = absurd (true≢false (sym f))
crossing_only Touch e f = absurd (true≢false (sym f))
crossing_only Crossing e f = refl
crossing_only Stretch e f = absurd (true≢false e)

pub touch_only : (k : Contact) → is_grave k ≡ false → is_met k ≡ true → k ≡ Touch
touch_only None e f = absurd (true≢false (sym f))
touch_only Touch e f = refl
touch_only Crossing e f = absurd (true≢false e)
touch_only Stretch e f = absurd (true≢false e)

-- ---- two segments

module _ (l : List Point) (a b c d : Point) where
  -- a meeting where they share a point that is none of the list
  pub met_seg : is_met (seg_meeting l a b c d) ≡ seg_wrong l a b c d
  unfolding seg_meeting seg_wrong contact
  met_seg = go (meets a b c d) (stretches a b c d) (ended a b c d) (shares l a b c d)
    where
      go : (m s e h : Bool) → is_met (cond (m && (s || not h)) (contact_of m s e) None) ≡ m && (s || not h)
      go false s e h = refl
      go true true e h = refl
      go true false true true = refl
      go true false true false = refl
      go true false false true = refl
      go true false false false = refl

  -- a stretch wherever they stretch
  pub stretch_seg : is_stretch (seg_meeting l a b c d) ≡ is_stretch (contact a b c d)
  unfolding seg_meeting seg_wrong contact
  stretch_seg = go (meets a b c d) (stretches a b c d) (ended a b c d) (shares l a b c d)
    where
      go : (m s e h : Bool) → is_stretch (cond (m && (s || not h)) (contact_of m s e) None) ≡ is_stretch (contact_of m s e)
      go false s e h = refl
      go true true e h = refl
      go true false true true = refl
      go true false true false = refl
      go true false false true = refl
      go true false false false = refl

  -- a crossing where they cross and share no point of the list
  pub grave_seg : is_grave (seg_meeting l a b c d)
      ≡ is_stretch (contact a b c d) || is_crossing (contact a b c d) && not (shares l a b c d)
  unfolding seg_meeting seg_wrong contact
  grave_seg = go (meets a b c d) (stretches a b c d) (ended a b c d) (shares l a b c d)
    where
      go : (m s e h : Bool) → is_grave (cond (m && (s || not h)) (contact_of m s e) None)
          ≡ is_stretch (contact_of m s e) || is_crossing (contact_of m s e) && not h
      go false s e h = refl
      go true true e h = refl
      go true false true true = refl
      go true false true false = refl
      go true false false true = refl
      go true false false false = refl

-- ---- a segment and a curve, two curves

-- the segment a b and the curve c ∷ s
abbrev pub seg_curve : List Point → Point → Point → Point → List Point → Contact
seg_curve l a b c s = gravest (map (λ t. seg_meeting l a b t.from t.to) (segments_of c s))

-- the curves a ∷ r and c ∷ s
abbrev pub curve_curve : List Point → Point → List Point → Point → List Point → Contact
curve_curve l a r c s = gravest (map (λ t. seg_curve l t.from t.to c s) (segments_of a r))
