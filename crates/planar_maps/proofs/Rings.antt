-- Two rings of one face are not connected, and what a ring parts. Assumes nothing.
use mathlib.Core.Path.{◌≡◌, refl, sym, ap, ap₂, ◌∙◌}
use mathlib.Core.Logic.{◌⊎◌, inl, inr}
use mathlib.Core.Bool.{Bool, true, false, ◌||◌, beq, true≢false, false≢true, and-eq-true_iff}
use mathlib.Core.List.{List, Memᴰ}
use mathlib.Core.List.Memᴰ
use Prim.Native.Nat.{ℕ, zero, suc, ◌+◌, ◌≤◌}
use native.Mathlib.Omega.{arith}
use lib.ListN.{length}
use Rattle.lists.specs.Tests.{◌⊕◌, same, iterate}
use Rattle.lists.specs.Scans.{count_of}
use Rattle.lists.specs.Members.{Distinct}
use Rattle.lists.proofs.Bools.{eq4, which, same_refl, same_true, beq_refl, beq_true, or-true, or_right, not-true}
use Rattle.lists.proofs.Perms.{perm_in}
use Rattle.lists.proofs.Counts.{count_map, count_perm, count_tight, count_all, count_once}
use Rattle.planar_maps.specs.Map.{Arc, Dart, fwd, bwd, rev, darts, Divides, Colouring, Linked}
use Rattle.planar_maps.specs.Pieces.{Chain, stay, along, against, label}
use Rattle.planar_maps.specs.Rings.{same_dart, Leads, about_node, OneTurn}
use Rattle.planar_maps.proofs.Cycles.{fwd_in, bwd_in, each_dart, rim, rim_cycle}
use Rattle.planar_maps.proofs.Leads.{leads_keep}
use Rattle.planar_maps.proofs.Chains.{label_of_chain, chain_of_label}

pub dart_cases : (es : List Arc) {d : Dart} → Memᴰ d (darts es)
    → (a : Arc) × Memᴰ a es × ((d ≡ fwd a.num) ⊎ (d ≡ bwd a.num))
dart_cases es {d} m =
    each_dart (λ d. (a : Arc) × Memᴰ a es × ((d ≡ fwd a.num) ⊎ (d ≡ bwd a.num))) es
    (λ a k. (a, k, inl refl)) (λ a k. (a, k, inr refl)) d m

pub rev_in : (es : List Arc) {d : Dart} → Memᴰ d (darts es) → Memᴰ (rev d) (darts es)
rev_in es {d} m =
    each_dart (λ d. Memᴰ (rev d) (darts es)) es (λ a k. bwd_in k) (λ a k. fwd_in k) d m

module _ {es : List Arc} {tail : Dart → ℕ} {next : Dart → Dart} {face : Dart → ℕ} (l : Linked es tail next face) where
  pub next_in_lem : {d : Dart} → Memᴰ d (darts es) → Memᴰ (next d) (darts es)
  next_in_lem m = perm_in l.perm (Memᴰ.map next m)

  -- what holds of the next dart wherever it holds of a dart is constant along `next`
  pub closed-turned : (g : Dart → Bool) → ((d : Dart) → Memᴰ d (darts es) → g d ≡ true → g (next d) ≡ true)
      → (d : Dart) → Memᴰ d (darts es) → g (next d) ≡ g d
  closed-turned g h = count_tight g (λ d. g (next d)) (darts es) h
      (omega (arith, count_map next g (darts es), count_perm g l.perm))

  -- what is alike along `next` and on both sides of an edge is alike all over a piece
  module _ (one : OneTurn es tail next) (h : Dart → Bool)
      (along-next : (d : Dart) → Memᴰ d (darts es) → h (next d) ≡ h d)
      (across-edge : (d : Dart) → Memᴰ d (darts es) → h (rev d) ≡ h d) where
    about : (d d' : Dart) → Memᴰ d (darts es) → Memᴰ d' (darts es) → tail d ≡ tail d' → h d ≡ h d'
    about d d' m m' e = sym (leads_keep (λ c. Memᴰ c (darts es) × (h c ≡ h d)) (about_node next)
        (λ c r. let k = rev_in es r.0 in (next_in_lem k, along-next (rev c) k ∙ across-edge c r.0 ∙ r.1)) (m, refl)
        (one d d' m m' e)).1

    piece_alike : {x y : ℕ} → Chain es x y → (d d' : Dart) → Memᴰ d (darts es) → Memᴰ d' (darts es)
        → tail d ≡ x → tail d' ≡ y → h d ≡ h d'
    piece_alike stay d d' m m' e e' = about d d' m m' (e ∙ sym e')
    piece_alike (along a k p) d d' m m' e e' = about d (fwd a.num) m (fwd_in k) (e ∙ sym (l.starts a k))
        ∙ across-edge (bwd a.num) (bwd_in k) ∙ piece_alike p (bwd a.num) d' (bwd_in k) m' (l.ends a k) e'
    piece_alike (against a k p) d d' m m' e e' = about d (bwd a.num) m (bwd_in k) (e ∙ sym (l.ends a k))
        ∙ across-edge (fwd a.num) (fwd_in k) ∙ piece_alike p (fwd a.num) d' (fwd_in k) m' (l.starts a k) e'

  -- g holds along rings: how their border colours a dart's face, with g of the dart, is alike all over a piece
  pub ring_sides : Colouring es face → OneTurn es tail next → (g : Dart → Bool)
      → ((d : Dart) → Memᴰ d (darts es) → g d ≡ true → g (next d) ≡ true)
      → (S : ℕ → Bool) × ((d d' : Dart) → Memᴰ d (darts es) → Memᴰ d' (darts es) → Chain es (tail d) (tail d')
      → S (face d) ⊕ g d ≡ S (face d') ⊕ g d')
  ring_sides P one g closed = (S, λ d d' m m' p. piece_alike one h h_next h_rev p d d' m m' refl refl)
    where
      constant : (d : Dart) → Memᴰ d (darts es) → g (next d) ≡ g d
      constant = closed-turned g closed

      r : (S : ℕ → Bool) × Divides es face (rim g) S
      r = P (rim g) (rim_cycle l g constant)

      S : ℕ → Bool
      S = r.0

      h : Dart → Bool
      h d = S (face d) ⊕ g d

      h_next : (d : Dart) → Memᴰ d (darts es) → h (next d) ≡ h d
      h_next d m = ap₂ (λ x y. S x ⊕ y) (l.keeps d m) (constant d m)

      cross : (x y s t : Bool) → x ⊕ y ≡ s ⊕ t → s ⊕ x ≡ t ⊕ y
      cross x y s t e = eq4 (λ x y s t. s ⊕ x) (λ x y s t. s ⊕ t ⊕ (t ⊕ x)) tt x y s t ∙ ap (λ z. z ⊕ (t ⊕ x)) (sym e)
          ∙ eq4 (λ x y s t. x ⊕ y ⊕ (t ⊕ x)) (λ x y s t. t ⊕ y) tt x y s t

      sides : (a : Arc) → Memᴰ a es → h (fwd a.num) ≡ h (bwd a.num)
      sides a k = cross (g (fwd a.num)) (g (bwd a.num)) (S (face (fwd a.num))) (S (face (bwd a.num)))
          (r.1 a k)

      h_rev : (d : Dart) → Memᴰ d (darts es) → h (rev d) ≡ h d
      h_rev = each_dart (λ d. h (rev d) ≡ h d) es (λ a k. sym (sides a k)) sides

  -- L7: g holds along d₁'s ring and not at d₂, of the same face
  rings_apart : Colouring es face → OneTurn es tail next → (g : Dart → Bool)
      → ((d : Dart) → Memᴰ d (darts es) → g d ≡ true → g (next d) ≡ true)
      → {d₁ d₂ : Dart} → Memᴰ d₁ (darts es) → Memᴰ d₂ (darts es) → face d₁ ≡ face d₂ → g d₁ ≡ true
      → g d₂ ≡ false → Chain es (tail d₁) (tail d₂) → ⊥
  rings_apart P one g closed {d₁} {d₂} m₁ m₂ f on off p =
      differ (S (face d₂)) (sym (ap₂ (λ x y. S x ⊕ y) f on) ∙ r.1 d₁ d₂ m₁ m₂ p ∙ ap (λ y. S (face d₂) ⊕ y) off)
    where
      r : (S : ℕ → Bool) × ((d d' : Dart) → Memᴰ d (darts es) → Memᴰ d' (darts es)
          → Chain es (tail d) (tail d') → S (face d) ⊕ g d ≡ S (face d') ⊕ g d')
      r = ring_sides P one g closed

      S : ℕ → Bool
      S = r.0

      differ : (b : Bool) → b ⊕ true ≡ b ⊕ false → ⊥
      differ true e = false≢true e
      differ false e = true≢false e

-- ---- the ring of a dart, as a list that is walked until `next` comes to a dart that is in it

pub dart_is : {a b : ℕ} {c d : Bool} → a ≡ b → c ≡ d
    → ◌≡◌ {A = Dart} (record { edge = a; back = c }) (record { edge = b; back = d })
dart_is e f = cc

pub same_dart_refl : (d : Dart) → same_dart d d ≡ true
unfolding same_dart
same_dart_refl d = rw (same_refl d.edge) (beq_refl d.back)

pub same_dart-true : (c d : Dart) → same_dart c d ≡ true → c ≡ d
unfolding same_dart
same_dart-true c d e = λ i. record { edge = p i; back = q i }
  where
    p : c.edge ≡ d.edge
    p =
        same_true c.edge d.edge ((and-eq-true_iff (same c.edge d.edge)
        (beq c.back d.back)).0 e).0

    q : c.back ≡ d.back
    q = beq_true c.back d.back ((and-eq-true_iff (same c.edge d.edge) (beq c.back d.back)).0 e).1

-- where none stands twice, each is counted once
pub dart_once : (ds : List Dart) → Distinct ds → {d : Dart} → Memᴰ d ds → count_of (same_dart d) ds ≡ 1
dart_once ds dis {d} k = count_once (same_dart d) ds dis k (same_dart_refl d) (same_dart-true d)

-- d is among the first k + 1 darts from d₁ on
walked : (Dart → Dart) → Dart → ℕ → Dart → Bool
walked f d₁ zero d = same_dart d d₁
walked f d₁ (suc k) d = same_dart d (f (iterate k f d₁)) || walked f d₁ k d

walked_here : (f : Dart → Dart) (d₁ : Dart) (k : ℕ) → walked f d₁ k (iterate k f d₁) ≡ true
unfolding walked
walked_here f d₁ zero = same_dart_refl d₁
walked_here f d₁ (suc k) = rw (same_dart_refl (f (iterate k f d₁)))

walked_first : (f : Dart → Dart) (d₁ : Dart) (k : ℕ) → walked f d₁ k d₁ ≡ true
unfolding walked
walked_first f d₁ zero = same_dart_refl d₁
walked_first f d₁ (suc k) = or_right (same_dart d₁ (f (iterate k f d₁))) (walked f d₁ k d₁) (walked_first f d₁ k)

walked_leads : (f : Dart → Dart) (d₁ : Dart) (k : ℕ) (d : Dart) → walked f d₁ k d ≡ true → Leads f d₁ d
unfolding walked
walked_leads f d₁ zero d e = (zero, sym (same_dart-true d d₁ e))
walked_leads f d₁ (suc k) d e = step (walked_leads f d₁ k d)
    (or-true (same_dart d (f (iterate k f d₁))) (walked f d₁ k d) e)
  where
    step : (walked f d₁ k d ≡ true → Leads f d₁ d) → (same_dart d (f (iterate k f d₁)) ≡ true) ⊎ (walked f d₁ k d ≡ true)
        → Leads f d₁ d
    step ih (inl p) = (suc k, sym (same_dart-true d (f (iterate k f d₁)) p))
    step ih (inr p) = ih p

-- the dart after one that is walked is walked, or is the one after the last
walked_next : (f : Dart → Dart) (d₁ : Dart) (k : ℕ) (d : Dart) → walked f d₁ k d ≡ true
    → (walked f d₁ k (f d) ≡ true) ⊎ (f d ≡ f (iterate k f d₁))
unfolding walked
walked_next f d₁ zero d e = inr (ap f (same_dart-true d d₁ e))
walked_next f d₁ (suc k) d e = step (walked_next f d₁ k d)
    (or-true (same_dart d (f (iterate k f d₁))) (walked f d₁ k d) e)
  where
    step : (walked f d₁ k d ≡ true → (walked f d₁ k (f d) ≡ true) ⊎ (f d ≡ f (iterate k f d₁)))
        → (same_dart d (f (iterate k f d₁)) ≡ true) ⊎ (walked f d₁ k d ≡ true)
        → (walked f d₁ (suc k) (f d) ≡ true) ⊎ (f d ≡ f (f (iterate k f d₁)))
    step ih (inl p) = inr (ap f (same_dart-true d (f (iterate k f d₁)) p))
    step ih (inr p) = elim (ih p) [
      | inl q ↦ inl (or_right (same_dart (f d) (f (iterate k f d₁))) (walked f d₁ k (f d)) q)
      | inr q ↦ inl (rw (q, same_dart_refl (f (iterate k f d₁))))
    ]

module _ (f : Dart → Dart) (ds : List Dart) (stays : (d : Dart) → Memᴰ d ds → Memᴰ (f d) ds) (d₁ : Dart)
    (m₁ : Memᴰ d₁ ds) where
  iterate_in : (k : ℕ) → Memᴰ (iterate k f d₁) ds
  iterate_in zero = m₁
  iterate_in (suc k) = stays (iterate k f d₁) (iterate_in k)

  -- the walk meets a dart again: it cannot go on for longer than the list of darts
  closes : (n k : ℕ) → length ds ≤ count_of (walked f d₁ k) ds + n → (k : ℕ)
      × (walked f d₁ k (f (iterate k f d₁)) ≡ true)
  unfolding walked
  closes zero k h = (
    k,
    sym (count_tight (walked f d₁ k) (λ d. true) ds (λ d m e. refl) (omega (arith, count_all ds)) (f (iterate k f d₁))
        (iterate_in (suc k))),
  )
  closes (suc n) k h = step (closes n (suc k)) (which (walked f d₁ k (f (iterate k f d₁))))
    where
      more : walked f d₁ k (f (iterate k f d₁)) ≡ false → count_of (walked f d₁ (suc k)) ds ≤ count_of (walked f d₁ k) ds
          → ⊥
      more off le =
          true≢false (sym (walked_here f d₁ (suc k)) ∙ count_tight (walked f d₁ k) (walked f d₁ (suc k)) ds
          (λ d m e. or_right (same_dart d (f (iterate k f d₁))) (walked f d₁ k d) e) le (f (iterate k f d₁))
          (iterate_in (suc k)) ∙ off)

      step : (length ds ≤ count_of (walked f d₁ (suc k)) ds + n → (k : ℕ) × (walked f d₁ k (f (iterate k f d₁)) ≡ true))
          → (walked f d₁ k (f (iterate k f d₁)) ≡ true) ⊎ (walked f d₁ k (f (iterate k f d₁)) ≡ false)
          → (k : ℕ) × (walked f d₁ k (f (iterate k f d₁)) ≡ true)
      step ih (inl e) = (k, e)
      step ih (inr e) = ih (omega (arith, more e))

  -- the ring of d₁: a test that d₁ passes, that `f` keeps, and that only what `f` leads to from d₁ passes
  pub ring : (g : Dart → Bool) × (g d₁ ≡ true) × ((d : Dart) → g d ≡ true → g (f d) ≡ true)
      × ((d : Dart) → g d ≡ true → Leads f d₁ d)
  ring = (
    walked f d₁ K,
    walked_first f d₁ K,
    λ d e. elim (walked_next f d₁ K d e) [ inl p ↦ p | inr p ↦ rw p r.1 ],
    walked_leads f d₁ K,
  )
    where
      r : (k : ℕ) × (walked f d₁ k (f (iterate k f d₁)) ≡ true)
      r = closes (length ds) zero (omega arith)

      K : ℕ
      K = r.0

-- L7, with rings by `next`
pub rings_unconnected : {es : List Arc} {tail : Dart → ℕ} {next : Dart → Dart} {face : Dart → ℕ}
    → Linked es tail next face → Colouring es face → OneTurn es tail next
    → {d₁ d₂ : Dart} → Memᴰ d₁ (darts es) → Memᴰ d₂ (darts es) → face d₁ ≡ face d₂ → (Leads next d₁ d₂ → ⊥)
    → Chain es (tail d₁) (tail d₂) → ⊥
rings_unconnected {es} {next = next} l P one {d₁} {d₂} m₁ m₂ f apart =
    rings_apart l P one r.0 (λ d m. r.2 d) m₁ m₂ f r.1 (not-true (r.0 d₂) (λ e. apart (r.3 d₂ e)))
  where
    r : (g : Dart → Bool) × (g d₁ ≡ true) × ((d : Dart) → g d ≡ true → g (next d) ≡ true)
        × ((d : Dart) → g d ≡ true → Leads next d₁ d)
    r = ring next (darts es) (λ d m. next_in_lem l m) d₁ m₁

-- ---- what a ring parts

-- the border of d₁'s ring colours the faces; the colour of a dart's face, changed on the ring, is alike all over a
-- piece
pub record Parted (es : List Arc) (tail : Dart → ℕ) (face : Dart → ℕ) (d₁ : Dart) : Type 0 where
  pub side : ℕ → Bool
  pub on : Dart → Bool
  pub first : on d₁ ≡ true
  pub one : (d : Dart) → on d ≡ true → (face d ≡ face d₁) × (label es (tail d) ≡ label es (tail d₁))
  pub alike : (d d' : Dart) → Memᴰ d (darts es) → Memᴰ d' (darts es) → label es (tail d) ≡ label es (tail d')
      → side (face d) ⊕ on d ≡ side (face d') ⊕ on d'

-- both ways of an edge leave one piece
pub label-rev : {es : List Arc} {tail : Dart → ℕ} {next : Dart → Dart} {face : Dart → ℕ} → Linked es tail next face
    → (d : Dart) → Memᴰ d (darts es) → label es (tail (rev d)) ≡ label es (tail d)
label-rev {es} {tail} l =
    each_dart (λ d. label es (tail (rev d)) ≡ label es (tail d)) es (λ a k. sym (ends a k)) ends
  where
    ends : (a : Arc) → Memᴰ a es → label es (tail (fwd a.num)) ≡ label es (tail (bwd a.num))
    ends a k = ap (label es) (l.starts a k) ∙ label_of_chain (along a k stay) ∙ ap (label es) (sym (l.ends a k))

pub ring-parts : {es : List Arc} {tail : Dart → ℕ} {next : Dart → Dart} {face : Dart → ℕ} → Linked es tail next face
    → Colouring es face → OneTurn es tail next → (d₁ : Dart) → Memᴰ d₁ (darts es) → Parted es tail face d₁
ring-parts {es} {tail} {next} {face} l P one d₁ m₁ = record {
  side = r.0;
  on = g.0;
  first = g.1;
  one = λ d e. let k = led d (g.3 d e) in (k.1, k.2);
  alike = λ d d' m m' e. r.1 d d' m m' (chain_of_label es (tail d) (tail d') e);
}
  where
    g : (g : Dart → Bool) × (g d₁ ≡ true) × ((d : Dart) → g d ≡ true → g (next d) ≡ true)
        × ((d : Dart) → g d ≡ true → Leads next d₁ d)
    g = ring next (darts es) (λ d m. next_in_lem l m) d₁ m₁

    r : (S : ℕ → Bool) × ((d d' : Dart) → Memᴰ d (darts es) → Memᴰ d' (darts es) → Chain es (tail d) (tail d')
        → S (face d) ⊕ g.0 d ≡ S (face d') ⊕ g.0 d')
    r = ring_sides l P one g.0 (λ d m. g.2 d)

    led : (d : Dart) → Leads next d₁ d → Memᴰ d (darts es) × (face d ≡ face d₁)
        × (label es (tail d) ≡ label es (tail d₁))
    led d = leads_keep (λ d. Memᴰ d (darts es) × (face d ≡ face d₁) × (label es (tail d) ≡ label es (tail d₁)))
        next
        (λ d h. (
          next_in_lem l h.0,
          l.keeps d h.0 ∙ h.1,
          ap (label es) (l.meets d h.0) ∙ label-rev l d h.0 ∙ h.2,
        )) (m₁, refl, refl)
