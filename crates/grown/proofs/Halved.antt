-- Two maps: one with the edge h from s to t, the other with it in two halves that meet at the node n. c runs along the
-- first half and d along the second, both in the direction of h; either may be an edge the other way round. What is
-- said of the one map is said of the other. Assumes nothing.
use mathlib.Core.Path.{◌≡◌, refl, sym, ap, ◌∙◌, subst}
use mathlib.Core.Logic.{◌⊎◌, inl, inr}
use mathlib.Core.Bool.{true}
use mathlib.Core.List.Memᴰ
use mathlib.Core.List.{List, ◌∷◌, Memᴰ}
use Prim.Native.Nat.{ℕ}
use Rattle.lists.specs.Members.{Distinct}
use Rattle.lists.proofs.Members.{each-cons}
use Rattle.plane.specs.Directions.{Way, same_way}
use Rattle.planar_maps.specs.Map.{Arc, Dart, fwd, bwd, rev, darts}
use Rattle.planar_maps.specs.Pieces.{nums}
use Rattle.planar_maps.specs.Weave.{with_edge}
use Rattle.planar_maps.proofs.Rings.{rev_in}
use Rattle.planar_maps.proofs.Hooks.{fresh_dart, with_fwd, with_bwd, with_other}
use Rattle.planar_maps.proofs.Turns.{rev-rev}
use Rattle.planar_maps.proofs.Subdivide.{arc}
use Rattle.grown.proofs.Renumber.{ways}

-- the departures of the whole edge as those of the halves, and its arrivals
abbrev pub departs : ℕ → Dart → Dart → Dart → Dart
departs h c d = with_edge h c (rev d) (λ z. z)

abbrev pub arrives : ℕ → Dart → Dart → Dart → Dart
arrives h c d = with_edge h d (rev c) (λ z. z)

-- the whole edge among the others, and the halves
abbrev pub whole : ℕ → List Arc → List Dart
whole h r = fwd h ∷ bwd h ∷ darts r

abbrev pub halved : Dart → Dart → List Arc → List Dart
halved c d r = fwd c.edge ∷ bwd c.edge ∷ fwd d.edge ∷ bwd d.edge ∷ darts r

-- numbers stand once
pub record Parts (h : ℕ) (c d : Dart) (r : List Arc) : Type 0 where
  pub fresh : Memᴰ h (nums r) → ⊥
  pub once : Distinct (c.edge ∷ d.edge ∷ nums r)

pub record Halved (h : ℕ) (c d : Dart) (n : ℕ) (r : List Arc) (tail tail' : Dart → ℕ) (next next' : Dart → Dart)
    (face face' : Dart → ℕ) (way way' : Dart → Way) : Type 0 where
  pub parts : Parts h c d r
  -- what departs from another node than the joint
  pub tails : (z : Dart) → Memᴰ z (whole h r) → tail' (departs h c d z) ≡ tail z
  pub faces : (z : Dart) → Memᴰ z (whole h r) → face' (departs h c d z) ≡ face z
  pub ways : (z : Dart) → Memᴰ z (whole h r) → same_way (way z) (way' (departs h c d z)) ≡ true
  -- what arrives there
  pub nexts : (z : Dart) → Memᴰ z (whole h r) → next' (arrives h c d z) ≡ departs h c d (next z)
  pub into : (z : Dart) → Memᴰ z (whole h r) → Memᴰ (next z) (whole h r)
  pub away : (z : Dart) → Memᴰ z (whole h r) → (tail z ≡ n) → ⊥
  -- the joint
  pub tail_c : tail' (rev c) ≡ n
  pub tail_d : tail' d ≡ n
  pub next_c : next' c ≡ d
  pub next_d : next' (rev d) ≡ rev c
  pub face_c : face' (rev c) ≡ face (bwd h)
  pub face_d : face' d ≡ face (fwd h)

-- the darts of the whole map, case by case
pub each-whole : (h : ℕ) (r : List Arc) (p : Dart → Type 0) → p (fwd h) → p (bwd h)
    → ((z : Dart) → Memᴰ z (darts r) → p z) → (z : Dart) → Memᴰ z (whole h r) → p z
each-whole h r p pf pb po = each-cons {p = p} pf (each-cons {p = p} pb po)

-- and of the halved one
pub each_halved : (c d : Dart) (r : List Arc) (p : Dart → Type 0) → p c → p (rev c) → p d → p (rev d)
    → ((z : Dart) → Memᴰ z (darts r) → p z) → (z : Dart) → Memᴰ z (halved c d r) → p z
each_halved c d r p pc pc' pd pd' po = each-cons {p = p} (fore c pc pc')
    (each-cons {p = p} (aft c pc pc') (each-cons {p = p} (fore d pd pd') (each-cons {p = p} (aft d pd pd') po)))
  where
    fore : (x : Dart) → p x → p (rev x) → p (fwd x.edge)
    fore x a b = elim (ways x) [ inl e ↦ subst p e a | inr e ↦ subst p (ap rev e) b ]

    aft : (x : Dart) → p x → p (rev x) → p (bwd x.edge)
    aft x a b = elim (ways x) [ inl e ↦ subst p (ap rev e) b | inr e ↦ subst p e a ]

module _ {h : ℕ} {c d : Dart} {r : List Arc} (P : Parts h c d r) where
  pub old_h : {z : Dart} → Memᴰ z (darts r) → (z.edge ≡ h) → ⊥
  old_h m p = fresh_dart (arc h 0 0) r P.fresh m p

  pub old_c : {z : Dart} → Memᴰ z (darts r) → (z.edge ≡ c.edge) → ⊥
  old_c m p = fresh_dart (arc c.edge 0 0) r (λ i. P.once.0 (Memᴰ.tail i)) m p

  pub old_d : {z : Dart} → Memᴰ z (darts r) → (z.edge ≡ d.edge) → ⊥
  old_d m p = fresh_dart (arc d.edge 0 0) r P.once.1.0 m p

  pub c≢d : (c.edge ≡ d.edge) → ⊥
  c≢d p = P.once.0 (Memᴰ.head p)

  pub f_fwd : departs h c d (fwd h) ≡ c
  f_fwd = with_fwd h c (rev d) (λ z. z)

  pub f_bwd : departs h c d (bwd h) ≡ rev d
  f_bwd = with_bwd h c (rev d) (λ z. z)

  pub f_old : (z : Dart) → Memᴰ z (darts r) → departs h c d z ≡ z
  f_old z m = with_other h c (rev d) (λ z. z) z (old_h m)

  pub g_fwd : arrives h c d (fwd h) ≡ d
  g_fwd = with_fwd h d (rev c) (λ z. z)

  pub g_bwd : arrives h c d (bwd h) ≡ rev c
  g_bwd = with_bwd h d (rev c) (λ z. z)

  pub g_old : (z : Dart) → Memᴰ z (darts r) → arrives h c d z ≡ z
  g_old z m = with_other h d (rev c) (λ z. z) z (old_h m)

  -- what departs as f arrives, the other way round, as g
  pub turned : (z : Dart) → Memᴰ z (whole h r) → rev (departs h c d z) ≡ arrives h c d (rev z)
  turned = each-whole h r (λ z. rev (departs h c d z) ≡ arrives h c d (rev z)) (ap rev f_fwd ∙ sym g_bwd)
      (ap rev f_bwd ∙ rev-rev d ∙ sym g_fwd) (λ z m. ap rev (f_old z m) ∙ sym (g_old (rev z) (rev_in r m)))

  -- where the halves' darts come from
  in_c : Memᴰ c (halved c d r)
  in_c = elim (ways c) [ inl e ↦ Memᴰ.head e | inr e ↦ Memᴰ.tail (Memᴰ.head e) ]

  in_d : Memᴰ d (halved c d r)
  in_d = elim (ways d) [
    | inl e ↦ Memᴰ.tail (Memᴰ.tail (Memᴰ.head e))
    | inr e ↦ Memᴰ.tail
        (Memᴰ.tail (Memᴰ.tail (Memᴰ.head e)))
  ]

  rev_halved : {z : Dart} → Memᴰ z (halved c d r) → Memᴰ (rev z) (halved c d r)
  rev_halved m = rev_in (arc c.edge 0 0 ∷ arc d.edge 0 0 ∷ r) m

  pub joint_c : Memᴰ (rev c) (halved c d r)
  joint_c = rev_halved in_c

  pub joint_d : Memᴰ d (halved c d r)
  joint_d = in_d

  pub f_in : (z : Dart) → Memᴰ z (whole h r) → Memᴰ (departs h c d z) (halved c d r)
  f_in = each-whole h r (λ z. Memᴰ (departs h c d z) (halved c d r)) (Memᴰ.cast f_fwd in_c)
      (Memᴰ.cast f_bwd (rev_halved in_d))
      (λ z m. Memᴰ.cast (f_old z m) (Memᴰ.tail (Memᴰ.tail (Memᴰ.tail (Memᴰ.tail m)))))

  Kind : Dart → Type 0
  Kind z = ((z ≡ rev c) ⊎ (z ≡ d)) ⊎ ((w : Dart) × Memᴰ w (whole h r) × (departs h c d w ≡ z))

  -- two departures of the joint, and the others
  pub kind : (z : Dart) → Memᴰ z (halved c d r) → ((z ≡ rev c) ⊎ (z ≡ d))
      ⊎ ((w : Dart) × Memᴰ w (whole h r) × (departs h c d w ≡ z))
  unfolding Kind
  kind = each_halved c d r Kind (inr (fwd h, Memᴰ.head refl, f_fwd)) (inl (inl refl)) (inl (inr refl))
      (inr (bwd h, Memᴰ.tail (Memᴰ.head refl), f_bwd))
      (λ z m. inr (z, Memᴰ.tail (Memᴰ.tail m), f_old z m))

  numbers : {x y : Dart} → x ≡ y → x.edge ≡ y.edge
  numbers e = ap (λ (d : Dart). d.edge) e

  -- no two depart as one
  pub f_one : (z w : Dart) → Memᴰ z (whole h r) → Memᴰ w (whole h r) → departs h c d z
      ≡ departs h c d w → z ≡ w
  f_one z w m k = each-whole h r (λ z. departs h c d z ≡ departs h c d w → z ≡ w) (first w k) (second w k)
      (λ z j. third z j w k) z m
    where
      first : (w : Dart) → Memᴰ w (whole h r) → departs h c d (fwd h) ≡ departs h c d w → fwd h ≡ w
      first = each-whole h r (λ w. departs h c d (fwd h) ≡ departs h c d w → fwd h ≡ w) (λ e. refl)
          (λ e. absurd (c≢d (numbers (sym f_fwd ∙ e ∙ f_bwd))))
          (λ z j e. absurd (old_c j (numbers (sym (f_old z j) ∙ sym e ∙ f_fwd))))

      second : (w : Dart) → Memᴰ w (whole h r) → departs h c d (bwd h) ≡ departs h c d w → bwd h ≡ w
      second = each-whole h r (λ w. departs h c d (bwd h) ≡ departs h c d w → bwd h ≡ w)
          (λ e. absurd (c≢d (numbers (sym f_fwd ∙ sym e ∙ f_bwd)))) (λ e. refl)
          (λ z j e. absurd (old_d j (numbers (sym (f_old z j) ∙ sym e ∙ f_bwd))))

      third : (z : Dart) → Memᴰ z (darts r) → (w : Dart) → Memᴰ w (whole h r) → departs h c d z
          ≡ departs h c d w → z ≡ w
      third z j = each-whole h r (λ w. departs h c d z ≡ departs h c d w → z ≡ w)
          (λ e. absurd (old_c j (numbers (sym (f_old z j) ∙ e ∙ f_fwd))))
          (λ e. absurd (old_d j (numbers (sym (f_old z j) ∙ e ∙ f_bwd)))) (λ w k e. sym (f_old z j) ∙ e ∙ f_old w k)

  pub joint-differs : (rev c ≡ d) → ⊥
  joint-differs e = c≢d (numbers e)
