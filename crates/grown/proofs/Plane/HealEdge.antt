-- A map in the plane whose halves c and d are healed to the edge h. Assumes nothing.
use mathlib.Core.Path.{◌≡◌, refl, sym, ap, ap₂, ◌∙◌, subst}
use mathlib.Core.Bool.{Bool, true, false, cond, not}
use mathlib.Core.List.{List, ◌∷◌, map, Memᴰ}
use Prim.Native.Nat.{ℕ}
use Rattle.lists.specs.Tests.{same, ◌⊕◌}
use Rattle.lists.proofs.Bools.{same_refl, same_false, eq2}
use Rattle.lists.proofs.Members.{map_same}
use Rattle.planar_maps.specs.Map.{Arc, Dart, fwd, bwd, rev, darts}
use Rattle.planar_maps.specs.Pieces.{nums, Isolated}
use Rattle.planar_maps.specs.Weave.{with_edge, departs_as, heal-next}
use Rattle.planar_maps.specs.Planar.{Planar}
use Rattle.planar_maps.proofs.Cycles.{fwd_in}
use Rattle.planar_maps.proofs.Hooks.{fwd≢bwd, fresh_dart, with_fwd, with_bwd, with_other}
use Rattle.planar_maps.proofs.Agree.{planar_agree}
use Rattle.planar_maps.proofs.Subdivide.{arc, renamed_at, renamed_other}
use Rattle.planar_maps.proofs.Healing.{healed_at, healed_other, planar_heal}
use Rattle.plane.specs.Directions.{Way}
use Rattle.grown.proofs.Renumber.{runs, named, Named, planar_named}
use Rattle.grown.proofs.Halved.{Halved, departs, arrives, whole, halved, each-whole, each_halved, f_fwd, f_bwd}
use Rattle.grown.proofs.Halved.{f_old, g_fwd, g_bwd, g_old, old_h, old_c, old_d, c≢d}

-- the dart of the number k that runs as z does where b is false, and against it where b is true
abbrev onto : ℕ → Bool → Dart → Dart
onto k b z = record { edge = k; back = z.back ⊕ b }

-- x runs along k
onto_it : (k : ℕ) (x : Dart) → onto k x.back x ≡ fwd k
onto_it k x = λ i. record { edge = k; back = eq2 (λ p q. p ⊕ p) (λ p q. false) tt x.back true i }

onto_rev : (k : ℕ) (b : Bool) (x : Dart) → onto k b (rev x) ≡ rev (onto k b x)
onto_rev k b x = λ i. record { edge = k; back = eq2 (λ p q. not p ⊕ q) (λ p q. not (p ⊕ q)) tt x.back b i }

-- k is a number for the second half, meanwhile
module _ (h k : ℕ) (c d : Dart) (s n t : ℕ)
    (r : List Arc) {tail tail' : Dart → ℕ} {next next' : Dart → Dart} {face face' : Dart → ℕ} {way way' : Dart → Way}
    (H : Halved h c d n r tail tail' next next' face face' way way') (k≢h : (k ≡ h) → ⊥)
    (k-new : Memᴰ k (nums r) → ⊥) where
  old_k : {z : Dart} → Memᴰ z (darts r) → (z.edge ≡ k) → ⊥
  old_k m p = fresh_dart (arc k n t) r k-new m p

  -- the halves run along h and k, and back
  σ : Dart → Dart
  σ z = cond (same z.edge c.edge) (onto h c.back z) (cond (same z.edge d.edge) (onto k d.back z) z)

  τ : Dart → Dart
  τ = with_edge h c (rev c) (with_edge k d (rev d) (λ z. z))

  σ-c : σ c ≡ fwd h
  unfolding σ
  σ-c = rw (same_refl c.edge) (onto_it h c)

  σ-c' : σ (rev c) ≡ bwd h
  unfolding σ
  σ-c' = rw (same_refl c.edge) (onto_rev h c.back c ∙ ap rev (onto_it h c))

  σ-d : σ d ≡ fwd k
  unfolding σ
  σ-d = rw (same_false d.edge c.edge (λ p. c≢d H.parts (sym p)), same_refl d.edge) (onto_it k d)

  σ-d' : σ (rev d) ≡ bwd k
  unfolding σ
  σ-d' = rw (same_false d.edge c.edge (λ p. c≢d H.parts (sym p)), same_refl d.edge)
      (onto_rev k d.back d ∙ ap rev (onto_it k d))

  σ-old : (z : Dart) → Memᴰ z (darts r) → σ z ≡ z
  unfolding σ
  σ-old z m = rw (
    same_false z.edge c.edge (old_c H.parts m),
    same_false z.edge d.edge (old_d H.parts m),
  )

  τ-f : τ (fwd h) ≡ c
  unfolding τ
  τ-f = with_fwd h c (rev c) _

  τ-b : τ (bwd h) ≡ rev c
  unfolding τ
  τ-b = with_bwd h c (rev c) _

  τ-f' : τ (fwd k) ≡ d
  unfolding τ
  τ-f' = with_other h c (rev c) _ (fwd k) k≢h ∙ with_fwd k d (rev d) _

  τ-b' : τ (bwd k) ≡ rev d
  unfolding τ
  τ-b' = with_other h c (rev c) _ (bwd k) k≢h ∙ with_bwd k d (rev d) _

  τ-old : (z : Dart) → Memᴰ z (darts r) → τ z ≡ z
  unfolding τ
  τ-old z m = with_other h c (rev c) _ z (old_h H.parts m) ∙ with_other k d (rev d) _ z (old_k m)

  τ-σ : (z : Dart) → Memᴰ z (halved c d r) → τ (σ z) ≡ z
  τ-σ = each_halved c d r (λ z. τ (σ z) ≡ z) (ap τ σ-c ∙ τ-f) (ap τ σ-c' ∙ τ-b) (ap τ σ-d ∙ τ-f') (ap τ σ-d' ∙ τ-b')
      (λ z m. ap τ (σ-old z m) ∙ τ-old z m)

  turned : (z : Dart) → σ (rev z) ≡ rev (σ z)
  unfolding σ
  turned z = go (same z.edge c.edge) (same z.edge d.edge)
    where
      go : (p q : Bool) → cond p (onto h c.back (rev z)) (cond q (onto k d.back (rev z)) (rev z))
          ≡ rev (cond p (onto h c.back z) (cond q (onto k d.back z) z))
      go true q = onto_rev h c.back z
      go false true = onto_rev k d.back z
      go false false = refl

  renumbers : Named σ (runs c s n ∷ runs d n t ∷ r) tail' (λ z. tail' (τ z)) next' (λ z. σ (next' (τ z))) face'
      (λ z. face' (τ z))
  renumbers = record {
    turned = λ z m. turned z;
    one = λ z w m j e. sym (τ-σ z m) ∙ ap τ e ∙ τ-σ w j;
    tails = λ z m. ap tail' (τ-σ z m);
    nexts = λ z m. ap (λ z. σ (next' z)) (τ-σ z m);
    faces = λ z m. ap face' (τ-σ z m);
  }

  -- a half under its new number
  straight : (x : Dart) (j u v : ℕ) → σ x ≡ fwd j → named σ (runs x u v) ≡ arc j u v
  straight x j u v e = go x.back refl
    where
      go : (b : Bool) → x.back ≡ b → named σ (runs x u v) ≡ arc j u v
      go true q = ap (λ z. runs z (cond x.back v u) (cond x.back u v))
          (turned (bwd x.edge) ∙ ap rev (ap σ (λ i. record { edge = x.edge; back = sym q i }) ∙ e))
          ∙ ap (λ (b : Bool). arc j (cond b u v) (cond b v u)) q
      go false q = ap (λ z. runs z (cond x.back v u) (cond x.back u v))
          (ap σ (λ i. record { edge = x.edge; back = sym q i }) ∙ e)
          ∙ ap (λ (b : Bool). arc j (cond b v u) (cond b u v)) q

  renumbered : map (named σ) (runs c s n ∷ runs d n t ∷ r) ≡ arc h s n ∷ arc k n t ∷ r
  renumbered = ap₂ ◌∷◌ (straight c h s n σ-c)
      (ap₂ ◌∷◌ (straight d k n t σ-d) (map_same (named σ) r
      (λ x m. ap (λ z. runs z x.from x.to) (σ-old (fwd x.num) (fwd_in m)))))

  -- a departure, as the halves' and back
  back_again : (z : Dart) → Memᴰ z (whole h r) → departs_as k h (σ (departs h c d z)) ≡ z
  back_again = each-whole h r (λ z. departs_as k h (σ (departs h c d z)) ≡ z)
      (ap (λ z. departs_as k h (σ z)) (f_fwd H.parts) ∙ ap (departs_as k h) σ-c
      ∙ renamed_other k h (fwd h) fwd≢bwd)
      (ap (λ z. departs_as k h (σ z)) (f_bwd H.parts) ∙ ap (departs_as k h) σ-d' ∙ renamed_at k h)
      (λ z m. ap (λ z. departs_as k h (σ z)) (f_old H.parts z m) ∙ ap (departs_as k h) (σ-old z m)
      ∙ renamed_other k h z (λ e. old_k m (ap (λ (d : Dart). d.edge) e)))

  pub heal_planar : {nodes : List ℕ} {faces : ℕ}
      → Planar (n ∷ nodes) (runs c s n ∷ runs d n t ∷ r) tail' next' face' faces → Isolated n r → ((s ≡ n) → ⊥)
      → ((t ≡ n) → ⊥) → Planar nodes (arc h s t ∷ r) tail next face faces
  heal_planar {nodes} {faces} o lone s≢n t≢n =
      planar_agree (each-whole h r (λ z. tail z ≡ with_edge h s t T z) tail_f tail_b tail_old)
      (each-whole h r (λ z. next z ≡ heal-next h k N z) next_f next_b next_old)
      (each-whole h r (λ z. face z ≡ face' (τ z)) face_f face_b face_old) (planar_heal h k s n t r first lone s≢n t≢n)
    where
      T : Dart → ℕ
      T z = tail' (τ z)

      N : Dart → Dart
      N z = σ (next' (τ z))

      first : Planar (n ∷ nodes) (arc h s n ∷ arc k n t ∷ r) T N (λ z. face' (τ z)) faces
      first = subst (λ es. Planar (n ∷ nodes) es T N (λ z. face' (τ z)) faces) renumbered (planar_named σ o renumbers)

      f : Dart → Dart
      f = departs h c d

      in_f : Memᴰ (fwd h) (whole h r)
      in_f = Memᴰ.head refl

      in_b : Memᴰ (bwd h) (whole h r)
      in_b = Memᴰ.tail (Memᴰ.head refl)

      in_old : {z : Dart} → Memᴰ z (darts r) → Memᴰ z (whole h r)
      in_old m = Memᴰ.tail (Memᴰ.tail m)

      tail_f : tail (fwd h) ≡ with_edge h s t T (fwd h)
      tail_f = sym (H.tails (fwd h) in_f) ∙ ap tail' (f_fwd H.parts ∙ sym τ-f)
          ∙ first.linked.starts (arc h s n) (Memᴰ.head refl) ∙ sym (with_fwd h s t T)

      tail_b : tail (bwd h) ≡ with_edge h s t T (bwd h)
      tail_b = sym (H.tails (bwd h) in_b) ∙ ap tail' (f_bwd H.parts ∙ sym τ-b')
          ∙ first.linked.ends (arc k n t) (Memᴰ.tail (Memᴰ.head refl)) ∙ sym (with_bwd h s t T)

      tail_old : (z : Dart) → Memᴰ z (darts r) → tail z ≡ with_edge h s t T z
      tail_old z m = sym (H.tails z (in_old m)) ∙ ap tail' (f_old H.parts z m ∙ sym (τ-old z m))
          ∙ sym (with_other h s t T z (old_h H.parts m))

      face_f : face (fwd h) ≡ face' (τ (fwd h))
      face_f = sym (H.faces (fwd h) in_f) ∙ ap face' (f_fwd H.parts ∙ sym τ-f)

      face_b : face (bwd h) ≡ face' (τ (bwd h))
      face_b = sym H.face_c ∙ ap face' (sym τ-b)

      face_old : (z : Dart) → Memᴰ z (darts r) → face z ≡ face' (τ z)
      face_old z m = sym (H.faces z (in_old m)) ∙ ap face' (f_old H.parts z m ∙ sym (τ-old z m))

      -- where z goes on, by what it arrives as
      led : (z y : Dart) → Memᴰ z (whole h r) → arrives h c d z ≡ τ y → next z ≡ departs_as k h (N y)
      led z y m e = sym (back_again (next z) (H.into z m))
          ∙ ap (λ x. departs_as k h (σ x)) (sym (H.nexts z m) ∙ ap next' e)

      next_f : next (fwd h) ≡ heal-next h k N (fwd h)
      next_f = led (fwd h) (fwd k) in_f (g_fwd H.parts ∙ sym τ-f')
          ∙ ap (λ z. departs_as k h (N z)) (sym (healed_at h k))

      next_b : next (bwd h) ≡ heal-next h k N (bwd h)
      next_b = led (bwd h) (bwd h) in_b (g_bwd H.parts ∙ sym τ-b)
          ∙ ap (λ z. departs_as k h (N z)) (sym (healed_other h k (bwd h) (λ e. fwd≢bwd (sym e))))

      next_old : (z : Dart) → Memᴰ z (darts r) → next z ≡ heal-next h k N z
      next_old z m = led z z (in_old m) (g_old H.parts z m ∙ sym (τ-old z m))
          ∙ ap (λ z. departs_as k h (N z))
          (sym (healed_other h k z (λ e. old_h H.parts m (ap (λ (d : Dart). d.edge) e))))
