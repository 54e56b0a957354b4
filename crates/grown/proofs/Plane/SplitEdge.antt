-- A map in the plane whose edge h is split. Assumes nothing.
use mathlib.Core.Path.{◌≡◌, refl, sym, ap, ap₂, ◌∙◌, subst}
use mathlib.Core.Logic.{inl, inr}
use mathlib.Core.List.Memᴰ
use mathlib.Core.List.{List, ◌∷◌, map, Memᴰ}
use Prim.Native.Nat.{ℕ}
use Rattle.lists.proofs.Members.{map_same}
use Rattle.planar_maps.specs.Map.{Arc, Dart, fwd, bwd, rev, darts}
use Rattle.planar_maps.specs.Pieces.{nums}
use Rattle.planar_maps.specs.Weave.{with_edge, departs_as, split_tail, split_face_lem, split-next}
use Rattle.planar_maps.specs.Planar.{Planar}
use Rattle.planar_maps.proofs.Cycles.{fwd_in}
use Rattle.planar_maps.proofs.Rings.{rev_in}
use Rattle.planar_maps.proofs.Hooks.{fwd≢bwd, with_fwd, with_bwd, with_other}
use Rattle.planar_maps.proofs.Agree.{planar_agree}
use Rattle.planar_maps.proofs.Subdivide.{arc, renamed_at, renamed_other}
use Rattle.planar_maps.proofs.Splitting.{planar_subdivide}
use Rattle.plane.specs.Directions.{Way}
use Rattle.grown.proofs.Renumber.{runs, named, Named, planar_named}
use Rattle.grown.proofs.Halved.{Halved, departs, whole, each-whole, each_halved, old_h, old_c, old_d, c≢d, f_fwd}
use Rattle.grown.proofs.Halved.{f_bwd, f_old, g_fwd, g_bwd, g_old}

-- ---- the split: c is a, and d is b, each in its own direction

module _ (h a b s n t : ℕ) (r : List Arc) {tail tail' : Dart → ℕ} {next next' : Dart → Dart} {face face' : Dart
    → ℕ} {way way' : Dart → Way}
    (H : Halved h (fwd a) (fwd b) n r tail tail' next next' face face' way way') where
  -- h takes the number a, and back
  σ : Dart → Dart
  σ = with_edge h (fwd a) (bwd a) (λ z. z)

  τ : Dart → Dart
  τ = with_edge a (fwd h) (bwd h) (λ z. z)

  σ-f : σ (fwd h) ≡ fwd a
  unfolding σ
  σ-f = with_fwd h (fwd a) (bwd a) (λ z. z)

  σ-b : σ (bwd h) ≡ bwd a
  unfolding σ
  σ-b = with_bwd h (fwd a) (bwd a) (λ z. z)

  σ-old : (z : Dart) → Memᴰ z (darts r) → σ z ≡ z
  unfolding σ
  σ-old z m = with_other h (fwd a) (bwd a) (λ z. z) z (old_h H.parts m)

  τ-f : τ (fwd a) ≡ fwd h
  unfolding τ
  τ-f = with_fwd a (fwd h) (bwd h) (λ z. z)

  τ-b : τ (bwd a) ≡ bwd h
  unfolding τ
  τ-b = with_bwd a (fwd h) (bwd h) (λ z. z)

  τ-old : (z : Dart) → Memᴰ z (darts r) → τ z ≡ z
  unfolding τ
  τ-old z m = with_other a (fwd h) (bwd h) (λ z. z) z (old_c H.parts m)

  τ-σ : (z : Dart) → Memᴰ z (whole h r) → τ (σ z) ≡ z
  τ-σ = each-whole h r (λ z. τ (σ z) ≡ z) (ap τ σ-f ∙ τ-f) (ap τ σ-b ∙ τ-b) (λ z m. ap τ (σ-old z m) ∙ τ-old z m)

  renumbers : Named σ (arc h s t ∷ r) tail (λ z. tail (τ z)) next (λ z. σ (next (τ z))) face (λ z. face (τ z))
  renumbers = record {
    turned = each-whole h r (λ z. σ (rev z) ≡ rev (σ z)) (σ-b ∙ sym (ap rev σ-f)) (σ-f ∙ sym (ap rev σ-b))
        (λ z m. σ-old (rev z) (rev_in r m) ∙ sym (ap rev (σ-old z m)));
    one = λ z w m k e. sym (τ-σ z m) ∙ ap τ e ∙ τ-σ w k;
    tails = λ z m. ap tail (τ-σ z m);
    nexts = λ z m. ap (λ z. σ (next z)) (τ-σ z m);
    faces = λ z m. ap face (τ-σ z m);
  }

  renumbered : map (named σ) (arc h s t ∷ r) ≡ arc a s t ∷ r
  renumbered = ap₂ ◌∷◌ (ap (λ z. runs z s t) σ-f)
      (map_same (named σ) r (λ x m. ap (λ z. runs z x.from x.to) (σ-old (fwd x.num) (fwd_in m))))

  -- e, then its halves' departures
  departs_by : (z : Dart) → Memᴰ z (whole h r) → departs h (fwd a) (fwd b) z ≡ departs_as a b (σ z)
  departs_by = each-whole h r (λ z. departs h (fwd a) (fwd b) z ≡ departs_as a b (σ z))
      (f_fwd H.parts
      ∙ sym (ap (departs_as a b) σ-f ∙ renamed_other a b (fwd a) fwd≢bwd))
      (f_bwd H.parts ∙ sym (ap (departs_as a b) σ-b ∙ renamed_at a b))
      (λ z m. f_old H.parts z m
      ∙ sym (ap (departs_as a b) (σ-old z m)
      ∙ renamed_other a b z (λ e. old_c H.parts m (ap (λ (d : Dart). d.edge) e))))

  pub split_planar : {nodes : List ℕ} {faces : ℕ} → Planar nodes (arc h s t ∷ r) tail next face faces
      → (Memᴰ n nodes → ⊥) → Planar (n ∷ nodes) (arc a s n ∷ arc b n t ∷ r) tail' next' face' faces
  split_planar {nodes} {faces} o new = planar_agree
      (each_halved (fwd a) (fwd b) r (λ z. tail' z ≡ T z) tail_a tail_a' tail_b tail_b' tail_old)
      (each_halved (fwd a) (fwd b) r (λ z. next' z ≡ N z) next_a next_a' next_b next_b' next_old)
      (each_halved (fwd a) (fwd b) r (λ z. face' z ≡ F z) face_a face_a' face_b face_b' face_old)
      (planar_subdivide a b s n t r first fresh new)
    where
      first : Planar nodes (arc a s t ∷ r) (λ z. tail (τ z)) (λ z. σ (next (τ z))) (λ z. face (τ z)) faces
      first = subst (λ es. Planar nodes es (λ z. tail (τ z)) (λ z. σ (next (τ z))) (λ z. face (τ z)) faces) renumbered
          (planar_named σ o renumbers)

      a≢b : (a ≡ b) → ⊥
      a≢b p = c≢d H.parts p

      fresh : Memᴰ b (a ∷ nums r) → ⊥
      fresh m = elim (Memᴰ.cases_cons m) [ inl e ↦ a≢b (sym e) | inr k ↦ H.parts.once.1.0 k ]

      T : Dart → ℕ
      T = split_tail a b s n t (λ z. tail (τ z))

      N : Dart → Dart
      N = split-next a b (λ z. σ (next (τ z)))

      F : Dart → ℕ
      F = split_face_lem a b (λ z. face (τ z))

      f : Dart → Dart
      f = departs h (fwd a) (fwd b)

      in_f : Memᴰ (fwd h) (whole h r)
      in_f = Memᴰ.head refl

      in_b : Memᴰ (bwd h) (whole h r)
      in_b = Memᴰ.tail (Memᴰ.head refl)

      in_old : {z : Dart} → Memᴰ z (darts r) → Memᴰ z (whole h r)
      in_old m = Memᴰ.tail (Memᴰ.tail m)

      tail_a : tail' (fwd a) ≡ T (fwd a)
      tail_a = ap tail' (sym (f_fwd H.parts)) ∙ H.tails (fwd h) in_f
          ∙ o.linked.starts (arc h s t) (Memᴰ.head refl)
          ∙ sym (with_other b n t _ (fwd a) a≢b ∙ with_fwd a s n _)

      tail_a' : tail' (bwd a) ≡ T (bwd a)
      tail_a' = H.tail_c ∙ sym (with_other b n t _ (bwd a) a≢b ∙ with_bwd a s n _)

      tail_b : tail' (fwd b) ≡ T (fwd b)
      tail_b = H.tail_d ∙ sym (with_fwd b n t _)

      tail_b' : tail' (bwd b) ≡ T (bwd b)
      tail_b' = ap tail' (sym (f_bwd H.parts)) ∙ H.tails (bwd h) in_b
          ∙ o.linked.ends (arc h s t) (Memᴰ.head refl)
          ∙ sym (with_bwd b n t _)

      tail_old : (z : Dart) → Memᴰ z (darts r) → tail' z ≡ T z
      tail_old z m = ap tail' (sym (f_old H.parts z m)) ∙ H.tails z (in_old m) ∙ ap tail (sym (τ-old z m))
          ∙ sym (with_other b n t _ z (old_d H.parts m) ∙ with_other a s n _ z (old_c H.parts m))

      face_a : face' (fwd a) ≡ F (fwd a)
      face_a = ap face' (sym (f_fwd H.parts)) ∙ H.faces (fwd h) in_f ∙ ap face (sym τ-f)
          ∙ sym (with_other b _ _ _ (fwd a) a≢b)

      face_a' : face' (bwd a) ≡ F (bwd a)
      face_a' = H.face_c ∙ ap face (sym τ-b) ∙ sym (with_other b _ _ _ (bwd a) a≢b)

      face_b : face' (fwd b) ≡ F (fwd b)
      face_b = H.face_d ∙ ap face (sym τ-f) ∙ sym (with_fwd b _ _ _)

      face_b' : face' (bwd b) ≡ F (bwd b)
      face_b' = ap face' (sym (f_bwd H.parts)) ∙ H.faces (bwd h) in_b ∙ ap face (sym τ-b) ∙ sym (with_bwd b _ _ _)

      face_old : (z : Dart) → Memᴰ z (darts r) → face' z ≡ F z
      face_old z m = ap face' (sym (f_old H.parts z m)) ∙ H.faces z (in_old m) ∙ ap face (sym (τ-old z m))
          ∙ sym (with_other b _ _ _ z (old_d H.parts m))

      -- what the old next becomes
      led : (z : Dart) → Memᴰ z (whole h r) → (y : Dart) → τ y ≡ z → f (next z) ≡ departs_as a b (σ (next (τ y)))
      led z m y e = departs_by (next z) (H.into z m) ∙ ap (λ x. departs_as a b (σ (next x))) (sym e)

      next_a : next' (fwd a) ≡ N (fwd a)
      next_a = H.next_c ∙ sym (with_fwd a _ _ _)

      next_a' : next' (bwd a) ≡ N (bwd a)
      next_a' = ap next' (sym (g_bwd H.parts)) ∙ H.nexts (bwd h) in_b
          ∙ led (bwd h) in_b (bwd a) τ-b ∙ sym (with_bwd a _ _ _)

      next_b : next' (fwd b) ≡ N (fwd b)
      next_b = ap next' (sym (g_fwd H.parts)) ∙ H.nexts (fwd h) in_f
          ∙ led (fwd h) in_f (fwd a) τ-f ∙ sym (with_other a _ _ _ (fwd b) (λ e. a≢b (sym e)) ∙ with_fwd b _ _ _)

      next_b' : next' (bwd b) ≡ N (bwd b)
      next_b' = H.next_d ∙ sym (with_other a _ _ _ (bwd b) (λ e. a≢b (sym e)) ∙ with_bwd b _ _ _)

      next_old : (z : Dart) → Memᴰ z (darts r) → next' z ≡ N z
      next_old z m = ap next' (sym (g_old H.parts z m)) ∙ H.nexts z (in_old m)
          ∙ led z (in_old m) z (τ-old z m)
          ∙ sym (with_other a _ _ _ z (old_c H.parts m) ∙ with_other b _ _ _ z (old_d H.parts m))
