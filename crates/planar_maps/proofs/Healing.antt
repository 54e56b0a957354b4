-- Two edges that meet at a node where nothing else is are healed to one. Assumes nothing.
use mathlib.Core.Path.{◌≡◌, refl, sym, ap, ◌∙◌, subst}
use mathlib.Core.Logic.{◌⊎◌, inl, inr}
use mathlib.Core.List.Memᴰ
use mathlib.Core.List.{List, ◌∷◌, map, map-map, Memᴰ}
use mathlib.Core.List.Permᴰ
use mathlib.Core.List.{Permᴰ}
use Prim.Native.Nat.{ℕ, zero, suc, ◌≤◌}
use native.Mathlib.Omega.{arith}
use lib.ListN.{length, length-map}
use Rattle.lists.specs.Members.{Distinct}
use Rattle.lists.proofs.Members.{each-cons, each_two, in_rest, map_cong, map_same}
use Rattle.lists.proofs.Perms.{perm_of_distinct, distinct_map, injective_of_perm}
use Rattle.planar_maps.specs.Map.{Arc, Dart, fwd, bwd, rev, darts, Linked}
use Rattle.planar_maps.specs.Pieces.{Within, Isolated}
use Rattle.planar_maps.specs.Rings.{Leads, about_node, OneTurn}
use Rattle.planar_maps.specs.Weave.{with_edge, departs_as, arrives_as, heal-next}
use Rattle.planar_maps.specs.Planar.{Planar}
use Rattle.planar_maps.proofs.Cycles.{fwd_in, bwd_in, each_dart}
use Rattle.planar_maps.proofs.Rings.{rev_in, next_in_lem, same_dart_refl}
use Rattle.planar_maps.proofs.Hooks.{same_dart-false, fwd≢bwd, fresh_dart, distinct_darts, with_fwd, with_bwd}
use Rattle.planar_maps.proofs.Hooks.{with_other}
use Rattle.planar_maps.proofs.Leads.{leads_keep, leads_through}
use Rattle.planar_maps.proofs.Subdivide.{arc, halves, renamed_at, renamed-fwd, renamed_old, heal_keeps}
use Rattle.planar_maps.proofs.Euler.{euler_subdivide}

pub healed_at : (e e' : ℕ) → arrives_as e e' (fwd e) ≡ fwd e'
unfolding arrives_as
healed_at e e' = rw (same_dart_refl (fwd e))

pub healed_other : (e e' : ℕ) (d : Dart) → ((d ≡ fwd e) → ⊥) → arrives_as e e' d ≡ d
unfolding arrives_as
healed_other e e' d h = rw (same_dart-false d (fwd e) h)

module _ (e e' s n t : ℕ) (es : List Arc) {nodes : List ℕ} {tail : Dart → ℕ} {next : Dart → Dart} {face : Dart
    → ℕ} {faces : ℕ}
    (o : Planar (n ∷ nodes) (arc e s n ∷ arc e' n t ∷ es) tail next face faces) (lone : Isolated n es)
    (s≢n : (s ≡ n) → ⊥) (t≢n : (t ≡ n) → ⊥) where
  abbrev f : Dart
  f = fwd e

  abbrev b : Dart
  b = bwd e

  abbrev f' : Dart
  f' = fwd e'

  abbrev b' : Dart
  b' = bwd e'

  abbrev H : List Dart
  H = darts (halves e e' s n t es)

  abbrev W : List Dart
  W = darts (arc e s t ∷ es)

  abbrev T : Dart → ℕ
  T = with_edge e s t tail

  -- arriving and departing darts of the healed map, as darts of the old one; and back
  abbrev ρ : Dart → Dart
  ρ = arrives_as e e'

  abbrev σ : Dart → Dart
  σ = departs_as e e'

  abbrev τ : Dart → Dart
  τ = departs_as e' e

  abbrev N : Dart → Dart
  N = heal-next e e' next

  e≢e' : (e ≡ e') → ⊥
  e≢e' p = o.edges_once.0 (Memᴰ.head p)

  old_e : {d : Dart} → Memᴰ d (darts es) → (d.edge ≡ e) → ⊥
  old_e m p = fresh_dart (arc e s t) es (λ i. o.edges_once.0 (Memᴰ.tail i)) m p

  old_e' : {d : Dart} → Memᴰ d (darts es) → (d.edge ≡ e') → ⊥
  old_e' m p = fresh_dart (arc e' n t) es o.edges_once.1.0 m p

  edge-≢ : {c d : Dart} → ((c.edge ≡ d.edge) → ⊥) → (c ≡ d) → ⊥
  edge-≢ h p = h (ap (λ (d : Dart). d.edge) p)

  in_f : Memᴰ f H
  in_f = Memᴰ.head refl

  in_b : Memᴰ b H
  in_b = Memᴰ.tail (Memᴰ.head refl)

  in_f' : Memᴰ f' H
  in_f' = Memᴰ.tail (Memᴰ.tail (Memᴰ.head refl))

  in_b' : Memᴰ b' H
  in_b' = Memᴰ.tail (Memᴰ.tail (Memᴰ.tail (Memᴰ.head refl)))

  in_old : {d : Dart} → Memᴰ d (darts es) → Memᴰ d H
  in_old m = Memᴰ.tail (Memᴰ.tail (Memᴰ.tail (Memᴰ.tail m)))

  tail_f : tail f ≡ s
  tail_f = o.linked.starts (arc e s n) (Memᴰ.head refl)

  tail_b : tail b ≡ n
  tail_b = o.linked.ends (arc e s n) (Memᴰ.head refl)

  tail_f' : tail f' ≡ n
  tail_f' = o.linked.starts (arc e' n t) (Memᴰ.tail (Memᴰ.head refl))

  tail_b' : tail b' ≡ t
  tail_b' = o.linked.ends (arc e' n t) (Memᴰ.tail (Memᴰ.head refl))

  tail_old : (d : Dart) → Memᴰ d (darts es) → (tail d ≡ n) → ⊥
  tail_old = each_dart (λ d. (tail d ≡ n) → ⊥) es
      (λ a k p. lone.starts a k (sym (o.linked.starts a (Memᴰ.tail (Memᴰ.tail k))) ∙ p))
      (λ a k p. lone.ends a k (sym (o.linked.ends a (Memᴰ.tail (Memᴰ.tail k))) ∙ p))

  at_n : (d : Dart) → Memᴰ d H → tail d ≡ n → (d ≡ b) ⊎ (d ≡ f')
  at_n = each_two At (λ p. absurd (s≢n (sym tail_f ∙ p))) (λ p. inl refl)
      (each_two At (λ p. inr refl) (λ p. absurd (t≢n (sym tail_b' ∙ p))) (λ d m p. absurd (tail_old d m p)))
    where
      At : Dart → Type 0
      At d = tail d ≡ n → (d ≡ b) ⊎ (d ≡ f')

  stuck : (c d : Dart) → Memᴰ c H → Memᴰ d H → tail c ≡ tail d → next (rev c) ≡ c → d ≡ c
  stuck c d m m' p q = leads_keep (λ x. x ≡ c) (about_node next) (λ x r. ap (about_node next) r ∙ q) refl
      (o.one-turn c d m m' p)

  nxt : {d : Dart} → Memᴰ d H → Memᴰ (next d) H
  nxt m = next_in_lem o.linked m

  met : {d : Dart} → Memᴰ d H → tail (next d) ≡ tail (rev d)
  met {d} m = o.linked.meets d m

  kept : {d : Dart} → Memᴰ d H → face (next d) ≡ face d
  kept {d} m = o.linked.keeps d m

  next_f : next f ≡ f'
  next_f = elim (at_n (next f) (nxt in_f) (met in_f ∙ tail_b)) [
    | inl q ↦ absurd
        (fwd≢bwd (stuck b f' in_b in_f' (tail_b ∙ sym tail_f') q))
    | inr q ↦ q
  ]

  next_b' : next b' ≡ b
  next_b' = elim (at_n (next b') (nxt in_b') (met in_b' ∙ tail_f')) [
    | inl q ↦ q
    | inr q ↦ absurd
        (fwd≢bwd (sym (stuck f' b in_f' in_b (tail_f' ∙ sym tail_b) q)))
  ]

  inj : (c d : Dart) → Memᴰ c H → Memᴰ d H → next c ≡ next d → c ≡ d
  inj = injective_of_perm next H (distinct_darts (halves e e' s n t es) o.edges_once) o.linked.perm

  -- the darts that arrive, and those that depart, other than at n
  abbrev A : List Dart
  A = f' ∷ b ∷ darts es

  abbrev B : List Dart
  B = f ∷ b' ∷ darts es

  A-in : (d : Dart) → Memᴰ d A → Memᴰ d H
  A-in = each_two (λ d. Memᴰ d H) in_f' in_b (λ d m. in_old m)

  B-in : (d : Dart) → Memᴰ d B → Memᴰ d H
  B-in = each_two (λ d. Memᴰ d H) in_f in_b' (λ d m. in_old m)

  not_b' : (d : Dart) → Memᴰ d A → (d ≡ b') → ⊥
  not_b' = each_two (λ d. (d ≡ b') → ⊥) fwd≢bwd (edge-≢ e≢e') (λ d m. edge-≢ (old_e' m))

  not_f : (d : Dart) → Memᴰ d A → (d ≡ f) → ⊥
  not_f = each_two (λ d. (d ≡ f) → ⊥) (edge-≢ (λ p. e≢e' (sym p))) (λ p. fwd≢bwd (sym p)) (λ d m. edge-≢ (old_e m))

  next-A : (d : Dart) → Memᴰ d A → Memᴰ (next d) B
  next-A d m = each_two Departs (λ p q. Memᴰ.head refl) (λ p q. absurd (p refl))
      (each_two Departs (λ p q. absurd (q refl)) (λ p q. Memᴰ.tail (Memᴰ.head refl))
      (λ x k p q. Memᴰ.tail (Memᴰ.tail k)))
      (next d) (nxt (A-in d m)) (λ p. not_b' d m (inj d b' (A-in d m) in_b' (p ∙ sym next_b')))
      (λ p. not_f d m (inj d f (A-in d m) in_f (p ∙ sym next_f)))
    where
      Departs : Dart → Type 0
      Departs x = ((x ≡ b) → ⊥) → ((x ≡ f') → ⊥) → Memᴰ x B

  distinct_A : Distinct A
  distinct_A = (
    λ m. elim (Memᴰ.cases_cons m) [ inl p ↦ fwd≢bwd p | inr k ↦ old_e' k refl ],
    (λ m. old_e m refl, distinct_darts es o.edges_once.1.1),
  )

  perm_A : Permᴰ (map next A) B
  perm_A = perm_of_distinct (map next A) B
      (distinct_map next A distinct_A (λ c d m k. inj c d (A-in c m) (A-in d k))) inside (lengths (length-map A next))
    where
      lengths : length (map next A) ≡ length A → length B ≤ length (map next A)
      lengths q = omega arith

      inside : (x : Dart) → Memᴰ x (map next A) → Memᴰ x B
      inside x m = go (Memᴰ.of_map next A m)
        where
          go : (d : Dart) × Memᴰ d A × (next d ≡ x) → Memᴰ x B
          go r = Memᴰ.cast (sym r.2) (next-A r.0 r.1)

  -- the functions at each dart
  ρ-f : ρ f ≡ f'
  ρ-f = healed_at e e'

  ρ-b : ρ b ≡ b
  ρ-b = healed_other e e' (bwd e) (λ p. fwd≢bwd (sym p))

  ρ-old : (d : Dart) → Memᴰ d (darts es) → ρ d ≡ d
  ρ-old d m = healed_other e e' d (edge-≢ (old_e m))

  σ-f : σ f ≡ f
  σ-f = renamed-fwd e e' e

  σ-b : σ b ≡ b'
  σ-b = renamed_at e e'

  σ-old : (d : Dart) → Memᴰ d (darts es) → σ d ≡ d
  σ-old d m = renamed_old e e' (old_e m)

  τ-f : τ f ≡ f
  τ-f = renamed-fwd e' e e

  τ-b' : τ b' ≡ b
  τ-b' = renamed_at e' e

  τ-old : (d : Dart) → Memᴰ d (darts es) → τ d ≡ d
  τ-old d m = renamed_old e' e (old_e' m)

  T-f : T f ≡ s
  T-f = with_fwd e s t tail

  T-b : T b ≡ t
  T-b = with_bwd e s t tail

  T-old : (d : Dart) → Memᴰ d (darts es) → T d ≡ tail d
  T-old d m = with_other e s t tail d (old_e m)

  ρ-A : (d : Dart) → Memᴰ d W → Memᴰ (ρ d) A
  ρ-A = each_two (λ d. Memᴰ (ρ d) A) (Memᴰ.head ρ-f) (Memᴰ.tail (Memᴰ.head ρ-b))
      (λ d m. Memᴰ.tail (Memᴰ.tail (Memᴰ.cast (ρ-old d m) m)))

  σ-B : (d : Dart) → Memᴰ d W → Memᴰ (σ d) B
  σ-B = each_two (λ d. Memᴰ (σ d) B) (Memᴰ.head σ-f) (Memᴰ.tail (Memᴰ.head σ-b))
      (λ d m. Memᴰ.tail (Memᴰ.tail (Memᴰ.cast (σ-old d m) m)))

  T-τ : (x : Dart) → Memᴰ x B → T (τ x) ≡ tail x
  T-τ = each_two (λ x. T (τ x) ≡ tail x) (ap T τ-f ∙ T-f ∙ sym tail_f) (ap T τ-b' ∙ T-b ∙ sym tail_b')
      (λ d m. ap T (τ-old d m) ∙ T-old d m)

  face_b : face b' ≡ face b
  face_b = sym (kept in_b') ∙ ap face next_b'

  face_f : face f' ≡ face f
  face_f = ap face (sym next_f) ∙ kept in_f

  face-τ : (x : Dart) → Memᴰ x B → face (τ x) ≡ face x
  face-τ = each_two (λ x. face (τ x) ≡ face x) (ap face τ-f) (ap face τ-b' ∙ sym face_b) (λ d m. ap face (τ-old d m))

  face-ρ : (d : Dart) → Memᴰ d W → face (ρ d) ≡ face d
  face-ρ = each_two (λ d. face (ρ d) ≡ face d) (ap face ρ-f ∙ face_f) (ap face ρ-b) (λ d m. ap face (ρ-old d m))

  T-ρ : (d : Dart) → Memᴰ d W → tail (rev (ρ d)) ≡ T (rev d)
  T-ρ = each_two (λ d. tail (rev (ρ d)) ≡ T (rev d)) (ap (λ d. tail (rev d)) ρ-f ∙ tail_b' ∙ sym T-b)
      (ap (λ d. tail (rev d)) ρ-b ∙ tail_f ∙ sym T-f)
      (λ d m. ap (λ d. tail (rev d)) (ρ-old d m) ∙ sym (T-old (rev d) (rev_in es m)))

  T-σ : (d : Dart) → Memᴰ d W → tail (σ d) ≡ T d
  T-σ = each_two (λ d. tail (σ d) ≡ T d) (ap tail σ-f ∙ tail_f ∙ sym T-f) (ap tail σ-b ∙ tail_b' ∙ sym T-b)
      (λ d m. ap tail (σ-old d m) ∙ sym (T-old d m))

  τ-σ : (d : Dart) → Memᴰ d W → τ (σ d) ≡ d
  τ-σ = each_two (λ d. τ (σ d) ≡ d) (ap τ σ-f ∙ τ-f) (ap τ σ-b ∙ τ-b') (λ d m. ap τ (σ-old d m) ∙ τ-old d m)

  ρ-rev : (x : Dart) → Memᴰ x B → ρ (rev (τ x)) ≡ rev x
  ρ-rev = each_two (λ x. ρ (rev (τ x)) ≡ rev x) (ap (λ d. ρ (rev d)) τ-f ∙ ρ-b) (ap (λ d. ρ (rev d)) τ-b' ∙ ρ-f)
      (λ d m. ap (λ d. ρ (rev d)) (τ-old d m) ∙ ρ-old (rev d) (rev_in es m))

  rev-A : (x : Dart) → Memᴰ x B → Memᴰ (rev x) A
  rev-A = each_two (λ x. Memᴰ (rev x) A) (Memᴰ.tail (Memᴰ.head refl)) (Memᴰ.head refl)
      (λ d m. Memᴰ.tail (Memᴰ.tail (rev_in es m)))

  N-perm : Permᴰ (map N W) W
  N-perm = subst (λ k. Permᴰ k W) (sym left)
      (subst (λ k. Permᴰ (map τ (map next A)) k) right (Permᴰ.map τ perm_A))
    where
      left : map N W ≡ map τ (map next A)
      left = λ i. τ (next (ρ-f i)) ∷ τ (next (ρ-b i))
          ∷ (map_cong N (λ d. τ (next d)) (darts es) (λ d m. ap (λ x. τ (next x)) (ρ-old d m))
          ∙ sym (map-map τ next (darts es))) i

      right : map τ B ≡ W
      right = λ i. τ-f i ∷ τ-b' i ∷ map_same τ (darts es) τ-old i

  healed_linked : Linked (arc e s t ∷ es) T N face
  healed_linked = record {
    starts = each-cons {p = λ a. T (fwd a.num) ≡ a.from} T-f
        (λ a m. T-old (fwd a.num) (fwd_in m) ∙ o.linked.starts a (Memᴰ.tail (Memᴰ.tail m)));
    ends = each-cons {p = λ a. T (bwd a.num) ≡ a.to} T-b
        (λ a m. T-old (bwd a.num) (bwd_in m) ∙ o.linked.ends a (Memᴰ.tail (Memᴰ.tail m)));
    perm = N-perm;
    meets = λ d m. T-τ (next (ρ d)) (next-A (ρ d) (ρ-A d m)) ∙ met (A-in (ρ d) (ρ-A d m)) ∙ T-ρ d m;
    keeps = λ d m. face-τ (next (ρ d)) (next-A (ρ d) (ρ-A d m)) ∙ kept (A-in (ρ d) (ρ-A d m)) ∙ face-ρ d m;
  }

  healed_turn : OneTurn (arc e s t ∷ es) T N
  healed_turn d d' m m' q = subst (λ c. Leads (about_node N) c d') (τ-σ d m)
      (subst (λ c. Leads (about_node N) (τ (σ d)) c) (τ-σ d' m')
      (leads_through (about_node next) (about_node N) τ B (λ x k. next-A (rev x) (rev-A x k))
      (λ x k. (suc zero, ap (λ y. τ (next y)) (ρ-rev x k))) (σ-B d m)
      (o.one-turn (σ d) (σ d') (B-in (σ d) (σ-B d m)) (B-in (σ d') (σ-B d' m'))
      (T-σ d m ∙ q ∙ sym (T-σ d' m')))))

  pub planar_heal : Planar nodes (arc e s t ∷ es) (with_edge e s t tail) (heal-next e e' next) face faces
  planar_heal = record {
    nodes_once = o.nodes_once.1;
    edges_once = (λ m. o.edges_once.0 (Memᴰ.tail m), o.edges_once.1.1);
    within = within;
    linked = healed_linked;
    one-turn = healed_turn;
    colouring = heal_keeps e e' s n t es face face (record { others = λ d m. refl; left = face_f; right = face_b })
        o.edges_once o.colouring;
    euler = (euler_subdivide e e' s n t es nodes faces lone s≢n t≢n o.nodes_once within).1 o.euler;
  }
    where
      within : Within nodes (arc e s t ∷ es)
      within = record {
        starts = each-cons {p = λ a. Memᴰ a.from nodes}
            (in_rest s≢n (o.within.starts (arc e s n) (Memᴰ.head refl)))
            (λ a m. in_rest (lone.starts a m) (o.within.starts a (Memᴰ.tail (Memᴰ.tail m))));
        ends = each-cons {p = λ a. Memᴰ a.to nodes}
            (in_rest t≢n (o.within.ends (arc e' n t) (Memᴰ.tail (Memᴰ.head refl))))
            (λ a m. in_rest (lone.ends a m) (o.within.ends a (Memᴰ.tail (Memᴰ.tail m))));
      }
