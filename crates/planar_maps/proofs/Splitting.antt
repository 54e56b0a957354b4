-- An edge of a planar map is split at a new node. Assumes nothing.
use mathlib.Core.Path.{◌≡◌, refl, sym, ap, ◌∙◌, subst}
use mathlib.Core.Logic.{◌⊎◌, inl, inr}
use mathlib.Core.List.Memᴰ
use mathlib.Core.List.{List, ◌∷◌, map, map-map, Memᴰ}
use mathlib.Core.List.Permᴰ
use mathlib.Core.List.{Permᴰ}
use Prim.Native.Nat.{ℕ, zero, suc}
use Rattle.lists.proofs.Members.{each_two, map_cong, map_same}
use Rattle.planar_maps.specs.Map.{Arc, Dart, fwd, bwd, rev, darts, Linked}
use Rattle.planar_maps.specs.Pieces.{nums, Within, Isolated}
use Rattle.planar_maps.specs.Rings.{Leads, about_node, OneTurn}
use Rattle.planar_maps.specs.Weave.{with_edge, departs_as, split_tail, split_face_lem, split-next}
use Rattle.planar_maps.specs.Planar.{Planar}
use Rattle.planar_maps.proofs.Cycles.{fwd_in, bwd_in, each_dart}
use Rattle.planar_maps.proofs.Leads.{leads_through}
use Rattle.planar_maps.proofs.Rings.{rev_in, next_in_lem}
use Rattle.planar_maps.proofs.Hooks.{fresh_dart, with_fwd, with_bwd, with_other}
use Rattle.planar_maps.proofs.Subdivide.{arc, halves, halves_within, renamed_at, renamed-fwd, renamed_old}
use Rattle.planar_maps.proofs.Subdivide.{subdivide_keeps}
use Rattle.planar_maps.proofs.Euler.{euler_subdivide}

rev3 : {A : Type 0} {a b c a' b' c' : A} {k : List A} → a ≡ a' → b ≡ b' → c ≡ c'
    → Permᴰ (a ∷ b ∷ c ∷ k) (c' ∷ b' ∷ a' ∷ k)
rev3 p q r = Permᴰ.trans (Permᴰ.swap p q)
    (Permᴰ.trans (Permᴰ.cons refl (Permᴰ.swap refl r)) (Permᴰ.swap refl refl))

-- a dart departs from a node of the list
pub tail_in_lem : {nodes : List ℕ} {es : List Arc} {tail : Dart → ℕ} {next : Dart → Dart} {face : Dart → ℕ}
    → Linked es tail next face → Within nodes es → {d : Dart} → Memᴰ d (darts es) → Memᴰ (tail d) nodes
tail_in_lem {nodes} {es} {tail} l w {d} m = each_dart (λ d. Memᴰ (tail d) nodes) es
    (λ a k. Memᴰ.cast (l.starts a k) (w.starts a k)) (λ a k. Memᴰ.cast (l.ends a k) (w.ends a k)) d m

module _ (e e' s n t : ℕ) (es : List Arc) {nodes : List ℕ} {tail : Dart → ℕ} {next : Dart → Dart} {face : Dart
    → ℕ} {faces : ℕ}
    (o : Planar nodes (arc e s t ∷ es) tail next face faces) (fresh : Memᴰ e' (e ∷ nums es) → ⊥)
    (new : Memᴰ n nodes → ⊥) where
  abbrev f : Dart
  f = fwd e

  abbrev b : Dart
  b = bwd e

  abbrev f' : Dart
  f' = fwd e'

  abbrev b' : Dart
  b' = bwd e'

  abbrev σ : Dart → Dart
  σ = departs_as e e'

  abbrev T : Dart → ℕ
  T = split_tail e e' s n t tail

  abbrev F : Dart → ℕ
  F = split_face_lem e e' face

  abbrev N : Dart → Dart
  N = split-next e e' next

  abbrev W : List Dart
  W = darts (arc e s t ∷ es)

  abbrev H : List Dart
  H = darts (halves e e' s n t es)

  e≢e' : (e ≡ e') → ⊥
  e≢e' p = fresh (Memᴰ.head (sym p))

  e'≢e : (e' ≡ e) → ⊥
  e'≢e p = fresh (Memᴰ.head p)

  old_e : {d : Dart} → Memᴰ d (darts es) → (d.edge ≡ e) → ⊥
  old_e m p = fresh_dart (arc e s t) es o.edges_once.0 m p

  old_e' : {d : Dart} → Memᴰ d (darts es) → (d.edge ≡ e') → ⊥
  old_e' m p = fresh_dart (arc e' n t) es (λ i. fresh (Memᴰ.tail i)) m p

  -- the functions at each dart
  σ-f : σ f ≡ f
  σ-f = renamed-fwd e e' e

  σ-b : σ b ≡ b'
  σ-b = renamed_at e e'

  σ-old : {d : Dart} → Memᴰ d (darts es) → σ d ≡ d
  σ-old m = renamed_old e e' (old_e m)

  T-f : T f ≡ s
  T-f = with_other e' n t (with_edge e s n tail) (fwd e) e≢e' ∙ with_fwd e s n tail

  T-b : T b ≡ n
  T-b = with_other e' n t (with_edge e s n tail) (bwd e) e≢e' ∙ with_bwd e s n tail

  T-f' : T f' ≡ n
  T-f' = with_fwd e' n t (with_edge e s n tail)

  T-b' : T b' ≡ t
  T-b' = with_bwd e' n t (with_edge e s n tail)

  T-old : {d : Dart} → Memᴰ d (darts es) → T d ≡ tail d
  T-old {d} m = with_other e' n t (with_edge e s n tail) d (old_e' m) ∙ with_other e s n tail d (old_e m)

  F-W : (d : Dart) → Memᴰ d W → F d ≡ face d
  F-W = each_two (λ d. F d ≡ face d) (at f e≢e') (at b e≢e') (λ d m. at d (old_e' m))
    where
      at : (d : Dart) → ((d.edge ≡ e') → ⊥) → F d ≡ face d
      at d h = with_other e' (face (fwd e)) (face (bwd e)) face d h

  N-f : N f ≡ f'
  N-f = with_fwd e _ _ _

  N-b : N b ≡ σ (next b)
  N-b = with_bwd e _ _ _

  N-f' : N f' ≡ σ (next f)
  N-f' = with_other e _ _ _ (fwd e') e'≢e ∙ with_fwd e' _ _ _

  N-b' : N b' ≡ b
  N-b' = with_other e _ _ _ (bwd e') e'≢e ∙ with_bwd e' _ _ _

  N-old : (d : Dart) → Memᴰ d (darts es) → N d ≡ σ (next d)
  N-old d m = with_other e _ _ _ d (old_e m) ∙ with_other e' _ _ _ d (old_e' m)

  in_f : Memᴰ f W
  in_f = Memᴰ.head refl

  in_b : Memᴰ b W
  in_b = Memᴰ.tail (Memᴰ.head refl)

  in_old : {d : Dart} → Memᴰ d (darts es) → Memᴰ d W
  in_old m = Memᴰ.tail (Memᴰ.tail m)

  T-σ : (d : Dart) → Memᴰ d W → T (σ d) ≡ tail d
  T-σ = each_two (λ d. T (σ d) ≡ tail d) (ap T σ-f ∙ T-f ∙ sym (o.linked.starts (arc e s t) (Memᴰ.head refl)))
      (ap T σ-b ∙ T-b' ∙ sym (o.linked.ends (arc e s t) (Memᴰ.head refl))) (λ d m. ap T (σ-old m) ∙ T-old m)

  F-f' : F f' ≡ face f
  F-f' = with_fwd e' (face (fwd e)) (face (bwd e)) face

  F-b' : F b' ≡ face b
  F-b' = with_bwd e' (face (fwd e)) (face (bwd e)) face

  F-σ : (d : Dart) → Memᴰ d W → F (σ d) ≡ face d
  F-σ = each_two (λ d. F (σ d) ≡ face d) (ap F σ-f ∙ F-W f in_f) (ap F σ-b ∙ F-b')
      (λ d m. ap F (σ-old m) ∙ F-W d (in_old m))

  nxt : {d : Dart} → Memᴰ d W → Memᴰ (next d) W
  nxt m = next_in_lem o.linked m

  met : {d : Dart} → Memᴰ d W → T (σ (next d)) ≡ tail (rev d)
  met {d} m = T-σ (next d) (nxt m) ∙ o.linked.meets d m

  kept : {d : Dart} → Memᴰ d W → F (σ (next d)) ≡ face d
  kept {d} m = F-σ (next d) (nxt m) ∙ o.linked.keeps d m

  tail_f : tail f ≡ s
  tail_f = o.linked.starts (arc e s t) (Memᴰ.head refl)

  tail_b : tail b ≡ t
  tail_b = o.linked.ends (arc e s t) (Memᴰ.head refl)

  perm : Permᴰ (map N H) H
  perm = Permᴰ.trans (Permᴰ.cons N-f (rev3 N-b N-f' N-b'))
      (Permᴰ.trans (Permᴰ.cons refl (Permᴰ.cons refl middle)) (rev3 refl refl refl))
    where
      rest : map N (darts es) ≡ map σ (map next (darts es))
      rest = map_cong N (λ d. σ (next d)) (darts es) N-old ∙ sym (map-map σ next (darts es))

      moved : Permᴰ (σ (next f) ∷ σ (next b) ∷ map σ (map next (darts es))) (σ f ∷ σ b ∷ map σ (darts es))
      moved = Permᴰ.map σ o.linked.perm

      middle : Permᴰ (σ (next f) ∷ σ (next b) ∷ map N (darts es)) (f ∷ b' ∷ darts es)
      middle = subst (λ k. Permᴰ (σ (next f) ∷ σ (next b) ∷ k) (f ∷ b' ∷ darts es)) (sym rest)
          (subst (λ k. Permᴰ (σ (next f) ∷ σ (next b) ∷ map σ (map next (darts es))) k)
          (λ i. σ-f i ∷ σ-b i ∷ map_same σ (darts es) (λ d m. σ-old m) i) moved)

  halves_linked : Linked (halves e e' s n t es) T N F
  halves_linked = record {
    starts = each_two (λ a. T (fwd a.num) ≡ a.from) T-f T-f'
        (λ a m. T-old (fwd_in m) ∙ o.linked.starts a (Memᴰ.tail m));
    ends = each_two (λ a. T (bwd a.num) ≡ a.to) T-b T-b'
        (λ a m. T-old (bwd_in m) ∙ o.linked.ends a (Memᴰ.tail m));
    perm = perm;
    meets = let P : Dart → Type 0 = λ d. T (N d) ≡ T (rev d) in
        each_two P (ap T N-f ∙ T-f' ∙ sym T-b) (ap T N-b ∙ met in_b ∙ tail_f ∙ sym T-f)
        (each_two P (ap T N-f' ∙ met in_f ∙ tail_b ∙ sym T-b') (ap T N-b' ∙ T-b ∙ sym T-f')
        (λ d m. ap T (N-old d m) ∙ met (in_old m) ∙ sym (T-old (rev_in es m))));
    keeps = let P : Dart → Type 0 = λ d. F (N d) ≡ F d in
        each_two P (ap F N-f ∙ F-f' ∙ sym (F-W f in_f)) (ap F N-b ∙ kept in_b ∙ sym (F-W b in_b))
        (each_two P (ap F N-f' ∙ kept in_f ∙ sym F-f') (ap F N-b' ∙ F-W b in_b ∙ sym F-b')
        (λ d m. ap F (N-old d m) ∙ kept (in_old m) ∙ sym (F-W d (in_old m))));
  }

  -- the turn is the old one, renamed; about n there are just -e and e'
  turned : (d : Dart) → Memᴰ d W → about_node N (σ d) ≡ σ (about_node next d)
  turned = each_two (λ d. about_node N (σ d) ≡ σ (about_node next d)) (ap (about_node N) σ-f ∙ N-b)
      (ap (about_node N) σ-b ∙ N-f')
      (λ d m. ap (about_node N) (σ-old m) ∙ N-old (rev d) (rev_in es m))

  abbrev Kind : Dart → Type 0
  Kind d = ((c : Dart) × Memᴰ c W × (d ≡ σ c)) ⊎ ((d ≡ b) ⊎ (d ≡ f'))

  kind : (d : Dart) → Memᴰ d H → Kind d
  kind = each_two Kind (inl (f, in_f, sym σ-f)) (inr (inl refl))
      (each_two Kind (inr (inr refl)) (inl (b, in_b, sym σ-b))
      (λ d m. inl (d, in_old m, sym (σ-old m))))

  not_n : {c : Dart} → Memᴰ c W → (tail c ≡ n) → ⊥
  not_n m p = new (Memᴰ.cast (sym p) (tail_in_lem o.linked o.within m))

  at_n : {d : Dart} → (d ≡ b) ⊎ (d ≡ f') → T d ≡ n
  at_n (inl p) = ap T p ∙ T-b
  at_n (inr p) = ap T p ∙ T-f'

  about_n : (d d' : Dart) → (d ≡ b) ⊎ (d ≡ f') → (d' ≡ b) ⊎ (d' ≡ f') → Leads (about_node N) d d'
  about_n d d' (inl p) (inl q) = (zero, p ∙ sym q)
  about_n d d' (inl p) (inr q) = (suc zero, ap (about_node N) p ∙ N-f ∙ sym q)
  about_n d d' (inr p) (inl q) = (suc zero, ap (about_node N) p ∙ N-b' ∙ sym q)
  about_n d d' (inr p) (inr q) = (zero, p ∙ sym q)

  halves_turn : OneTurn (halves e e' s n t es) T N
  halves_turn d d' m m' q = go (kind d m) (kind d' m')
    where
      go : Kind d → Kind d' → Leads (about_node N) d d'
      go (inr p) (inr p') = about_n d d' p p'
      go (inr p) (inl r) = absurd (not_n r.1 (sym (T-σ r.0 r.1) ∙ ap T (sym r.2) ∙ sym q ∙ at_n p))
      go (inl r) (inr p) = absurd (not_n r.1 (sym (T-σ r.0 r.1) ∙ ap T (sym r.2) ∙ q ∙ at_n p))
      go (inl r) (inl r') = rw (r.2, r'.2)
          (leads_through (about_node next) (about_node N) σ W (λ c k. nxt (rev_in (arc e s t ∷ es) k))
          (λ c k. (suc zero, turned c k)) r.1 (o.one-turn r.0 r'.0 r.1 r'.1
          (sym (T-σ r.0 r.1) ∙ ap T (sym r.2) ∙ q ∙ ap T r'.2 ∙ T-σ r'.0 r'.1)))

  pub planar_subdivide : Planar (n ∷ nodes) (arc e s n ∷ arc e' n t ∷ es) (split_tail e e' s n t tail)
      (split-next e e' next) (split_face_lem e e' face) faces
  planar_subdivide = record {
    nodes_once = (new, o.nodes_once);
    edges_once = (
      λ m. elim (Memᴰ.cases_cons m) [ inl p ↦ e≢e' p | inr k ↦ o.edges_once.0 k ],
      (λ m. fresh (Memᴰ.tail m), o.edges_once.1),
    );
    within = halves_within e e' s n t es o.within;
    linked = halves_linked;
    one-turn = halves_turn;
    colouring = subdivide_keeps e e' s n t es lone s≢n t≢n face F (record { others = F-W; left = F-f'; right = F-b' })
        o.colouring;
    euler = (euler_subdivide e e' s n t es nodes faces lone s≢n t≢n (new, o.nodes_once) o.within).0 o.euler;
  }
    where
      lone : Isolated n es
      lone = record {
        starts = λ a m p. new (Memᴰ.cast (sym p) (o.within.starts a (Memᴰ.tail m)));
        ends = λ a m p. new (Memᴰ.cast (sym p) (o.within.ends a (Memᴰ.tail m)));
      }

      s≢n : (s ≡ n) → ⊥
      s≢n p = new (Memᴰ.cast (sym p) (o.within.starts (arc e s t) (Memᴰ.head refl)))

      t≢n : (t ≡ n) → ⊥
      t≢n p = new (Memᴰ.cast (sym p) (o.within.ends (arc e s t) (Memᴰ.head refl)))
