-- An edge is taken out. Assumes nothing.
use mathlib.Core.Path.{◌≡◌, refl, sym, ap, ◌∙◌, subst}
use mathlib.Core.Logic.{inl, inr}
use mathlib.Core.Bool.{cond}
use mathlib.Core.List.Memᴰ
use mathlib.Core.List.{List, ◌∷◌, Memᴰ}
use mathlib.Core.List.Permᴰ
use Prim.Native.Nat.{ℕ, zero, suc}
use Rattle.lists.specs.Members.{Distinct}
use Rattle.lists.proofs.Members.{each-cons, in_rest}
use Rattle.lists.proofs.Perms.{perm_in, perm_of_injective, injective_of_perm}
use Rattle.planar_maps.specs.Map.{Arc, Dart, fwd, bwd, rev, darts, Linked}
use Rattle.planar_maps.specs.Pieces.{nums, Within, Euler}
use Rattle.planar_maps.specs.Rings.{same_dart, Leads, about_node, Round}
use Rattle.planar_maps.specs.Weave.{exchange, Corner, alone, after, tie, CornerHolds}
use Rattle.planar_maps.specs.Planar.{Planar}
use Rattle.planar_maps.proofs.Bridges.{Shrunk, shrunk_keeps}
use Rattle.planar_maps.proofs.Leads.{leads_through}
use Rattle.planar_maps.proofs.Rings.{rev_in, next_in_lem, same_dart_refl}
use Rattle.planar_maps.proofs.Hooks.{sameDart?, same_dart-false, fwd≢bwd, fresh_dart, distinct_darts}
use Rattle.planar_maps.proofs.Hooks.{exchange-left, exchange_right, exchange_other, exchange_by, exchange_alike}
use Rattle.planar_maps.proofs.Hooks.{exchange_in, hook-linked}
use Rattle.planar_maps.proofs.Turns.{rev-rev, Turning, turning, exchange-rev}
use Rattle.planar_maps.proofs.Euler.{euler_split, euler_one_face}

-- ---- a departure y is taken out; it came after x

module _ {ds : List Dart} {tail : Dart → ℕ} {f : Dart → Dart} (y : Dart) (t : Turning (y ∷ ds) tail f)
    (new : (d : Dart) → Memᴰ d ds → (d ≡ y) → ⊥)
    (x : Dart) (mx : Memᴰ x (y ∷ ds)) (x_y : f x ≡ y)
    (only : (d : Dart) → Memᴰ d (y ∷ ds) → f d ≡ y → d ≡ x) where
  φ : Dart → Dart
  φ d = cond (same_dart d y) (f y) d

  φ-y : φ y ≡ f y
  unfolding φ
  φ-y = rw (same_dart_refl y)

  φ-other : (d : Dart) → ((d ≡ y) → ⊥) → φ d ≡ d
  unfolding φ
  φ-other d h = rw (same_dart-false d y h)

  f' : Dart → Dart
  f' d = f (exchange x y d)

  step : (d : Dart) → Memᴰ d (y ∷ ds) → Leads f' (φ d) (φ (f d))
  unfolding f'
  step d m = elim (sameDart? d y) [
    | inl e ↦ rw e (zero, φ-y ∙ elim (sameDart? (f y) y) [ inl q ↦ sym (ap φ q ∙ φ-y) | inr q ↦ sym (φ-other (f y) q) ])
    | inr n ↦ elim (sameDart? d x) [
      | inl e ↦ (suc zero, ap f' (φ-other d n ∙ e) ∙ ap f (exchange-left x y) ∙ sym φ-y ∙ ap φ (sym x_y ∙ ap f (sym e)))
      | inr k ↦ (
        suc zero,
        ap f' (φ-other d n) ∙ ap f (exchange_other x y d k n)
            ∙ sym (φ-other (f d) (λ q. k (only d m q))),
      )
    ]
  ]

  delete : Turning ds tail (λ d. f (exchange x y d))
  unfolding f'
  delete = record {
    into = exchange_by (λ d c. Memᴰ d ds → Memᴰ (f c) ds) x y
        (λ m. in_rest (λ q. new x m (sym (only y (Memᴰ.head refl) q))) (t.into y (Memᴰ.head refl)))
        (λ m. absurd (new y m refl))
        (λ d n k m. in_rest (λ q. n (only d (Memᴰ.tail m) q)) (t.into d (Memᴰ.tail m)));
    stays = λ d m. t.stays (exchange x y d) (exchange_in x y mx (Memᴰ.head refl) d (Memᴰ.tail m))
        ∙ exchange_alike tail x y (sym (t.stays x mx) ∙ ap tail x_y) d;
    round = round;
  }
    where
      round : Round ds tail f'
      round d d' m m' e = subst (λ c. Leads f' c d') (φ-other d (new d m))
          (subst (λ c. Leads f' (φ d) c) (φ-other d' (new d' m'))
          (leads_through f f' φ (y ∷ ds) t.into step (Memᴰ.tail m)
          (t.round d d' (Memᴰ.tail m) (Memᴰ.tail m') e)))

exchange-same : (y d : Dart) → exchange y y d ≡ d
exchange-same y = exchange_by (λ d c. c ≡ d) y y refl refl (λ d p q. refl)

module _ (N : Dart → Dart) (es : List Arc)
    (inj : (c d : Dart) → Memᴰ c (darts es) → Memᴰ d (darts es) → N c ≡ N d → c ≡ d) (ds : List Dart)
    (tail : Dart → ℕ) (z : Dart) (mz : Memᴰ z (darts es))
    (sub : (d : Dart) → Memᴰ d (rev z ∷ ds) → Memᴰ d (darts es)) (t : Turning (rev z ∷ ds) tail (about_node N))
    (new : (d : Dart) → Memᴰ d ds → (d ≡ rev z) → ⊥) where
  only : (p : Dart) → Memᴰ p (darts es) → N p ≡ rev z → (d : Dart) → Memᴰ d (rev z ∷ ds) → about_node N d
      ≡ rev z
      → d ≡ rev p
  only p mp e d m q = sym (rev-rev d) ∙ ap rev (inj (rev d) p (rev_in es (sub d m)) mp (q ∙ sym e))

  untie_turning : (k : Corner) → CornerHolds (darts es) z N k
      → ((p : Dart) → N p ≡ rev z → Memᴰ p (darts es) → Memᴰ (rev p) (rev z ∷ ds))
      → Turning ds tail (about_node (tie k z N))
  untie_turning alone e there = subst (λ f. Turning ds tail f) (λ i d. about_node N (exchange-same (rev z) d i))
      (delete (rev z) t new (rev z) (Memᴰ.head refl) (ap N (rev-rev z) ∙ e) (only z mz e))
  untie_turning (after p) h there = subst (λ f. Turning ds tail f) (λ i d. N (sym (exchange-rev p z d) i))
      (delete (rev z) t new (rev p) (there p h.1 h.0) (ap N (rev-rev p) ∙ h.1) (only p h.0 h.1))

untie_linked : {es : List Arc} {tail : Dart → ℕ} {next : Dart → Dart} {face : Dart → ℕ} → Linked es tail next face
    → Distinct (nums es) → (z : Dart) → Memᴰ z (darts es) → face (rev z) ≡ face z
    → (k : Corner) → CornerHolds (darts es) z next k → Linked es tail (tie k z next) face
untie_linked l dis z m f alone h = l
untie_linked {es} {tail} {next} {face} l dis z m f (after p) h =
    hook-linked l dis p z h.0 m (sym (l.meets p h.0) ∙ ap tail h.1)
    (sym (l.keeps p h.0) ∙ ap face h.1 ∙ f)

untied : (ds : List Dart) (z : Dart) (next : Dart → Dart) (k : Corner) → CornerHolds ds z next k → tie k z next z
    ≡ rev z
untied ds z next alone h = h
untied ds z next (after p) h = ap next (exchange_right p z) ∙ h.1

-- such a corner there is
corner : {es : List Arc} {tail : Dart → ℕ} {next : Dart → Dart} {face : Dart → ℕ} → Linked es tail next face
    → (z : Dart) → Memᴰ z (darts es) → (k : Corner) × CornerHolds (darts es) z next k
corner {es} {next = next} l z m = (after r.0, (r.1, r.2))
  where
    r : (p : Dart) × Memᴰ p (darts es) × (next p ≡ rev z)
    r = Memᴰ.of_map next (darts es) (perm_in (Permᴰ.symm l.perm) (rev_in es m))

-- an edge whose ways go on as one another can be left out
restrict : (a : Arc) (es : List Arc) {tail : Dart → ℕ} {N : Dart → Dart} {face : Dart → ℕ}
    → Linked (a ∷ es) tail N face → Distinct (nums (a ∷ es)) → N (fwd a.num) ≡ bwd a.num → N (bwd a.num)
    ≡ fwd a.num → Linked es tail N face
restrict a es {N = N} l dis nf nb = record {
  starts = λ b m. l.starts b (Memᴰ.tail m);
  ends = λ b m. l.ends b (Memᴰ.tail m);
  perm = perm_of_injective N (darts es) (distinct_darts es dis.1) into (λ c d m n. inj c d (more m) (more n));
  meets = λ d m. l.meets d (more m);
  keeps = λ d m. l.keeps d (more m);
}
  where
    more : {d : Dart} → Memᴰ d (darts es) → Memᴰ d (darts (a ∷ es))
    more m = Memᴰ.tail (Memᴰ.tail m)

    inj : (c d : Dart) → Memᴰ c (darts (a ∷ es)) → Memᴰ d (darts (a ∷ es)) → N c ≡ N d → c ≡ d
    inj = injective_of_perm N (darts (a ∷ es)) (distinct_darts (a ∷ es) dis) l.perm

    other : (d z : Dart) → Memᴰ d (darts es) → Memᴰ z (darts (a ∷ es)) → z.edge ≡ a.num → (N d ≡ N z) → ⊥
    other d z m mz e q = fresh_dart a es dis.0 m (ap (λ (d : Dart). d.edge) (inj d z (more m) mz q) ∙ e)

    into : (d : Dart) → Memᴰ d (darts es) → Memᴰ (N d) (darts es)
    into d m = in_rest (λ q. other d (fwd a.num) m (Memᴰ.head refl) refl (q ∙ sym nf))
        (in_rest (λ q. other d (bwd a.num) m (Memᴰ.tail (Memᴰ.head refl)) refl (q ∙ sym nb))
        (next_in_lem l (more m)))

-- ---- the edge a is taken out of its corners k' and k; μ makes its two faces one

module _ {nodes : List ℕ} {a : Arc} {es : List Arc} {tail : Dart → ℕ} {next : Dart → Dart} {face : Dart
    → ℕ} {faces : ℕ} (planar : Planar nodes (a ∷ es) tail next face faces)
    (k k' : Corner) (holds' : CornerHolds (darts (a ∷ es)) (fwd a.num) next k')
    (holds : CornerHolds (darts (a ∷ es)) (bwd a.num) (tie k' (fwd a.num) next) k)
    (μ : ℕ → ℕ) (m : ℕ → ℕ) (one : μ (face (fwd a.num)) ≡ μ (face (bwd a.num)))
    (shrunk : Shrunk a es face (λ d. μ (face d)) m) where
  dis : Distinct (nums (a ∷ es))
  dis = planar.edges_once

  N₁ : Dart → Dart
  N₁ = tie k' (fwd a.num) next

  N₀ : Dart → Dart
  N₀ = tie k (bwd a.num) N₁

  inf : Memᴰ (fwd a.num) (darts (a ∷ es))
  inf = Memᴰ.head refl

  inb : Memᴰ (bwd a.num) (darts (a ∷ es))
  inb = Memᴰ.tail (Memᴰ.head refl)

  l₁ : Linked (a ∷ es) tail N₁ (λ d. μ (face d))
  unfolding N₁
  l₁ = untie_linked (record {
    starts = planar.linked.starts;
    ends = planar.linked.ends;
    perm = planar.linked.perm;
    meets = planar.linked.meets;
    keeps = λ d i. ap μ (planar.linked.keeps d i);
  }) dis (fwd a.num) inf (sym one) k' holds'

  l₂ : Linked (a ∷ es) tail N₀ (λ d. μ (face d))
  unfolding N₀ N₁
  l₂ = untie_linked l₁ dis (bwd a.num) inb one k holds

  f₁ : N₁ (fwd a.num) ≡ bwd a.num
  unfolding N₁
  f₁ = untied (darts (a ∷ es)) (fwd a.num) next k' holds'

  b₀ : N₀ (bwd a.num) ≡ fwd a.num
  unfolding N₀ N₁
  b₀ = untied (darts (a ∷ es)) (bwd a.num) N₁ k holds

  f₀ : N₀ (fwd a.num) ≡ bwd a.num
  unfolding N₀ N₁
  f₀ = go k holds
    where
      go : (k : Corner) → CornerHolds (darts (a ∷ es)) (bwd a.num) N₁ k → tie k (bwd a.num) N₁ (fwd a.num)
          ≡ bwd a.num
      go alone h = f₁
      go (after p) h = ap N₁ (exchange_other p (bwd a.num) (fwd a.num)
          (λ q. fwd≢bwd (sym h.1 ∙ ap N₁ (sym q) ∙ f₁)) fwd≢bwd) ∙ f₁

  after-linked : Linked es tail N₀ (λ d. μ (face d))
  after-linked = restrict a es l₂ dis f₀ b₀

  swap_in : (d : Dart) → Memᴰ d (bwd a.num ∷ fwd a.num ∷ darts es) → Memᴰ d (darts (a ∷ es))
  swap_in d i = perm_in (Permᴰ.swap refl refl) i

  swap_out : (d : Dart) → Memᴰ d (darts (a ∷ es)) → Memᴰ d (bwd a.num ∷ fwd a.num ∷ darts es)
  swap_out d i = perm_in (Permᴰ.swap refl refl) i

  t₂ : Turning (bwd a.num ∷ fwd a.num ∷ darts es) tail (about_node next)
  t₂ = record {
    into = λ d i. swap_out (about_node next d) (t.into d (swap_in d i));
    stays = λ d i. t.stays d (swap_in d i);
    round = λ d d' i i'. t.round d d' (swap_in d i) (swap_in d' i');
  }
    where
      t : Turning (darts (a ∷ es)) tail (about_node next)
      t = turning planar.linked planar.one-turn

  t₁ : Turning (fwd a.num ∷ darts es) tail (about_node N₁)
  unfolding N₁
  t₁ = untie_turning next (a ∷ es) (injective_of_perm next (darts (a ∷ es)) (distinct_darts (a ∷ es) dis)
      planar.linked.perm) (fwd a.num ∷ darts es) tail (fwd a.num) inf swap_in t₂
      (each-cons {p = λ d. (d ≡ bwd a.num) → ⊥} fwd≢bwd
      (λ d i q. fresh_dart a es dis.0 i (ap (λ (d : Dart). d.edge) q))) k' holds'
      (λ p e i. swap_out (rev p) (rev_in (a ∷ es) i))

  t₀ : Turning (darts es) tail (about_node N₀)
  unfolding N₀ N₁
  t₀ = untie_turning N₁ (a ∷ es) (injective_of_perm N₁ (darts (a ∷ es)) (distinct_darts (a ∷ es) dis) l₁.perm)
      (darts es) tail (bwd a.num) inb (λ d i. swap_in d (Memᴰ.tail i)) t₁
      (λ d i q. fresh_dart a es dis.0 i (ap (λ (d : Dart). d.edge) q)) k holds there
    where
      there : (p : Dart) → N₁ p ≡ fwd a.num → Memᴰ p (darts (a ∷ es))
          → Memᴰ (rev p) (fwd a.num ∷ darts es)
      there p e i = in_rest (λ q. fwd≢bwd (sym e ∙ ap N₁ (sym (rev-rev p) ∙ ap rev q) ∙ f₁))
          (swap_out (rev p) (rev_in (a ∷ es) i))

  rest : Within nodes es
  rest = record {
    starts = λ b i. planar.within.starts b (Memᴰ.tail i);
    ends = λ b i. planar.within.ends b (Memᴰ.tail i);
  }

  removed : (f : ℕ) → Euler nodes es f → Planar nodes es tail (tie k (bwd a.num) (tie k' (fwd a.num) next))
      (λ d. μ (face d)) f
  unfolding N₀ N₁
  removed f euler = record {
    nodes_once = planar.nodes_once;
    edges_once = dis.1;
    within = rest;
    linked = after-linked;
    one-turn = t₀.round;
    colouring = shrunk_keeps shrunk dis.0 planar.colouring;
    euler = euler;
  }

  -- the edge had one face on both sides: a piece falls in two
  pub planar_part : face (fwd a.num) ≡ face (bwd a.num)
      → Planar nodes es tail (tie k (bwd a.num) (tie k' (fwd a.num) next)) (λ d. μ (face d)) faces
  planar_part e = removed faces ((euler_one_face nodes a es faces face planar.nodes_once planar.within dis
      planar.colouring e).1 planar.euler)

  -- the edge was between two faces, which become one
  pub planar_merge : (fewer : ℕ) → faces ≡ suc fewer → ((face (fwd a.num) ≡ face (bwd a.num)) → ⊥)
      → Planar nodes es tail (tie k (bwd a.num) (tie k' (fwd a.num) next)) (λ d. μ (face d)) fewer
  planar_merge fewer e apart = removed fewer
      ((euler_split nodes a es fewer planar.linked apart).1 (subst (λ f. Euler nodes (a ∷ es) f) e planar.euler))
