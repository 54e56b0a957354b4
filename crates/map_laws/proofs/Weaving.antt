-- An edge linked in by directions, at its start and then at its end, is woven in at two corners. Assumes nothing.
use mathlib.Core.Path.{◌≡◌, refl, sym, ap, ◌∙◌, subst}
use mathlib.Core.Logic.{◌⊎◌, inl, inr}
use mathlib.Core.Bool.{true, false, cond}
use mathlib.Core.List.Memᴰ
use mathlib.Core.List.{List, ◌∷◌, Memᴰ}
use mathlib.Core.List.Permᴰ
use Prim.Native.Nat.{ℕ}
use Rattle.lists.specs.Tests.{same}
use Rattle.lists.specs.Members.{Distinct}
use Rattle.lists.proofs.Bools.{which, same_true}
use Rattle.lists.proofs.Members.{each-cons, some?}
use Rattle.lists.proofs.Perms.{perm_in, injective_of_perm}
use Rattle.plane.specs.Directions.{Way}
use Rattle.planar_maps.specs.Map.{Arc, Dart, fwd, bwd, rev, darts, Linked}
use Rattle.planar_maps.specs.Pieces.{nums}
use Rattle.planar_maps.specs.Rings.{same_dart}
use Rattle.planar_maps.specs.Weave.{with_edge, lone_edge, Corner, alone, after, tie, woven, CornerFits}
use Rattle.planar_maps.proofs.Bridges.{Fresh}
use Rattle.planar_maps.proofs.Rings.{rev_in}
use Rattle.planar_maps.proofs.Hooks.{fwd≢bwd, fresh_dart, distinct_darts, exchange_other, with_fwd, with_bwd}
use Rattle.planar_maps.proofs.Hooks.{with_other, lone-linked}
use Rattle.planar_maps.proofs.Agree.{linked_agree}
use Rattle.planar_maps.proofs.Weaving.{tie-linked}
use Rattle.rotation.specs.Law.{first_clockwise, Differ, redirect, leading, from, Apart, link, link_edge}
use Rattle.rotation.proofs.Node.{first_in, first_none}
use Rattle.rotation.proofs.Ties.{link_is_tie, link_alone_is_tie}
use Rattle.map_laws.proofs.Departures.{from_in, from_has, differ_part, first_fewer}

-- the dart that leads to one
led_to : {es : List Arc} {tail : Dart → ℕ} {next : Dart → Dart} {face : Dart → ℕ} → Linked es tail next face
    → (c : Dart) → Memᴰ c (darts es) → (x : Dart) × Memᴰ x (darts es) × (next x ≡ c)
led_to {es} {next = next} l c k = Memᴰ.of_map next (darts es) (perm_in (Permᴰ.symm l.perm) k)

-- the old links, and the functions that know the edge a
module _ {es : List Arc} {tail : Dart → ℕ} {next : Dart → Dart} {face : Dart → ℕ} (l : Linked es tail next face)
    (dis : Distinct (nums es)) (a : Arc) (fresh : Fresh a es) (φ : ℕ) (W : Dart → Way) where
  abbrev T : Dart → ℕ
  T = with_edge a.num a.from a.to tail

  abbrev F : Dart → ℕ
  F = with_edge a.num φ φ face

  abbrev N : Dart → Dart
  N = lone_edge a.num next

  abbrev f : Dart
  f = fwd a.num

  abbrev b : Dart
  b = bwd a.num

  -- the departures at the start and the first of them, and the links then
  abbrev at_start_lem : List Dart
  at_start_lem = from T (darts es) (T (fwd a.num))

  abbrev c₁ : Dart
  c₁ = first_clockwise W (W (fwd a.num)) (fwd a.num) at_start_lem

  abbrev N₁ : Dart → Dart
  N₁ = link same_dart rev W (fwd a.num) at_start_lem N

  -- the same at the end, where the edge itself may be
  abbrev at_end_lem : List Dart
  at_end_lem = from T (fwd a.num ∷ darts es) (T (bwd a.num))

  abbrev c₂ : Dart
  c₂ = first_clockwise W (W (bwd a.num)) (bwd a.num) at_end_lem

  abbrev N₂ : Dart → Dart
  N₂ = link_edge same_dart rev W T (fwd a.num) (darts es) N

  new : {d : Dart} → Memᴰ d (darts es) → (d.edge ≡ a.num) → ⊥
  new k = fresh_dart a es fresh k

  old : {B : Type 0} (u v : B) (g : Dart → B) (d : Dart) → Memᴰ d (darts es) → with_edge a.num u v g d ≡ g d
  old u v g d k = with_other a.num u v g d (new k)

  before : Linked es T N F
  before = linked_agree l (old a.from a.to tail) (old (bwd a.num) (fwd a.num) next) (old φ φ face)

  dis⁺ : Distinct (nums (a ∷ es))
  dis⁺ = (fresh, dis)

  lone⁺ : Linked (a ∷ es) T N F
  lone⁺ = lone-linked fresh φ l

  nf : N f ≡ b
  nf = with_fwd a.num (bwd a.num) (fwd a.num) next

  nb : N b ≡ f
  nb = with_bwd a.num (bwd a.num) (fwd a.num) next

  start : T f ≡ a.from
  start = with_fwd a.num a.from a.to tail

  end : T b ≡ a.to
  end = with_bwd a.num a.from a.to tail

  -- all darts but one way of the edge
  wide_f : {d : Dart} → Memᴰ d (f ∷ darts es) → Memᴰ d (darts (a ∷ es))
  wide_f {d} = each-cons {p = λ d. Memᴰ d (darts (a ∷ es))} (Memᴰ.head refl)
      (λ d i. Memᴰ.tail (Memᴰ.tail i)) d

  wide_b : {d : Dart} → Memᴰ d (b ∷ darts es) → Memᴰ d (darts (a ∷ es))
  wide_b i = Memᴰ.tail i

  swap : {d : Dart} → Memᴰ d (darts (a ∷ es)) → Memᴰ d (b ∷ f ∷ darts es)
  swap {d} = each-cons {p = λ d. Memᴰ d (b ∷ f ∷ darts es)} (Memᴰ.tail (Memᴰ.head refl))
      (each-cons {p = λ d. Memᴰ d (b ∷ f ∷ darts es)} (Memᴰ.head refl)
      (λ d i. Memᴰ.tail (Memᴰ.tail i))) d

  -- ---- at the start

  -- the corner's face is that of the first departure met
  module _ (face₁ : (d : Dart) → Memᴰ d at_start_lem → F c₁ ≡ φ) where
    At-start : Corner → Type 0
    At-start k = CornerFits (darts es) T F a.from φ k × ((d : Dart) → Memᴰ d (darts (a ∷ es)) → N₁ d
        ≡ tie k b N d)

    start_corner_lem : (k : Corner) × At-start k
    unfolding At-start
    start_corner_lem = elim (some? at_start_lem) [ inl q ↦ some (first_in W (W f) f at_start_lem q.1) | inr q ↦ none q ]
      where
        none : ((d : Dart) → Memᴰ d at_start_lem → ⊥) → (k : Corner) × At-start k
        none q = (
          alone,
          (
            λ d k p. q d (from_has T (darts es) (T f) k (p ∙ sym start)),
            λ d k. ap (λ (c : Dart). leading same_dart b c (redirect same_dart c f N) d)
                (first_none W (W f) f at_start_lem q) ∙ link_alone_is_tie N f b d nb,
          ),
        )

        some : Memᴰ c₁ at_start_lem → (k : Corner) × At-start k
        some k = go (led_to before c₁ (from_in T (darts es) (T f) k).0)
          where
            go : (x : Dart) × Memᴰ x (darts es) × (N x ≡ c₁) → (k : Corner) × At-start k
            go x = (
              after x.0,
              (
                (
                  rev_in es x.1,
                  sym (before.meets x.0 x.1) ∙ ap T x.2 ∙ (from_in T (darts es) (T f) k).1
                      ∙ start,
                  sym (before.keeps x.0 x.1) ∙ ap F x.2 ∙ face₁ c₁ k,
                ),
                λ d i. link_is_tie (f ∷ darts es) N
                    (λ d c i j. injective_of_perm N (darts (a ∷ es)) (distinct_darts (a ∷ es) dis⁺) lone⁺.perm d c
                    (wide_f i) (wide_f j)) f b x.0 c₁
                    (λ i. elim (Memᴰ.cases_cons i) [ inl p ↦ fwd≢bwd (sym p) | inr j ↦ new j refl ])
                    (Memᴰ.tail x.1) x.2 nb d (swap i),
              ),
            )

  -- ---- at the end, the corner k of the start given

  module _ (k : Corner) (fits : CornerFits (darts es) T F a.from φ k)
      (differ : T f ≡ T b → Differ W (b ∷ f ∷ from T (darts es) (T b)))
      (face₂ : (d : Dart) → Memᴰ d (from T (darts es) (T b))
      → F (first_clockwise W (W b) b (from T (darts es) (T b))) ≡ φ) where
    M₁ : Dart → Dart
    M₁ = tie k b N

    linked₁ : Linked (a ∷ es) T M₁ F
    unfolding M₁
    linked₁ = tie-linked lone⁺ dis⁺ (darts es) (λ d m. Memᴰ.tail (Memᴰ.tail m)) b
        (Memᴰ.tail (Memᴰ.head refl)) a.from φ start (with_bwd a.num φ φ face) k fits

    still : M₁ f ≡ b
    unfolding M₁
    still = go k fits
      where
        go : (k : Corner) → CornerFits (darts es) T F a.from φ k → tie k b N f ≡ b
        go alone h = nf
        go (after p) h = ap N (exchange_other p b f (λ q. new h.0 (ap (λ (d : Dart). d.edge) (sym q))) fwd≢bwd) ∙ nf

    At-end : Corner → Type 0
    At-end k' = CornerFits (f ∷ darts es) T F a.to φ k'
        × ((d : Dart) → Memᴰ d (darts (a ∷ es)) → leading same_dart f c₂ (redirect same_dart c₂ b M₁) d
        ≡ tie k' f M₁ d)

    -- the face of the first departure at the end, the edge itself or another
    face_c₂ : Memᴰ c₂ at_end_lem → F c₂ ≡ φ
    face_c₂ i = elim (Memᴰ.cases_cons (from_in T (f ∷ darts es) (T b) i).0) [
      | inl p ↦ ap F p ∙ with_fwd a.num φ φ face
      | inr j ↦ other (from_has T (darts es) (T b) j (from_in T (f ∷ darts es) (T b) i).1) (which (same (T f) (T b)))
    ]
      where
        olds : List Dart
        olds = from T (darts es) (T b)

        other : Memᴰ c₂ olds → (same (T f) (T b) ≡ true) ⊎ (same (T f) (T b) ≡ false) → F c₂ ≡ φ
        other j (inl q) = ap F (ap (first_clockwise W (W b) b) list
            ∙ first_fewer W b f b b olds (differ (same_true (T f) (T b) q))
            (subst (λ l. Memᴰ (first_clockwise W (W b) b l) olds) list j)) ∙ face₂ c₂ j
          where
            list : at_end_lem ≡ f ∷ olds
            list = ap (λ x. cond x (f ∷ olds) olds) q
        other j (inr q) = ap (λ l. F (first_clockwise W (W b) b l)) (ap (λ x. cond x (f ∷ olds) olds) q) ∙ face₂ c₂ j

    end_corner_lem : (k' : Corner) × At-end k'
    unfolding At-end
    end_corner_lem = elim (some? at_end_lem) [ inl q ↦ some (first_in W (W b) b at_end_lem q.1) | inr q ↦ none q ]
      where
        none : ((d : Dart) → Memᴰ d at_end_lem → ⊥) → (k' : Corner) × At-end k'
        none q = (
          alone,
          (
            λ d i p. q d (from_has T (f ∷ darts es) (T b) i (p ∙ sym end)),
            λ d i. ap (λ (c : Dart). leading same_dart f c (redirect same_dart c b M₁) d) (first_none W (W b) b at_end_lem q)
                ∙ link_alone_is_tie M₁ b f d still,
          ),
        )

        some : Memᴰ c₂ at_end_lem → (k' : Corner) × At-end k'
        some i = go (led_to linked₁ c₂ (wide_f (from_in T (f ∷ darts es) (T b) i).0))
          where
            not_b : (c₂ ≡ b) → ⊥
            not_b p = elim (Memᴰ.cases_cons (from_in T (f ∷ darts es) (T b) i).0) [
              | inl q ↦ fwd≢bwd
                  (sym q ∙ p)
              | inr j ↦ new j (ap (λ (d : Dart). d.edge) p)
            ]

            go : (x : Dart) × Memᴰ x (darts (a ∷ es)) × (M₁ x ≡ c₂) → (k' : Corner) × At-end k'
            go x = elim (Memᴰ.cases_cons x.1) [
              | inl p ↦ absurd
                  (not_b (sym x.2 ∙ ap M₁ p ∙ still))
              | inr j ↦ here j
            ]
              where
                turned : Memᴰ x.0 (b ∷ darts es) → Memᴰ (rev x.0) (f ∷ darts es)
                turned = each-cons {p = λ d. Memᴰ (rev d) (f ∷ darts es)} (Memᴰ.head refl)
                    (λ d i. Memᴰ.tail (rev_in es i)) x.0

                here : Memᴰ x.0 (b ∷ darts es) → (k' : Corner) × At-end k'
                here j = (
                  after x.0,
                  (
                    (
                      turned j,
                      sym (linked₁.meets x.0 x.1) ∙ ap T x.2 ∙ (from_in T (f ∷ darts es) (T b) i).1
                          ∙ end,
                      sym (linked₁.keeps x.0 x.1) ∙ ap F x.2 ∙ face_c₂ i,
                    ),
                    λ d i. link_is_tie (b ∷ darts es) M₁
                        (λ d c i j. injective_of_perm M₁ (darts (a ∷ es)) (distinct_darts (a ∷ es) dis⁺)
                        linked₁.perm d c (wide_b i) (wide_b j)) b f x.0 c₂
                        (λ i. elim (Memᴰ.cases_cons i) [ inl p ↦ fwd≢bwd p | inr j ↦ new j refl ])
                        j x.2 still d i,
                  ),
                )

  -- ---- both

  module _ (apart : Apart T W (b ∷ f ∷ darts es)) (face₁ : (d : Dart) → Memᴰ d at_start_lem → F c₁ ≡ φ)
      (face₂ : (d : Dart) → Memᴰ d (from T (darts es) (T b))
      → F (first_clockwise W (W b) b (from T (darts es) (T b))) ≡ φ) where
    -- the edge linked in is woven in at two corners of the face φ
    pub put-woven : (k k' : Corner) × CornerFits (darts es) T F a.from φ k × CornerFits (f ∷ darts es) T F a.to
        φ k'
        × ((d : Dart) → Memᴰ d (darts (a ∷ es)) → N₂ d ≡ woven a.num k k' next d)
    unfolding At-start At-end M₁
    put-woven = (
      s.0,
      t.0,
      s.1.0,
      t.1.0,
      λ d i. ap (λ (c : Dart). leading same_dart f c₂ (λ x. cond (same_dart c c₂) b c) d) (s.1.1 d i) ∙ t.1.1 d i,
    )
      where
        s : (k : Corner) × At-start face₁ k
        s = start_corner_lem face₁

        loop : T f ≡ T b → Differ W (b ∷ f ∷ from T (darts es) (T b))
        loop q = differ_part (each-cons {p = λ d. Memᴰ d (from T (b ∷ f ∷ darts es) (T b))}
            (from_has T (b ∷ f ∷ darts es) (T b) (Memᴰ.head refl) refl)
            (each-cons {p = λ d. Memᴰ d (from T (b ∷ f ∷ darts es) (T b))}
            (from_has T (b ∷ f ∷ darts es) (T b) (Memᴰ.tail (Memᴰ.head refl)) q)
            (λ d i. let j = from_in T (darts es) (T b) i in
            from_has T (b ∷ f ∷ darts es) (T b) (Memᴰ.tail (Memᴰ.tail j.0)) j.1))) (apart (T b))

        t : (k' : Corner) × At-end s.0 s.1.0 loop face₂ k'
        t = end_corner_lem s.0 s.1.0 loop face₂
