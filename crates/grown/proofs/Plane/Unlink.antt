-- An edge unlinked in a map in the plane: the two ways of the edge may be taken out in either order, and a piece parts
-- or two faces become one. Assumes nothing.
use mathlib.Core.Path.{◌≡◌, refl, sym, ap, ◌∙◌}
use mathlib.Core.Logic.{inl, inr, ◌≢◌}
use mathlib.Core.Bool.{cond}
use mathlib.Core.List.Memᴰ
use mathlib.Core.List.Permᴰ
use mathlib.Core.List.{List, ◌∷◌, map, Memᴰ, Permᴰ}
use Prim.Native.Nat.{ℕ, suc}
use Rattle.lists.proofs.Perms.{perm_in, injective_of_perm}
use Rattle.planar_maps.specs.Map.{Arc, Dart, fwd, bwd, rev, darts, Linked}
use Rattle.planar_maps.specs.Rings.{same_dart}
use Rattle.planar_maps.specs.Weave.{after, tie}
use Rattle.planar_maps.specs.Planar.{Planar}
use Rattle.planar_maps.proofs.Bridges.{Shrunk}
use Rattle.planar_maps.proofs.Hooks.{sameDart?, fwd≢bwd, fresh_dart, distinct_darts, hook-linked}
use Rattle.planar_maps.proofs.Agree.{planar_agree}
use Rattle.planar_maps.proofs.Unweaving.{planar_part, planar_merge}
use Rattle.rotation.specs.Law.{redirect, unlink_edge}
use Rattle.rotation.proofs.Tells.{is_yes, is_no}
use Rattle.rotation.proofs.Ties.{tells, unlink_is_tie}

-- ---- the order in which the two departures are taken out plays no part

-- what led to f leads where b does, then what led to b leads where f does
abbrev out : (Dart → Dart) → Dart → Dart → Dart → Dart
out next f b d = redirect same_dart b (redirect same_dart f (next b) next f) (redirect same_dart f (next b) next) d

module _ (ds : List Dart) (next : Dart → Dart)
    (one : (d c : Dart) → Memᴰ d ds → Memᴰ c ds → next d ≡ next c → d ≡ c) where
  half : (f b : Dart) → Memᴰ f ds → (f ≢ b) → (d : Dart) → Memᴰ d ds → (d ≢ f) → next d ≡ f → out next f b d
      ≡ out next b f d
  half f b mf ne d md nd e = rw (
    is_no tells (next d) b (λ q. ne (sym e ∙ q)),
    is_yes tells (next d) f e,
    is_no tells (next f) f (λ q. nd (one d f md mf (e ∙ sym q))),
  )

  out_order : (f b : Dart) → Memᴰ f ds → Memᴰ b ds → (f ≢ b) → (d : Dart) → Memᴰ d ds → (d ≢ f)
      → (d ≢ b) → out next f b d ≡ out next b f d
  out_order f b mf mb ne d md nf nb = elim (sameDart? (next d) f) [
    | inl e ↦ half f b mf ne d md nf e
    | inr p ↦ elim (sameDart? (next d) b) [
      | inl e ↦ sym (half b f mb (λ q. ne (sym q)) d md nb e)
      | inr q ↦ rw (is_no tells (next d) f p, is_no tells (next d) b q, is_no tells (next d) f p)
    ]
  ]

-- ---- the theory's corners, and the links of `unlink_edge`

module _ {nodes : List ℕ} {a : Arc} {es : List Arc} {tail : Dart → ℕ} {next : Dart → Dart} {face : Dart
    → ℕ} {faces : ℕ} (planar : Planar nodes (a ∷ es) tail next face faces)
    (μ back : ℕ → ℕ) (one : μ (face (fwd a.num)) ≡ μ (face (bwd a.num)))
    (shrunk : Shrunk a es face (λ d. μ (face d)) back) where
  abbrev f : Dart
  f = fwd a.num

  abbrev b : Dart
  b = bwd a.num

  abbrev all : List Dart
  all = darts (a ∷ es)

  in_f : Memᴰ f all
  in_f = Memᴰ.head refl

  in_b : Memᴰ b all
  in_b = Memᴰ.tail (Memᴰ.head refl)

  -- the faces merged, the links as before
  merged : Linked (a ∷ es) tail next (λ d. μ (face d))
  merged = record {
    starts = planar.linked.starts;
    ends = planar.linked.ends;
    perm = planar.linked.perm;
    meets = planar.linked.meets;
    keeps = λ d k. ap μ (planar.linked.keeps d k);
  }

  inj : (N : Dart → Dart) → Permᴰ (map N all) all → (d c : Dart) → Memᴰ d all → Memᴰ c all → N d ≡ N c
      → d ≡ c
  inj N p = injective_of_perm N all (distinct_darts (a ∷ es) planar.edges_once) p

  -- the dart that led to -e, and the links without the arrival e
  to_b : (p : Dart) × Memᴰ p all × (next p ≡ b)
  to_b = Memᴰ.of_map next all (perm_in (Permᴰ.symm planar.linked.perm) in_b)

  N₁ : Dart → Dart
  N₁ = tie (after to_b.0) f next

  linked₁ : Linked (a ∷ es) tail N₁ (λ d. μ (face d))
  unfolding N₁
  linked₁ = hook-linked merged planar.edges_once to_b.0 f to_b.1 in_f
      (sym (merged.meets to_b.0 to_b.1) ∙ ap tail to_b.2)
      (sym (merged.keeps to_b.0 to_b.1) ∙ ap (λ d. μ (face d)) to_b.2 ∙ sym one)

  to_f : (p : Dart) × Memᴰ p all × (N₁ p ≡ f)
  to_f = Memᴰ.of_map N₁ all (perm_in (Permᴰ.symm linked₁.perm) in_f)

  -- the theory's links are those of `unlink_edge`
  same_links : (d : Dart) → Memᴰ d (darts es) → unlink_edge same_dart rev f next d ≡ tie (after to_f.0) b N₁ d
  unfolding N₁
  same_links d k = out_order all next (inj next planar.linked.perm) f b in_f in_b fwd≢bwd d wide (other f refl)
      (other b refl)
      ∙ ap (λ (x : Dart). cond (same_dart x f) (redirect same_dart b (next f) next b) x) (first d wide (other f refl))
      ∙ ap (λ (x : Dart). cond (same_dart (N₁ d) f) x (N₁ d)) (first b in_b (λ q. fwd≢bwd (sym q)))
      ∙ unlink_is_tie all N₁ (inj N₁ linked₁.perm) f b to_f.0 to_f.1 to_f.2 d wide (other b refl)
    where
      wide : Memᴰ d all
      wide = Memᴰ.tail (Memᴰ.tail k)

      other : (x : Dart) → x.edge ≡ a.num → d ≢ x
      other x e q = fresh_dart a es planar.edges_once.0 k (ap (λ (d : Dart). d.edge) q ∙ e)

      first : (x : Dart) → Memᴰ x all → (x ≢ f) → redirect same_dart b (next f) next x ≡ N₁ x
      first x i ne = unlink_is_tie all next (inj next planar.linked.perm) b f to_b.0 to_b.1 to_b.2 x i ne

  -- one face on both sides: a piece falls in two
  pub taken_part : face f ≡ face b → Planar nodes es tail (unlink_edge same_dart rev f next) (λ d. μ (face d)) faces
  unfolding N₁
  taken_part e = planar_agree (λ d k. refl) same_links (λ d k. refl)
      (planar_part planar (after to_f.0) (after to_b.0) (to_b.1, to_b.2) (to_f.1, to_f.2) μ back one shrunk e)

  -- two faces become one
  pub taken-merge : (fewer : ℕ) → faces ≡ suc fewer → ((face f ≡ face b) → ⊥)
      → Planar nodes es tail (unlink_edge same_dart rev f next) (λ d. μ (face d)) fewer
  unfolding N₁
  taken-merge fewer e apart = planar_agree (λ d k. refl) same_links (λ d k. refl)
      (planar_merge planar (after to_f.0) (after to_b.0) (to_b.1, to_b.2)
      (to_f.1, to_f.2) μ back one shrunk fewer e apart)
