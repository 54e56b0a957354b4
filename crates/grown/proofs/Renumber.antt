-- A map in the plane under other names of its directed edges: other numbers, and edges turned round. Assumes nothing.
use mathlib.Core.Path.{◌≡◌, refl, sym, ap, ap₂, ◌∙◌, subst}
use mathlib.Core.Logic.{◌⊎◌, inl, inr}
use mathlib.Core.Bool.{Bool, true, false, cond, ◌&&◌}
use mathlib.Core.List.Memᴰ
use mathlib.Core.List.{List, [], ◌∷◌, map, map-map, Memᴰ}
use mathlib.Core.List.Permᴰ
use mathlib.Core.List.{Permᴰ}
use Prim.Native.Nat.{ℕ, zero, suc}
use native.Mathlib.Omega.{arith}
use lib.ListN.{length-map}
use Rattle.lists.specs.Tests.{◌⊕◌, iterate}
use Rattle.lists.specs.Members.{Distinct}
use Rattle.lists.proofs.Bools.{eq2}
use Rattle.lists.proofs.Sums.{sum_cong, sum-map}
use Rattle.lists.proofs.Perms.{perm_in, distinct_map, distinct_injective, distinct_of}
use Rattle.lists.proofs.Maps.{map_square}
use Rattle.planar_maps.specs.Map.{Arc, Dart, fwd, bwd, rev, darts, across, Linked, Cycle, Colouring}
use Rattle.planar_maps.specs.Pieces.{Chain, stay, along, against, Within, Euler, nums}
use Rattle.planar_maps.specs.Rings.{Leads, about_node, OneTurn}
use Rattle.planar_maps.specs.Planar.{Planar}
use Rattle.planar_maps.proofs.Cycles.{fwd_in, bwd_in}
use Rattle.planar_maps.proofs.Rings.{rev_in, next_in_lem}
use Rattle.planar_maps.proofs.Chains.{chain_image, pieces_of_chains}

-- the edge that d runs along, from s to t
abbrev pub runs : Dart → ℕ → ℕ → Arc
runs d s t = record { num = d.edge; from = cond d.back t s; to = cond d.back s t }

-- the edge under its new name
abbrev pub named : (Dart → Dart) → Arc → Arc
named σ a = runs (σ (fwd a.num)) a.from a.to

-- a directed edge runs one way or the other
pub ways : (d : Dart) → (d ≡ fwd d.edge) ⊎ (d ≡ bwd d.edge)
ways d = go d.back refl
  where
    go : (b : Bool) → d.back ≡ b → (d ≡ fwd d.edge) ⊎ (d ≡ bwd d.edge)
    go true e = inr (λ i. record { edge = d.edge; back = e i })
    go false e = inl (λ i. record { edge = d.edge; back = e i })

-- σ names the directed edges of one map as those of another
pub record Named (σ : Dart → Dart) (es : List Arc) (tail tail' : Dart → ℕ) (next next' : Dart → Dart)
    (face face' : Dart → ℕ) : Type 0 where
  pub turned : (d : Dart) → Memᴰ d (darts es) → σ (rev d) ≡ rev (σ d)
  pub one : (c d : Dart) → Memᴰ c (darts es) → Memᴰ d (darts es) → σ c ≡ σ d → c ≡ d
  pub tails : (d : Dart) → Memᴰ d (darts es) → tail' (σ d) ≡ tail d
  pub nexts : (d : Dart) → Memᴰ d (darts es) → next' (σ d) ≡ σ (next d)
  pub faces : (d : Dart) → Memᴰ d (darts es) → face' (σ d) ≡ face d

-- how the edge a lies under its new name
pub record Straight (σ : Dart → Dart) (a : Arc) : Type 0 where
  pub forth : σ (fwd a.num) ≡ fwd (named σ a).num
  pub back : σ (bwd a.num) ≡ bwd (named σ a).num
  pub from : (named σ a).from ≡ a.from
  pub to : (named σ a).to ≡ a.to

pub record Turned (σ : Dart → Dart) (a : Arc) : Type 0 where
  pub forth : σ (fwd a.num) ≡ bwd (named σ a).num
  pub back : σ (bwd a.num) ≡ fwd (named σ a).num
  pub from : (named σ a).from ≡ a.to
  pub to : (named σ a).to ≡ a.from

lies : (σ : Dart → Dart) (a : Arc) → σ (bwd a.num) ≡ rev (σ (fwd a.num)) → Straight σ a ⊎ Turned σ a
lies σ a h = elim (ways (σ (fwd a.num))) [
  | inl e ↦ inl (record {
    forth = e;
    back = h ∙ ap rev e;
    from = ap (λ (d : Dart). cond d.back a.to a.from) e;
    to = ap (λ (d : Dart). cond d.back a.from a.to) e;
  })
  | inr e ↦ inr (record {
    forth = e;
    back = h ∙ ap rev e;
    from = ap (λ (d : Dart). cond d.back a.to a.from) e;
    to = ap (λ (d : Dart). cond d.back a.from a.to) e;
  })
]

-- the directed edges under their new names
darts-named : (σ : Dart → Dart) (es : List Arc) → ((d : Dart) → Memᴰ d (darts es) → σ (rev d) ≡ rev (σ d))
    → Permᴰ (map σ (darts es)) (darts (map (named σ) es))
darts-named σ [] h = Permᴰ.nil
darts-named σ (a ∷ es) h = go (lies σ a (h (fwd a.num) (Memᴰ.head refl)))
    (darts-named σ es (λ d m. h d (Memᴰ.tail (Memᴰ.tail m))))
  where
    go : Straight σ a ⊎ Turned σ a → Permᴰ (map σ (darts es)) (darts (map (named σ) es))
        → Permᴰ (map σ (darts (a ∷ es))) (darts (map (named σ) (a ∷ es)))
    go (inl s) ih = Permᴰ.cons s.forth (Permᴰ.cons s.back ih)
    go (inr t) ih = Permᴰ.trans (Permᴰ.swap t.forth t.back)
        (Permᴰ.cons refl (Permᴰ.cons refl ih))

module _ (σ : Dart → Dart) {nodes : List ℕ} {es : List Arc} {tail tail' : Dart → ℕ} {next next' : Dart
    → Dart} {face face' : Dart → ℕ} {faces : ℕ}
    (o : Planar nodes es tail next face faces) (r : Named σ es tail tail' next next' face face') where
  fs : List Arc
  fs = map (named σ) es

  side : (a : Arc) → Memᴰ a es → Straight σ a ⊎ Turned σ a
  side a m = lies σ a (r.turned (fwd a.num) (fwd_in m))

  moved : Permᴰ (map σ (darts es)) (darts fs)
  unfolding fs
  moved = darts-named σ es r.turned

  -- where a directed edge of the new map comes from
  origin : (p : Dart → Type 0) → ((d : Dart) → Memᴰ d (darts es) → p (σ d)) → (d : Dart) → Memᴰ d (darts fs)
      → p d
  origin p h d m = go (Memᴰ.of_map σ (darts es) (perm_in (Permᴰ.symm moved) m))
    where
      go : (c : Dart) × Memᴰ c (darts es) × (σ c ≡ d) → p d
      go x = subst p x.2 (h x.0 x.1)

  each : (p : Arc → Type 0) → ((a : Arc) → Memᴰ a es → p (named σ a)) → (b : Arc) → Memᴰ b fs → p b
  unfolding fs
  each p h b m = go (Memᴰ.of_map (named σ) es m)
    where
      go : (a : Arc) × Memᴰ a es × (named σ a ≡ b) → p b
      go x = subst p x.2 (h x.0 x.1)

  once : Distinct (nums fs)
  unfolding fs
  once = subst Distinct (sym (map-map (λ a. a.num) (named σ) es))
      (distinct_map (λ a. (named σ a).num) es (distinct_of (λ a. a.num) es o.edges_once)
      (λ a b m n e. distinct_injective (λ a. a.num) es o.edges_once a b m n (same a b m n e)))
    where
      numbers : {c d : Dart} → c ≡ d → c.edge ≡ d.edge
      numbers e = ap (λ (d : Dart). d.edge) e

      same : (a b : Arc) → Memᴰ a es → Memᴰ b es → (named σ a).num ≡ (named σ b).num → a.num ≡ b.num
      same a b m n e = elim (side a m) [
        | inl s ↦ elim (side b n) [
          | inl t ↦ numbers (r.one (fwd a.num) (fwd b.num) (fwd_in m) (fwd_in n)
              (s.forth ∙ ap fwd e ∙ sym t.forth))
          | inr t ↦ numbers (r.one (fwd a.num) (bwd b.num) (fwd_in m) (bwd_in n)
              (s.forth ∙ ap fwd e ∙ sym t.back))
        ]
        | inr s ↦ elim (side b n) [
          | inl t ↦ numbers (r.one (bwd a.num) (fwd b.num) (bwd_in m) (fwd_in n)
              (s.back ∙ ap fwd e ∙ sym t.forth))
          | inr t ↦ numbers (r.one (bwd a.num) (bwd b.num) (bwd_in m) (bwd_in n)
              (s.back ∙ ap fwd e ∙ sym t.back))
        ]
      ]

  within : Within nodes fs
  within = record {
    starts = each (λ b. Memᴰ b.from nodes)
        (λ a m. elim (side a m) [
          | inl s ↦ Memᴰ.cast s.from (o.within.starts a m)
          | inr s ↦ Memᴰ.cast s.from
              (o.within.ends a m)
        ]);
    ends = each (λ b. Memᴰ b.to nodes)
        (λ a m. elim (side a m) [
          | inl s ↦ Memᴰ.cast s.to (o.within.ends a m)
          | inr s ↦ Memᴰ.cast s.to
              (o.within.starts a m)
        ]);
  }

  -- where the two ways of an edge start
  tail_f : (a : Arc) → Memᴰ a es → tail' (σ (fwd a.num)) ≡ a.from
  tail_f a m = r.tails (fwd a.num) (fwd_in m) ∙ o.linked.starts a m

  tail_b : (a : Arc) → Memᴰ a es → tail' (σ (bwd a.num)) ≡ a.to
  tail_b a m = r.tails (bwd a.num) (bwd_in m) ∙ o.linked.ends a m

  nxt : (d : Dart) → Memᴰ d (darts es) → Memᴰ (next d) (darts es)
  nxt d m = next_in_lem o.linked m

  linked : Linked fs tail' next' face'
  linked = record {
    starts = each (λ b. tail' (fwd b.num) ≡ b.from)
        (λ a m. elim (side a m) [
          | inl s ↦ ap tail' (sym s.forth) ∙ tail_f a m
              ∙ sym s.from
          | inr s ↦ ap tail' (sym s.back) ∙ tail_b a m ∙ sym s.from
        ]);
    ends = each (λ b. tail' (bwd b.num) ≡ b.to)
        (λ a m. elim (side a m) [
          | inl s ↦ ap tail' (sym s.back) ∙ tail_b a m
              ∙ sym s.to
          | inr s ↦ ap tail' (sym s.forth) ∙ tail_f a m ∙ sym s.to
        ]);
    perm = Permᴰ.trans (Permᴰ.map next' (Permᴰ.symm moved))
        (Permᴰ.trans (subst (λ k. Permᴰ k (map σ (darts es))) (sym steps)
        (Permᴰ.map σ o.linked.perm)) moved);
    meets = origin (λ d. tail' (next' d) ≡ tail' (rev d))
        (λ d m. ap tail' (r.nexts d m) ∙ r.tails (next d) (nxt d m) ∙ o.linked.meets d m
        ∙ sym (r.tails (rev d) (rev_in es m)) ∙ ap tail' (r.turned d m));
    keeps = origin (λ d. face' (next' d) ≡ face' d)
        (λ d m. ap face' (r.nexts d m) ∙ r.faces (next d) (nxt d m) ∙ o.linked.keeps d m ∙ sym (r.faces d m));
  }
    where
      steps : map next' (map σ (darts es)) ≡ map σ (map next (darts es))
      steps = map_square next' σ σ next (darts es) r.nexts

  turns : (k : ℕ) (d : Dart) → Memᴰ d (darts es) → Memᴰ (iterate k (about_node next) d) (darts es)
      × (iterate k (about_node next') (σ d) ≡ σ (iterate k (about_node next) d))
  turns zero d m = (m, refl)
  turns (suc k) d m = go (turns k d m)
    where
      go : Memᴰ (iterate k (about_node next) d) (darts es)
          × (iterate k (about_node next') (σ d) ≡ σ (iterate k (about_node next) d))
          → Memᴰ (iterate (suc k) (about_node next) d) (darts es)
          × (iterate (suc k) (about_node next') (σ d) ≡ σ (iterate (suc k) (about_node next) d))
      go x = (
        nxt (rev c) (rev_in es x.0),
        ap (about_node next') x.1 ∙ ap next' (sym (r.turned c x.0))
            ∙ r.nexts (rev c) (rev_in es x.0),
      )
        where
          c : Dart
          c = iterate k (about_node next) d

  one-turn : OneTurn fs tail' next'
  one-turn d d' m m' = origin (λ d. tail' d ≡ tail' d' → Leads (about_node next') d d')
      (λ c k. origin (λ d'. tail' (σ c) ≡ tail' d' → Leads (about_node next') (σ c) d')
      (λ c' k' q. go c c' k k' (sym (r.tails c k) ∙ q ∙ r.tails c' k')) d' m') d m
    where
      go : (c c' : Dart) → Memᴰ c (darts es) → Memᴰ c' (darts es) → tail c ≡ tail c'
          → Leads (about_node next') (σ c) (σ c')
      go c c' k k' q = let old = o.one-turn c c' k k' q in (old.0, (turns old.0 c k).1 ∙ ap σ old.1)

  colouring : Colouring fs face'
  unfolding fs
  colouring c cycle = (S, each (λ b. c b.num ≡ S (face' (fwd b.num)) ⊕ S (face' (bwd b.num))) divides)
    where
      old : ℕ → Bool
      old k = c (σ (fwd k)).edge

      before : Cycle es old
      before X = sum_cong es (λ a. old a.num && across X a) (λ a. c (named σ a).num && across X (named σ a))
          (λ a m. ap (λ x. c (named σ a).num && x) (elim (side a m) [
            | inl s ↦ sym (ap₂ (λ x y. X x ⊕ X y) s.from s.to)
            | inr s ↦ eq2 (λ x y. x ⊕ y) (λ x y. y ⊕ x) tt (X a.from) (X a.to)
                ∙ sym (ap₂ (λ x y. X x ⊕ X y) s.from s.to)
          ])) ∙ sym (sum-map (named σ) es (λ b. c b.num && across X b)) ∙ cycle X

      S : ℕ → Bool
      S = (o.colouring old before).0

      here : (a : Arc) → Memᴰ a es → c (named σ a).num
          ≡ S (face' (σ (fwd a.num))) ⊕ S (face' (σ (bwd a.num)))
      here a m = (o.colouring old before).1 a m
          ∙ sym (ap₂ (λ x y. S x ⊕ S y) (r.faces (fwd a.num) (fwd_in m)) (r.faces (bwd a.num) (bwd_in m)))

      divides : (a : Arc) → Memᴰ a es → c (named σ a).num
          ≡ S (face' (fwd (named σ a).num)) ⊕ S (face' (bwd (named σ a).num))
      divides a m = here a m ∙ elim (side a m) [
        | inl s ↦ ap₂ (λ x y. S (face' x) ⊕ S (face' y)) s.forth s.back
        | inr s ↦ ap₂ (λ x y. S (face' x) ⊕ S (face' y)) s.forth s.back
            ∙ eq2 (λ x y. x ⊕ y) (λ x y. y ⊕ x) tt (S (face' (bwd (named σ a).num))) (S (face' (fwd (named σ a).num)))
      ]

  euler : Euler nodes fs faces
  unfolding fs
  euler = omega (
    arith,
    o.euler,
    length-map es (named σ),
    pieces_of_chains nodes es fs (λ x y. chain_image (λ n. n) to)
        (λ x y. chain_image (λ n. n) (each (λ b. Chain es b.from b.to) back)),
  )
    where
      to : (a : Arc) → Memᴰ a es → Chain fs a.from a.to
      to a m = elim (side a m) [
        | inl s ↦ subst (λ x. Chain fs x a.to) s.from
            (subst (λ y. Chain fs (named σ a).from y) s.to (along (named σ a) (Memᴰ.map (named σ) m) stay))
        | inr s ↦ subst (λ x. Chain fs x a.to) s.to
            (subst (λ y. Chain fs (named σ a).to y) s.from (against (named σ a) (Memᴰ.map (named σ) m) stay))
      ]

      back : (a : Arc) → Memᴰ a es → Chain es (named σ a).from (named σ a).to
      back a m = elim (side a m) [
        | inl s ↦ subst (λ x. Chain es x (named σ a).to) (sym s.from)
            (subst (λ y. Chain es a.from y) (sym s.to) (along a m stay))
        | inr s ↦ subst (λ x. Chain es x (named σ a).to) (sym s.from)
            (subst (λ y. Chain es a.to y) (sym s.to) (against a m stay))
      ]

  -- a map in the plane under other names
  pub planar_named : Planar nodes (map (named σ) es) tail' next' face' faces
  unfolding fs
  planar_named = record {
    nodes_once = o.nodes_once;
    edges_once = once;
    within = within;
    linked = linked;
    one-turn = one-turn;
    colouring = colouring;
    euler = euler;
  }
