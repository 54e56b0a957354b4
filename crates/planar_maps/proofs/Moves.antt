-- The empty map, a node put in or taken out, and the edges in another order. Assumes nothing.
use mathlib.Core.Path.{◌≡◌, refl, sym, ap, ◌∙◌}
use mathlib.Core.Bool.{false, ◌&&◌}
use mathlib.Core.List.Memᴰ
use mathlib.Core.List.{List, [], ◌∷◌, Memᴰ}
use mathlib.Core.List.Permᴰ
use mathlib.Core.List.{Permᴰ}
use Prim.Native.Nat.{ℕ}
use native.Mathlib.Omega.{arith}
use Rattle.lists.proofs.Members.{in_rest}
use Rattle.lists.proofs.Perms.{perm_in, perm_length, perm_distinct}
use Rattle.lists.proofs.Sums.{sum_perm}
use Rattle.planar_maps.specs.Map.{Arc, Dart, fwd, bwd, darts, across, Linked}
use Rattle.planar_maps.specs.Pieces.{Isolated, Euler}
use Rattle.planar_maps.specs.Planar.{Planar}
use Rattle.planar_maps.proofs.Chains.{chain_into, pieces_of_chains}
use Rattle.planar_maps.proofs.Euler.{euler_empty, euler_node}

pub planar_empty : (tail : Dart → ℕ) (next : Dart → Dart) (face : Dart → ℕ) → Planar [] [] tail next face 1
planar_empty tail next face = record {
  nodes_once = tt;
  edges_once = tt;
  within = record { starts = λ a m. absurd (Memᴰ.not-nil m); ends = λ a m. absurd (Memᴰ.not-nil m) };
  linked = record {
    starts = λ a m. absurd (Memᴰ.not-nil m);
    ends = λ a m. absurd (Memᴰ.not-nil m);
    perm = Permᴰ.nil;
    meets = λ d m. absurd (Memᴰ.not-nil m);
    keeps = λ d m. absurd (Memᴰ.not-nil m);
  };
  one-turn = λ d d' m m' e. absurd (Memᴰ.not-nil m);
  colouring = λ c cycle. (λ f. false, λ a m. absurd (Memᴰ.not-nil m));
  euler = euler_empty;
}

pub planar_node : {nodes : List ℕ} {es : List Arc} {tail : Dart → ℕ} {next : Dart → Dart} {face : Dart → ℕ} {faces : ℕ}
    → Planar nodes es tail next face faces → (n : ℕ) → (Memᴰ n nodes → ⊥)
    → Planar (n ∷ nodes) es tail next face faces
planar_node {nodes} {es} {faces = faces} p n new = record {
  nodes_once = (new, p.nodes_once);
  edges_once = p.edges_once;
  within = record {
    starts = λ a m. Memᴰ.tail (p.within.starts a m);
    ends = λ a m. Memᴰ.tail (p.within.ends a m);
  };
  linked = p.linked;
  one-turn = p.one-turn;
  colouring = p.colouring;
  euler = (euler_node n nodes es faces (record {
    starts = λ a m e. new (Memᴰ.cast (sym e) (p.within.starts a m));
    ends = λ a m e. new (Memᴰ.cast (sym e) (p.within.ends a m));
  })).0 p.euler;
}

pub planar_node_off : {n : ℕ} {nodes : List ℕ} {es : List Arc} {tail : Dart → ℕ} {next : Dart → Dart} {face : Dart
    → ℕ} {faces : ℕ} → Planar (n ∷ nodes) es tail next face faces → Isolated n es → Planar nodes es tail next face faces
planar_node_off {n} {nodes} {es} {faces = faces} p i = record {
  nodes_once = p.nodes_once.1;
  edges_once = p.edges_once;
  within = record {
    starts = λ a m. in_rest (i.starts a m) (p.within.starts a m);
    ends = λ a m. in_rest (i.ends a m) (p.within.ends a m);
  };
  linked = p.linked;
  one-turn = p.one-turn;
  colouring = p.colouring;
  euler = (euler_node n nodes es faces i).1 p.euler;
}

-- ---- the edges in another order

pub darts_perm : {es fs : List Arc} → Permᴰ es fs → Permᴰ (darts es) (darts fs)
darts_perm Permᴰ.nil = Permᴰ.nil
darts_perm (Permᴰ.cons e p) = Permᴰ.cons (ap (λ (a : Arc). fwd a.num) e)
    (Permᴰ.cons (ap (λ (a : Arc). bwd a.num) e) (darts_perm p))
darts_perm (Permᴰ.swap {l = l} e d) =
    four (ap (λ (a : Arc). fwd a.num) e) (ap (λ (a : Arc). bwd a.num) e) (ap (λ (a : Arc). fwd a.num) d)
    (ap (λ (a : Arc). bwd a.num) d)
  where
    four : {a b c d a' b' c' d' : Dart} {k : List Dart} → a ≡ a' → b ≡ b' → c ≡ c' → d ≡ d'
        → Permᴰ (a ∷ b ∷ c ∷ d ∷ k) (c' ∷ d' ∷ a' ∷ b' ∷ k)
    four {k = k} p q r s = Permᴰ.trans (Permᴰ.cons p (Permᴰ.swap q r))
        (Permᴰ.trans (Permᴰ.swap refl refl)
        (Permᴰ.trans (Permᴰ.cons refl (Permᴰ.cons refl (Permᴰ.swap refl s)))
        (Permᴰ.cons refl (Permᴰ.swap refl refl))))
darts_perm (Permᴰ.trans p q) = Permᴰ.trans (darts_perm p) (darts_perm q)

pub linked_perm : {es fs : List Arc} {tail : Dart → ℕ} {next : Dart → Dart} {face : Dart → ℕ} → Permᴰ es fs
    → Linked es tail next face → Linked fs tail next face
linked_perm {es} {fs} {next = next} p l = record {
  starts = λ a m. l.starts a (perm_in (Permᴰ.symm p) m);
  ends = λ a m. l.ends a (perm_in (Permᴰ.symm p) m);
  perm = Permᴰ.trans (Permᴰ.map next (Permᴰ.symm (darts_perm p))) (Permᴰ.trans l.perm (darts_perm p));
  meets = λ d m. l.meets d (perm_in (Permᴰ.symm (darts_perm p)) m);
  keeps = λ d m. l.keeps d (perm_in (Permᴰ.symm (darts_perm p)) m);
}

pub planar_perm : {nodes : List ℕ} {es fs : List Arc} {tail : Dart → ℕ} {next : Dart → Dart} {face : Dart
    → ℕ} {faces : ℕ} → Permᴰ es fs → Planar nodes es tail next face faces → Planar nodes fs tail next face faces
planar_perm {nodes} {es} {fs} {faces = faces} p o = record {
  nodes_once = o.nodes_once;
  edges_once = perm_distinct (Permᴰ.map (λ a. a.num) p) o.edges_once;
  within = record { starts = λ a m. o.within.starts a (back m); ends = λ a m. o.within.ends a (back m) };
  linked = linked_perm p o.linked;
  one-turn = λ d d' m m'. o.one-turn d d' (dback m) (dback m');
  colouring = λ c cycle. (
    (o.colouring c (λ X. sum_perm (λ a. c a.num && across X a) p ∙ cycle X)).0,
    λ a m. (o.colouring c (λ X. sum_perm (λ a. c a.num && across X a) p ∙ cycle X)).1 a (back m),
  );
  euler = euler;
}
  where
    back : {a : Arc} → Memᴰ a fs → Memᴰ a es
    back m = perm_in (Permᴰ.symm p) m

    dback : {d : Dart} → Memᴰ d (darts fs) → Memᴰ d (darts es)
    dback m = perm_in (Permᴰ.symm (darts_perm p)) m

    euler : Euler nodes fs faces
    euler = omega (
      arith,
      o.euler,
      perm_length p,
      pieces_of_chains nodes es fs (λ x y. chain_into (λ a m. perm_in p m)) (λ x y. chain_into (λ a m. back m)),
    )
