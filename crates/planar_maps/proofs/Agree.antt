-- A map depends on `tail`, `next` and `face` only at its own darts. Assumes nothing.
use mathlib.Core.Path.{◌≡◌, sym, ap, ◌∙◌, subst}
use mathlib.Core.List.{List, Memᴰ, Permᴰ}
use Prim.Native.Nat.{ℕ, zero, suc}
use Rattle.lists.proofs.Members.{map_cong}
use Rattle.planar_maps.specs.Map.{Arc, Dart, fwd, bwd, rev, darts, Linked, Colouring}
use Rattle.planar_maps.specs.Planar.{Planar}
use Rattle.planar_maps.specs.Rings.{about_node, OneTurn}
use Rattle.planar_maps.proofs.Cycles.{fwd_in, bwd_in}
use Rattle.planar_maps.proofs.Leads.{leads_through}
use Rattle.planar_maps.proofs.Rings.{rev_in, next_in_lem}

pub colouring_agree : (es : List Arc) (face face' : Dart → ℕ)
    → ((d : Dart) → Memᴰ d (darts es) → face' d ≡ face d) → Colouring es face → Colouring es face'
colouring_agree es face face' h P c cycle =
    ((P c cycle).0, λ a m. rw (h (fwd a.num) (fwd_in m), h (bwd a.num) (bwd_in m)) ((P c cycle).1 a m))

module _ {es : List Arc} {tail tail' : Dart → ℕ} {next next' : Dart → Dart} {face : Dart → ℕ}
    (l : Linked es tail next face)
    (ht : (d : Dart) → Memᴰ d (darts es) → tail' d ≡ tail d)
    (hn : (d : Dart) → Memᴰ d (darts es) → next' d ≡ next d) where
  pub linked_agree : {face' : Dart → ℕ} → ((d : Dart) → Memᴰ d (darts es) → face' d ≡ face d)
      → Linked es tail' next' face'
  linked_agree {face'} hf = record {
    starts = λ a m. ht (fwd a.num) (fwd_in m) ∙ l.starts a m;
    ends = λ a m. ht (bwd a.num) (bwd_in m) ∙ l.ends a m;
    perm = subst (λ k. Permᴰ k (darts es)) (sym (map_cong next' next (darts es) hn)) l.perm;
    meets = λ d m. ap tail' (hn d m) ∙ ht (next d) (next_in_lem l m) ∙ l.meets d m ∙ sym (ht (rev d) (rev_in es m));
    keeps = λ d m. ap face' (hn d m) ∙ hf (next d) (next_in_lem l m) ∙ l.keeps d m ∙ sym (hf d m);
  }

  pub turn_agree : OneTurn es tail next → OneTurn es tail' next'
  turn_agree one d d' m m' e =
      leads_through (about_node next) (about_node next') (λ c. c) (darts es) (λ c k. next_in_lem l (rev_in es k))
      (λ c k. (suc zero, hn (rev c) (rev_in es k))) m (one d d' m m' (sym (ht d m) ∙ e ∙ ht d' m'))

-- a map in the plane depends on its functions only at its own darts: how a changed table is seen to be what a theorem
-- speaks of
pub planar_agree : {nodes : List ℕ} {es : List Arc} {tail tail' : Dart → ℕ} {next next' : Dart
    → Dart} {face face' : Dart → ℕ} {faces : ℕ}
    → ((d : Dart) → Memᴰ d (darts es) → tail' d ≡ tail d)
    → ((d : Dart) → Memᴰ d (darts es) → next' d ≡ next d)
    → ((d : Dart) → Memᴰ d (darts es) → face' d ≡ face d)
    → Planar nodes es tail next face faces → Planar nodes es tail' next' face' faces
planar_agree {es = es} {face = face} {face' = face'} ht hn hf o = record {
  nodes_once = o.nodes_once;
  edges_once = o.edges_once;
  within = o.within;
  linked = linked_agree o.linked ht hn hf;
  one-turn = turn_agree o.linked ht hn o.one-turn;
  colouring = colouring_agree es face face' hf o.colouring;
  euler = o.euler;
}
