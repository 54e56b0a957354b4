-- An edge is put in at two corners of one face. Assumes nothing.
use mathlib.Core.Path.{◌≡◌, refl, sym, ap, ◌∙◌, subst}
use mathlib.Core.List.Memᴰ
use mathlib.Core.List.Permᴰ
use mathlib.Core.List.{List, ◌∷◌, Memᴰ}
use Prim.Native.Nat.{ℕ, suc}
use Rattle.lists.specs.Members.{Distinct}
use Rattle.lists.proofs.Members.{each-cons}
use Rattle.lists.proofs.Perms.{perm_in}
use Rattle.planar_maps.specs.Map.{Arc, Dart, fwd, bwd, rev, darts, Linked, Colouring}
use Rattle.planar_maps.specs.Pieces.{Chain, nums, Within}
use Rattle.planar_maps.specs.Rings.{Leads, about_node, OneTurn}
use Rattle.planar_maps.specs.Weave.{with_edge, lone_edge, Corner, alone, after, tie, woven, CornerFits}
use Rattle.planar_maps.specs.Planar.{Planar}
use Rattle.planar_maps.proofs.Cycles.{Grown, split_keeps}
use Rattle.planar_maps.proofs.Bridges.{Fresh, bridge_keeps}
use Rattle.planar_maps.proofs.Rings.{rev_in}
use Rattle.planar_maps.proofs.Hooks.{fwd≢bwd, fresh_dart, exchange_other, hook-linked, with_fwd, with_bwd}
use Rattle.planar_maps.proofs.Hooks.{with_other, lone-linked}
use Rattle.planar_maps.proofs.Turns.{rev-rev, Turning, turning, tie_turning}
use Rattle.planar_maps.proofs.Agree.{colouring_agree, linked_agree, turn_agree}
use Rattle.planar_maps.proofs.Joins.{join_apart}
use Rattle.planar_maps.proofs.Euler.{euler_split, euler_bridge}

-- a dart tied in at a corner of its face
pub tie-linked : {es : List Arc} {tail : Dart → ℕ} {next : Dart → Dart} {face : Dart → ℕ} → Linked es tail next face
    → Distinct (nums es) → (ds : List Dart) → ((d : Dart) → Memᴰ d ds → Memᴰ d (darts es))
    → (z : Dart) → Memᴰ z (darts es) → (n φ : ℕ) → tail (rev z) ≡ n → face z ≡ φ → (k : Corner)
    → CornerFits ds tail face n φ k → Linked es tail (tie k z next) face
tie-linked l dis ds sub z m n φ t f alone fits = l
tie-linked {es} l dis ds sub z m n φ t f (after p) fits =
    hook-linked l dis p z (Memᴰ.cast (sym (rev-rev p)) (rev_in es (sub (rev p) fits.0))) m (fits.1 ∙ sym t)
    (fits.2 ∙ sym f)

-- the edge a is put in at the corners k and k' of a linked map: every dart is still in the face that it was in
pub woven-linked : {es : List Arc} {tail : Dart → ℕ} {next : Dart → Dart} {face : Dart → ℕ} → Linked es tail next face
    → Distinct (nums es) → (a : Arc) → Fresh a es → (φ : ℕ) (k k' : Corner)
    → CornerFits (darts es) (with_edge a.num a.from a.to tail) (with_edge a.num φ φ face) a.from φ k
    → CornerFits (fwd a.num ∷ darts es) (with_edge a.num a.from a.to tail) (with_edge a.num φ φ face)
    a.to φ k'
    → Linked (a ∷ es) (with_edge a.num a.from a.to tail) (woven a.num k k' next)
    (with_edge a.num φ φ face)
woven-linked {es} {tail} {next} {face} l once a fresh φ k k' fits fits' =
    tie-linked
    (tie-linked (lone-linked fresh φ l) (fresh, once) (darts es) (λ d m. Memᴰ.tail (Memᴰ.tail m))
    (bwd a.num) (Memᴰ.tail (Memᴰ.head refl)) a.from φ (with_fwd a.num a.from a.to tail)
    (with_bwd a.num φ φ face) k fits)
    (fresh, once) (fwd a.num ∷ darts es)
    (each-cons {p = λ d. Memᴰ d (darts (a ∷ es))} (Memᴰ.head refl)
    (λ d m. Memᴰ.tail (Memᴰ.tail m))) (fwd a.num) (Memᴰ.head refl) a.to φ
    (with_bwd a.num a.from a.to tail) (with_fwd a.num φ φ face) k' fits'

-- into a map in the plane
module _ {nodes : List ℕ} {es : List Arc} {tail : Dart → ℕ} {next : Dart → Dart} {face : Dart → ℕ} {faces : ℕ}
    (planar : Planar nodes es tail next face faces)
    (a : Arc) (fresh : Fresh a es) (start : Memᴰ a.from nodes) (end : Memᴰ a.to nodes) (φ : ℕ)
    (k k' : Corner)
    (fits : CornerFits (darts es) (with_edge a.num a.from a.to tail) (with_edge a.num φ φ face) a.from
    φ k)
    (fits' : CornerFits (fwd a.num ∷ darts es) (with_edge a.num a.from a.to tail)
    (with_edge a.num φ φ face)
    a.to φ k') where
  T : Dart → ℕ
  T = with_edge a.num a.from a.to tail

  F : Dart → ℕ
  F = with_edge a.num φ φ face

  N : Dart → Dart
  N = lone_edge a.num next

  dis : Distinct (nums (a ∷ es))
  dis = (fresh, planar.edges_once)

  nf : N (fwd a.num) ≡ bwd a.num
  unfolding N
  nf = with_fwd a.num (bwd a.num) (fwd a.num) next

  nb : N (bwd a.num) ≡ fwd a.num
  unfolding N
  nb = with_bwd a.num (bwd a.num) (fwd a.num) next

  ts : T (fwd a.num) ≡ a.from
  unfolding T
  ts = with_fwd a.num a.from a.to tail

  te : T (bwd a.num) ≡ a.to
  unfolding T
  te = with_bwd a.num a.from a.to tail

  old : {B : Type 0} (u v : B) (f : Dart → B) (d : Dart) → Memᴰ d (darts es) → with_edge a.num u v f d ≡ f d
  old u v f d m = with_other a.num u v f d (fresh_dart a es fresh m)

  -- the old map, by the functions that know the edge
  before : Linked es T N F
  unfolding T N F
  before = linked_agree planar.linked (old a.from a.to tail) (old (bwd a.num) (fwd a.num) next)
      (old φ φ face)

  one : OneTurn es T N
  unfolding T N F
  one = turn_agree planar.linked (old a.from a.to tail) (old (bwd a.num) (fwd a.num) next)
      planar.one-turn

  colours : Colouring es F
  unfolding F
  colours = colouring_agree es face F (old φ φ face) planar.colouring

  linked⁺ : Linked (a ∷ es) T (woven a.num k k' next) F
  unfolding T F
  linked⁺ = woven-linked planar.linked planar.edges_once a fresh φ k k' fits fits'

  still : (c : Corner) → CornerFits (darts es) T F a.from φ c → tie c (bwd a.num) N (fwd a.num) ≡ bwd a.num
  still alone h = nf
  still (after p) h = ap N (exchange_other p (bwd a.num) (fwd a.num)
      (λ q. fresh_dart a es fresh h.0 (ap (λ (d : Dart). d.edge) (sym q))) fwd≢bwd) ∙ nf

  both : Turning (bwd a.num ∷ fwd a.num ∷ darts es) T (about_node (woven a.num k k' next))
  unfolding T N F
  both = tie_turning (tie k (bwd a.num) N)
      (tie_turning N (turning before one) (bwd a.num)
      (λ d m q. fresh_dart a es fresh m (ap (λ (d : Dart). d.edge) q)) nb F φ k
      (subst (λ n. CornerFits (darts es) T F n φ k) (sym ts) fits))
      (fwd a.num) (each-cons {p = λ d. (d ≡ bwd a.num) → ⊥} fwd≢bwd
      (λ d m q. fresh_dart a es fresh m (ap (λ (d : Dart). d.edge) q))) (still k fits) F φ k'
      (subst (λ n. CornerFits (fwd a.num ∷ darts es) T F n φ k') (sym te) fits')

  swapped : (d : Dart) → Memᴰ d (darts (a ∷ es)) → Memᴰ d (bwd a.num ∷ fwd a.num ∷ darts es)
  swapped d m = perm_in (Permᴰ.swap refl refl) m

  woven-turn : OneTurn (a ∷ es) T (woven a.num k k' next)
  woven-turn d d' m m' q = both.round d d' (swapped d m) (swapped d' m') q

  inside : Within nodes (a ∷ es)
  inside = record {
    starts = each-cons {p = λ b. Memᴰ b.from nodes} start planar.within.starts;
    ends = each-cons {p = λ b. Memᴰ b.to nodes} end planar.within.ends;
  }

  -- both sides of the edge are on one ring: the faces stay, and two pieces become one
  pub planar_join : Leads (woven a.num k k' next) (fwd a.num) (bwd a.num)
      → Planar nodes (a ∷ es) (with_edge a.num a.from a.to tail) (woven a.num k k' next)
      (with_edge a.num φ φ face) faces
  unfolding T N F
  planar_join r = record {
    nodes_once = planar.nodes_once;
    edges_once = dis;
    within = inside;
    linked = linked⁺;
    one-turn = woven-turn;
    colouring = bridge_keeps {m = λ f. f}
        (record { others = old φ φ face; sides = with_fwd a.num φ φ face ∙ sym (with_bwd a.num φ φ face) })
        planar.colouring apart;
    euler = (euler_bridge nodes a es faces planar.nodes_once inside apart).0 planar.euler;
  }
    where
      apart : Chain es a.from a.to → ⊥
      apart = join_apart a es T N F φ before colours one dis nf nb ts k k' fits fits' linked⁺ r

  -- the two sides get different labels: a face is split
  pub planar_split : (new : Dart → ℕ) (m : ℕ → ℕ) → Grown a es face new m
      → ((new (fwd a.num) ≡ new (bwd a.num)) → ⊥)
      → ((d : Dart) → Memᴰ d (darts (a ∷ es)) → new (woven a.num k k' next d) ≡ new d)
      → Planar nodes (a ∷ es) (with_edge a.num a.from a.to tail) (woven a.num k k' next) new (suc faces)
  unfolding T N F
  planar_split new m grown apart keeps = record {
    nodes_once = planar.nodes_once;
    edges_once = dis;
    within = inside;
    linked = linked;
    one-turn = woven-turn;
    colouring = split_keeps grown planar.colouring linked apart;
    euler = (euler_split nodes a es faces linked apart).0 planar.euler;
  }
    where
      linked : Linked (a ∷ es) T (woven a.num k k' next) new
      linked = record {
        starts = linked⁺.starts;
        ends = linked⁺.ends;
        perm = linked⁺.perm;
        meets = linked⁺.meets;
        keeps = keeps;
      }
