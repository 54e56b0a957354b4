-- An edge drawn in between two corners of one face: a linked map stays linked. Assumes nothing.
use mathlib.Core.Path.{◌≡◌, refl, sym, ap, ◌∙◌, subst}
use mathlib.Core.Bool.{true}
use mathlib.Core.List.Permᴰ
use mathlib.Core.List.{List, ◌∷◌, Memᴰ, Permᴰ}
use Prim.Native.Nat.{ℕ}
use Rattle.lists.specs.Members.{Distinct}
use Rattle.lists.proofs.Perms.{perm_distinct}
use Rattle.plane.specs.Directions.{Way, same_way}
use Rattle.curves.specs.Curves.{Curve, start_way, end_way}
use Rattle.planar_maps.specs.Map.{Arc, Dart, fwd, bwd, rev, darts, Linked}
use Rattle.planar_maps.specs.Pieces.{nums}
use Rattle.planar_maps.specs.Rings.{same_dart}
use Rattle.planar_maps.specs.Weave.{with_edge, lone_edge, Corner, woven, CornerFits}
use Rattle.planar_maps.proofs.Agree.{linked_agree}
use Rattle.planar_maps.proofs.Moves.{linked_perm}
use Rattle.planar_maps.proofs.Weaving.{woven-linked}
use Rattle.rotation.specs.Law.{first_clockwise, from, Apart}
use Rattle.rotation.specs.Law as rotation
use Rattle.rotation.proofs.Order.{same_way_refl}
use Rattle.rotation.proofs.Node.{first_in}
use Rattle.map.specs.declared.Variant.{Variant}
use Rattle.map.specs.Rows.{Map, Sizes}
use Rattle.map.specs.Darts.{arcs, directed, leaves, next, bears, way, departures}
use Rattle.map.specs.Links.{corner_face}
use Rattle.map.specs.Edits.{drawn}
use Rattle.map_laws.proofs.Readings.{arc_of, departs}
use Rattle.map_laws.proofs.Reasons.{AddEdge}
use Rattle.map_laws.proofs.Departures.{from_alike, departures-from}
use Rattle.map_laws.proofs.LawOrder.{first_alike}
use Rattle.map_laws.proofs.Faces.{corner_first}
use Rattle.map_laws.proofs.LinkedIn.{drawn_row, appended}
use Rattle.map_laws.proofs.Drawn as drawing
use Rattle.map_laws.proofs.Drawn.{Free, edge-free}
use Rattle.map_laws.proofs.Weaving.{put-woven}

-- what an edge needs that is drawn from u to v along c, with the face φ on both sides; neither the plane nor the link
-- law
pub record Draws (m : Map) (u v : ℕ) (c : Curve) (φ : ℕ) : Type 0 where
  pub linked : Linked (arcs m) (leaves m) (next m) (bears m)
  pub once : Distinct (nums (arcs m))
  pub free : Free m u v c
  -- its corners are in the face
  pub corner_start : (d : Dart) → Memᴰ d (departures m u) → corner_face m u (start_way c) ≡ φ
  pub corner-end : (d : Dart) → Memᴰ d (departures m v) → corner_face m v (end_way c) ≡ φ

-- the corners of the face φ at which the edge is woven in
pub record WovenIn (m : Map) (u v : ℕ) (c : Curve) (φ : ℕ) : Type 0 where
  pub start : Corner
  pub end : Corner
  pub fits_start :
      CornerFits (directed m) (with_edge m.next.edges u v (leaves m)) (with_edge m.next.edges φ φ (bears m)) u
      φ start
  pub fits-end :
      CornerFits (fwd m.next.edges ∷ directed m) (with_edge m.next.edges u v (leaves m))
      (with_edge m.next.edges φ φ (bears m)) v φ end
  pub links :
      (d : Dart) → Memᴰ d (darts (arc_of (drawn_row m u v c φ) ∷ arcs m)) → next (drawn u v c φ m) d
      ≡ woven m.next.edges start end (next m) d

-- kinds 11 and 12: its corners are in one face
pub draws_edge_lem : {how : Variant} {s : Sizes} {m : Map} {u v : ℕ} {c : Curve} → AddEdge how s m u v c
    → Linked (arcs m) (leaves m) (next m) (bears m) → Distinct (nums (arcs m)) → Apart (leaves m) (way m) (directed m)
    → (Memᴰ m.next.edges (nums (arcs m)) → ⊥)
    → Draws m u v c (corner_face m u (start_way c))
draws_edge_lem h linked once apart fresh = record {
  linked = linked;
  once = once;
  free = edge-free h apart fresh;
  corner_start = λ d k. refl;
  corner-end = λ d k. sym h.one_face;
}

module _ (m : Map) (u v : ℕ) (c : Curve) (φ : ℕ) (draws : Draws m u v c φ) where
  abbrev e : ℕ
  e = m.next.edges

  abbrev f : Dart
  f = fwd m.next.edges

  abbrev b : Dart
  b = bwd m.next.edges

  abbrev a : Arc
  a = arc_of (drawn_row m u v c φ)

  abbrev D : Map
  D = drawn u v c φ m

  abbrev W : Dart → Way
  W = way (appended m u v c φ)

  abbrev T : Dart → ℕ
  T = with_edge m.next.edges u v (leaves m)

  abbrev F : Dart → ℕ
  F = with_edge m.next.edges φ φ (bears m)

  abbrev all : List Dart
  all = darts (arc_of (drawn_row m u v c φ) ∷ arcs m)

  old : {B : Type 0} (x y : B) (g : Dart → B) (d : Dart) → Memᴰ d (directed m) → with_edge e x y g d ≡ g d
  old = drawing.old m u v c φ draws.free

  -- ---- corners

  corner : (p : Dart) (n : ℕ) (w : Way) → T p ≡ n → W p ≡ w
      → ((d : Dart) → Memᴰ d (departures m n) → corner_face m n w ≡ φ) → (d : Dart)
      → Memᴰ d (from T (directed m) (T p)) → F (first_clockwise W (W p) p (from T (directed m) (T p))) ≡ φ
  corner p n w tp wp face d k = ap (λ (l : List Dart). F (first_clockwise W (W p) p l)) list ∙ ap F first
      ∙ old φ φ (bears m) c' (departs m n in_c).0 ∙ sym (corner_first m n w p k') ∙ face d k'
    where
      list : from T (directed m) (T p) ≡ departures m n
      list = from_alike (directed m) (leaves m) T (old u v (leaves m)) (T p) ∙ ap (from (leaves m) (directed m)) tp
          ∙ sym (departures-from m n)

      k' : Memᴰ d (departures m n)
      k' = subst (λ (l : List Dart). Memᴰ d l) list k

      c' : Dart
      c' = first_clockwise (way m) w p (departures m n)

      in_c : Memᴰ c' (departures m n)
      in_c = first_in (way m) w p (departures m n) k'

      alike : (v v' : Way) → v ≡ v' → same_way v v' ≡ true
      alike v v' q = rw q (same_way_refl v')

      first : first_clockwise W (W p) p (departures m n) ≡ c'
      first = first_alike W (way m) (W p) w p (departures m n) (alike (W p) w wp)
          (λ d i. alike (W d) (way m d) (drawing.W-old m u v c φ draws.free d (departs m n i).0))

  -- ---- the links

  -- links of the theory
  N : Dart → Dart
  N = rotation.link_edge same_dart rev W T f (directed m) (lone_edge e (next m))

  put : (k k' : Corner) × CornerFits (darts (arcs m)) T F u φ k × CornerFits (f ∷ darts (arcs m)) T F v φ k'
      × ((d : Dart) → Memᴰ d all → N d ≡ woven e k k' (next m) d)
  unfolding N
  put = put-woven draws.linked draws.once a draws.free.fresh φ W
      (drawing.drawn-apart m u v c φ draws.free)
      (corner f u (start_way c) (drawing.T-f m u v c φ draws.free) (drawing.W-f m u v c φ draws.free)
      draws.corner_start)
      (corner b v (end_way c) (drawing.T-b m u v c φ draws.free) (drawing.W-b m u v c φ draws.free)
      draws.corner-end)

  pub woven_in : WovenIn m u v c φ
  unfolding N
  woven_in = record {
    start = put.0;
    end = put.1;
    fits_start = put.2;
    fits-end = put.3;
    links = λ d k. drawing.D-links m u v c φ draws.free d k ∙ put.4 d k;
  }

  abbrev K : WovenIn m u v c φ
  K = woven_in

  pub w_linked : Linked (a ∷ arcs m) T (woven e K.start K.end (next m)) F
  w_linked = woven-linked draws.linked draws.once a draws.free.fresh φ K.start K.end K.fits_start
      K.fits-end

  pub D-perm : Permᴰ (a ∷ arcs m) (arcs D)
  D-perm = Permᴰ.symm (drawing.D-perm m u v c φ draws.free)

  pub all_D : {d : Dart} → Memᴰ d all → Memᴰ d (directed D)
  all_D k = drawing.all_D m u v c φ draws.free k

  pub D-leaves : (d : Dart) → Memᴰ d all → leaves D d ≡ T d
  D-leaves = drawing.D-leaves m u v c φ draws.free

  pub D-bears : (d : Dart) → Memᴰ d all → bears D d ≡ F d
  D-bears = drawing.D-bears m u v c φ draws.free

  -- old directed edges are there, and bear what they bore
  pub D-kept : (d : Dart) → Memᴰ d (directed m) → bears D d ≡ bears m d
  D-kept d k = D-bears d (Memᴰ.tail (Memᴰ.tail k)) ∙ old φ φ (bears m) d k

  pub D-faces : D.faces ≡ m.faces
  D-faces = drawing.D-faces m u v c φ draws.free

  pub D-linked : Linked (arcs D) (leaves D) (next D) (bears D)
  D-linked = linked_perm D-perm (linked_agree w_linked D-leaves K.links D-bears)

  pub D-once : Distinct (nums (arcs D))
  D-once = perm_distinct (Permᴰ.map (λ (a : Arc). a.num) D-perm) (draws.free.fresh, draws.once)
