-- Kinds 4, 11 and 12: an edge that departs in directions of its own keeps the law. Curves may cross. Assumes nothing.
use mathlib.Core.Path.{◌≡◌, refl, sym}
use mathlib.Core.Bool.{Bool, true, false, cond}
use mathlib.Core.List.Permᴰ
use mathlib.Core.List.{List, ◌∷◌, Memᴰ}
use mathlib.Core.Option.{get_or}
use Prim.Native.Nat.{ℕ}
use Rattle.lists.proofs.Perms.{perm_in}
use Rattle.plane.specs.Directions.{Way}
use Rattle.curves.specs.Curves.{Curve, start_way}
use Rattle.planar_maps.specs.Map.{Dart, fwd, bwd, rev, darts}
use Rattle.planar_maps.specs.Rings.{same_dart}
use Rattle.planar_maps.specs.Weave.{with_edge, lone_edge}
use Rattle.planar_maps.proofs.Rings.{rev_in}
use Rattle.planar_maps.proofs.Hooks.{fwd≢bwd, fresh_dart}
use Rattle.planar_maps.proofs.Turns.{rev-rev}
use Rattle.rotation.specs.Law.{Law}
use Rattle.rotation.specs.Law as rotation
use Rattle.rotation.proofs.Whole.{link_edge_law}
use Rattle.rotation.proofs.Ties.{tells}
use Rattle.map.specs.declared.Variant.{Variant}
use Rattle.map.specs.Rows.{Map, Sizes, node, has_node}
use Rattle.map.specs.Darts.{arcs, directed, leaves, next, way, departures}
use Rattle.map.specs.Links.{link_edge, corner_face}
use Rattle.map.specs.Edits.{drawn, add_iso_edge, drawn_in, splits_face, shared_out, split_face, add_edge}
use Rattle.map.specs.Reasons.{isolated}
use Rattle.map_laws.proofs.Readings.{arc_of, departs}
use Rattle.map_laws.proofs.Reasons.{AddLone, AddEdge}
use Rattle.map_laws.proofs.Departures.{law_agree}
use Rattle.map_laws.proofs.LawOrder.{law_order}
use Rattle.map_laws.proofs.Form.{edge_new}
use Rattle.map_laws.proofs.LinkedIn.{drawn_row, appended}
use Rattle.map_laws.proofs.Drawn.{Free, old, drawn-apart, W-old, D-all, all_D, D-leaves, D-way, D-links, lone-free}
use Rattle.map_laws.proofs.Drawn.{edge-free}
use Rattle.grown.proofs.Sides.{sides_law}
use Rattle.grown.proofs.Law.Lawful.{Obeys, Lawful}

module _ (m : Map) (u v : ℕ) (c : Curve) (φ : ℕ) (free : Free m u v c) where
  abbrev e : ℕ
  e = m.next.edges

  abbrev f : Dart
  f = fwd m.next.edges

  abbrev b : Dart
  b = bwd m.next.edges

  abbrev D : Map
  D = drawn u v c φ m

  abbrev W : Dart → Way
  W = way (appended m u v c φ)

  abbrev T : Dart → ℕ
  T = with_edge m.next.edges u v (leaves m)

  -- all directed edges, the new ones first
  abbrev all : List Dart
  all = darts (arc_of (drawn_row m u v c φ) ∷ arcs m)

  -- links of the theory
  N : Dart → Dart
  N = rotation.link_edge same_dart rev W T f (directed m) (lone_edge e (next m))

  other : {d : Dart} → Memᴰ d (directed m) → (d.edge ≡ e) → ⊥
  other k = fresh_dart (arc_of (drawn_row m u v c φ)) (arcs m) free.fresh k

  put_obeys : Obeys m → Law same_dart rev T W (b ∷ f ∷ directed m) N
  unfolding N
  put_obeys law = link_edge_law same_dart rev T W tells rev-rev (directed m) (lone_edge e (next m)) f
      (law_agree (directed m) (old m u v c φ free u v (leaves m)) (W-old m u v c φ free) (next m) (lone_edge e (next m))
      (λ d k. old m u v c φ free (bwd e) (fwd e) (next m) (rev d) (rev_in (arcs m) k)) law)
      (λ k. other k refl) (λ k. other k refl) (λ p. fwd≢bwd (sym p)) (drawn-apart m u v c φ free)

  drawn_obeys : Obeys m → Obeys (drawn u v c φ m)
  unfolding N
  drawn_obeys law = law_agree (directed D) (λ d k. D-leaves m u v c φ free d (into k))
      (λ d k. D-way m u v c φ free d) N (next D)
      (λ d k. D-links m u v c φ free (rev d) (into (rev_in (arcs D) k)))
      (law_order same_dart tells T W (b ∷ f ∷ directed m) (directed D)
      (λ d k. all_D m u v c φ free (perm_in (Permᴰ.swap refl refl) k))
      (λ d k. perm_in (Permᴰ.swap refl refl) (into k)) (rotation.reverse_leads rev N) (drawn-apart m u v c φ free)
      (put_obeys law))
    where
      into : {d : Dart} → Memᴰ d (directed D) → Memᴰ d all
      into k = D-all m u v c φ free k

-- ---- the kinds

module _ (m : Map) (L : Lawful m) (s : Sizes) (u v : ℕ) (c : Curve) where
  pub lawful-lone : AddLone s m u v c → Free m u v c
  lawful-lone h = lone-free h L.apart (edge_new m L.edges_below) (bare u h.has_start h.isolated_start)
      (bare v h.has_end h.isolated-end)
    where
      bare : (n : ℕ) → has_node m n ≡ true → isolated m n ≡ true → (d : Dart) → Memᴰ d (departures m n) → ⊥
      bare n has iso d k = let x = departs m n k in L.bare n has iso d x.0 x.1

  pub add_lone_obeys : AddLone s m u v c → Obeys (add_iso_edge u v c m)
  unfolding add_iso_edge
  add_lone_obeys h = drawn_obeys m u v c (get_or (node m u).face 0) (lawful-lone h) L.law

  module _ (how : Variant) (h : AddEdge how s m u v c) where
    drawn_in_obeys : Obeys (drawn_in u v c m)
    drawn_in_obeys = drawn_obeys m u v c (corner_face m u (start_way c))
        (edge-free h L.apart (edge_new m L.edges_below)) L.law

    -- a face split changes faces only
    split_face_obeys : (e : ℕ) (X : Map) → Obeys X → Obeys (split_face how e X)
    unfolding split_face shared_out
    split_face_obeys e X l = sides_law X (split_face how e X) _ _ refl l

    pub add_edge_obeys : Obeys (add_edge how u v c m)
    unfolding add_edge
    add_edge_obeys = go (splits_face u v c m)
      where
        go : (x : Bool) → Obeys (cond x (split_face how m.next.edges (drawn_in u v c m)) (drawn_in u v c m))
        go true = split_face_obeys m.next.edges (drawn_in u v c m) drawn_in_obeys
        go false = drawn_in_obeys
