-- Numbers, faces and marks kept by kinds 1, 2, 3 and 6: isolated nodes, and another curve. Assumes nothing.
use mathlib.Core.Path.{◌≡◌, refl, sym, ap, ◌∙◌, subst}
use mathlib.Core.Logic.{◌⊎◌, inl, inr}
use mathlib.Core.Bool.{Bool, true, false, cond, not, true≢false}
use mathlib.Core.List.Memᴰ
use mathlib.Core.List.{List, [], ◌∷◌, ◌++◌, map, map-append, flat_map, Memᴰ}
use mathlib.Core.Option.{Option, none, some}
use Prim.Native.Nat.{ℕ, ◌+◌, ◌≤◌}
use native.Mathlib.Nat.{add-zero}
use native.Mathlib.Omega.{arith}
use lib.Dec.{ltb}
use Rattle.lists.specs.Tests.{same}
use Rattle.lists.specs.Scans.{keep, is_some}
use Rattle.lists.specs.Members.{Distinct}
use Rattle.lists.proofs.Bools.{same_true}
use Rattle.lists.proofs.Keeps.{keep_in, keep-map}
use Rattle.lists.proofs.Rising.{Rising, rising_append, rising_keep}
use Rattle.lists.proofs.Members.{each_last}
use Rattle.lists.proofs.Maps.{map_twice}
use Rattle.plane.specs.declared.Point.{Point}
use Rattle.plane.specs.Below.{passes_below, higher}
use Rattle.curves.specs.Curves.{Curve, segments}
use Rattle.map.specs.Rows.{Node, Edge, Map, node, at_nodes, without_node}
use Rattle.map.specs.Faces.{Floor, floor_of, floors, highest, face_above, face_of_point}
use Rattle.map.specs.Edits.{lone, add_iso_node, move_iso_node, remove_iso_node, with_curve, change_edge_geom}
use Rattle.map.specs.Reasons.{isolated}
use Rattle.map_laws.proofs.RowChanges.{node_number, node_at_lem}
use Rattle.map_laws.proofs.Readings.{Outline, outline_of, outlines}
use Rattle.map_laws.proofs.Outlines.{at_shape, counts_are}
use Rattle.map_laws.proofs.Faces.{zero_in}
use Rattle.grown.specs.Good.{Woven}
use Rattle.grown.proofs.Numbers.Ranked.{Met, EndsAt, Placed, Sided, Ranked, RankedMap, ranked_shape}

-- ---- rows of nodes

pub rising_nodes : (a : ℕ) (f : Node → Node) (ns : List Node) → ((n : Node) → Memᴰ n ns → (f n).number ≡ n.number)
    → Rising 1 a (map node_number ns) → Rising 1 a (map node_number (map f ns))
rising_nodes a f ns h r = subst (Rising 1 a) (sym (map_twice node_number f node_number ns h)) r

pub placed_map : {os : List Outline} {fs : List ℕ} (f : Node → Node) (ns : List Node)
    → ((n : Node) → Memᴰ n ns → Placed os fs (f n)) → (n : Node) → Memᴰ n (map f ns) → Placed os fs n
placed_map {os} {fs} f ns h n k = let x = Memᴰ.of_map f ns k in subst (Placed os fs) x.2 (h x.0 x.1)

-- a node with a face that exists, where no edge ends
pub lone_placed : {os : List Outline} {fs : List ℕ} (n : Node) (f : ℕ) → n.face ≡ some f → Memᴰ f fs
    → (Met os n.number → ⊥) → Placed os fs n
lone_placed n f e k away = record {
  inside = λ g q. Memᴰ.cast (ap (λ (o : Option ℕ). or_zero o) (sym q ∙ e)) k;
  met = λ q. absurd (true≢false (sym (ap is_some e) ∙ q));
  bare = λ x. absurd (away x);
}
  where
    or_zero : Option ℕ → ℕ
    or_zero none = 0
    or_zero (some g) = g

pub ranked_more_node : {ns : List Node} {os : List Outline} {fs : List ℕ} {a b c : ℕ} (n : Node) → n.number ≡ a
    → Placed os fs n → Ranked ns os fs a b c → Ranked (ns ++ n ∷ []) os fs (a + 1) b c
ranked_more_node {ns} {os} {fs} {a} n e p r = record {
  nodes = subst (Rising 1 (a + 1)) (ap (λ (k : ℕ). map node_number ns ++ k ∷ []) (sym e)
      ∙ sym (map-append node_number ns (n ∷ []))) (rising_append 1 a (map node_number ns) r.first_node r.nodes);
  edges = r.edges;
  faces = r.faces;
  zero = r.zero;
  placed = each_last ns r.placed p;
  sided = r.sided;
  first_node = omega arith;
  first_edge = r.first_edge;
}

pub ranked_less_nodes : {ns : List Node} {os : List Outline} {fs : List ℕ} {a b c : ℕ} (x : ℕ) → Ranked ns os fs a b c
    → Ranked (without_node x ns) os fs a b c
ranked_less_nodes {ns} {a = a} x r = record {
  nodes = subst (Rising 1 a) (keep-map node_number (λ n. not (same n.number x)) (λ k. not (same k x)) ns
      (λ n k. refl)) (rising_keep 1 a (λ k. not (same k x)) (map node_number ns) r.nodes);
  edges = r.edges;
  faces = r.faces;
  zero = r.zero;
  placed = λ n k. r.placed n (keep_in (λ n. not (same n.number x)) ns k).0;
  sided = r.sided;
  first_node = r.first_node;
  first_edge = r.first_edge;
}

ranked_nodes : {ns : List Node} {os : List Outline} {fs : List ℕ} {a b c : ℕ} (f : Node → Node)
    → ((n : Node) → Memᴰ n ns → (f n).number ≡ n.number) → ((n : Node) → Memᴰ n ns → Placed os fs (f n))
    → Ranked ns os fs a b c → Ranked (map f ns) os fs a b c
ranked_nodes {ns} {a = a} f h p r = record {
  nodes = rising_nodes a f ns h r.nodes;
  edges = r.edges;
  faces = r.faces;
  zero = r.zero;
  placed = placed_map f ns p;
  sided = r.sided;
  first_node = r.first_node;
  first_edge = r.first_edge;
}

-- ---- face 0, and the face of a point

module _ (fs : List ℕ) where
  upper_in : (es : List Edge) (p : Point) → ((e : Edge) → Memᴰ e es → Sided fs (outline_of e)) → (f : Floor)
      → Memᴰ f (flat_map (λ e. map (floor_of e) (keep (passes_below p) (segments e.curve))) es)
      → Memᴰ f.upper fs
  unfolding flat_map
  upper_in [] p h f k = absurd (Memᴰ.not-nil k)
  upper_in (e ∷ es) p h f k = step (upper_in es p (λ q j. h q (Memᴰ.tail j)) f)
      (Memᴰ.append_cases (map (floor_of e) (keep (passes_below p) (segments e.curve))) k)
    where
      side : (b : Bool) → Memᴰ (cond b e.left e.right) fs
      side true = (h e (Memᴰ.head refl)).0
      side false = (h e (Memᴰ.head refl)).1

      step : (Memᴰ f (flat_map (λ e. map (floor_of e) (keep (passes_below p) (segments e.curve))) es)
          → Memᴰ f.upper fs)
          → Memᴰ f (map (floor_of e) (keep (passes_below p) (segments e.curve)))
          ⊎ Memᴰ f (flat_map (λ e. map (floor_of e) (keep (passes_below p) (segments e.curve))) es)
          → Memᴰ f.upper fs
      step ih (inl j) = let x = Memᴰ.of_map (floor_of e) (keep (passes_below p) (segments e.curve)) j in
          subst (λ (q : Floor). Memᴰ q.upper fs) x.2 (side (ltb x.0.from.x x.0.to.x))
      step ih (inr j) = ih j

  highest_in : (x : ℕ) (f : Floor) (l : List Floor) → Memᴰ f.upper fs
      → ((g : Floor) → Memᴰ g l → Memᴰ g.upper fs) → Memᴰ (highest x f l).upper fs
  unfolding highest
  highest_in x f [] k h = k
  highest_in x f (g ∷ l) k h = highest_in x (cond (higher x g.segment f.segment) g f) l
      (step (higher x g.segment f.segment)) (λ q j. h q (Memᴰ.tail j))
    where
      step : (b : Bool) → Memᴰ (cond b g f).upper fs
      step true = h g (Memᴰ.head refl)
      step false = k

  above_in : (x : ℕ) (l : List Floor) → Memᴰ 0 fs → ((g : Floor) → Memᴰ g l → Memᴰ g.upper fs)
      → Memᴰ (face_above x l) fs
  above_in x [] z h = z
  above_in x (f ∷ l) z h = highest_in x f l (h f (Memᴰ.head refl)) (λ g j. h g (Memᴰ.tail j))

-- the face of a point exists
face_of_point_lem : (m : Map) (p : Point) → RankedMap m → Memᴰ (face_of_point m p) m.faces
unfolding face_of_point floors
face_of_point_lem m p r = above_in m.faces p.x (floors m p) (zero_in m.faces r.zero)
    (upper_in m.faces m.edges p (λ e k. r.sided (outline_of e) (Memᴰ.map outline_of k)))

-- ---- the kinds

-- no edge ends at a number not yet given
fresh_bare : (m : Map) → Woven m → RankedMap m → (k : ℕ) → m.next.nodes ≤ k → Met (outlines m) k → ⊥
fresh_bare m w r k low h = go (Memᴰ.of_map outline_of m.edges h.1)
  where
    below : (n : ℕ) → Memᴰ n (map node_number m.nodes) → n ≡ k → ⊥
    below n j e = let b = r.nodes.bounds n j in omega arith

    go : (x : Edge) × Memᴰ x m.edges × (outline_of x ≡ h.0) → ⊥
    go x = elim (subst (λ (o : Outline). EndsAt o k) (sym x.2) h.2) [
      | inl e ↦ below x.0.start (w.planar.within.starts (outline_of x.0).arc
          (Memᴰ.map (λ e. (outline_of e).arc) x.1)) e
      | inr e ↦ below x.0.end (w.planar.within.ends (outline_of x.0).arc
          (Memᴰ.map (λ e. (outline_of e).arc) x.1)) e
    ]

pub add_node_ranked : (m : Map) (p : Point) → Woven m → RankedMap m → RankedMap (add_iso_node p m)
unfolding add_iso_node
add_node_ranked m p w r =
    ranked_shape {m = add_iso_node p m} (record {
      nodes = refl;
      outlines = refl;
      faces = refl;
      next = counts_are refl (add-zero m.next.edges) (add-zero m.next.faces);
    })
    (ranked_more_node (lone m m.next.nodes p) refl
    (lone_placed (lone m m.next.nodes p) (face_of_point m p) refl (face_of_point_lem m p r)
    (fresh_bare m w r m.next.nodes (omega arith))) r)

pub move_node_ranked : (m : Map) (n : ℕ) (p : Point) → Distinct (map node_number m.nodes) → isolated m n ≡ true
    → RankedMap m → RankedMap (move_iso_node n p m)
unfolding move_iso_node at_nodes
move_node_ranked m n p dis iso r = ranked_nodes (λ q. cond (same q.number n) (lone m n p) q)
    (λ q k. number (same q.number n) q refl) (λ q k. place (same q.number n) q k refl) r
  where
    number : (b : Bool) (q : Node) → same q.number n ≡ b → (cond b (lone m n p) q).number ≡ q.number
    number true q e = sym (same_true q.number n e)
    number false q e = refl

    bare : (q : Node) → Memᴰ q m.nodes → q.number ≡ n → Met (outlines m) n → ⊥
    bare q k e x =
        let here : node m n ≡ q = ap (node m) (sym e) ∙ node_at_lem m dis k in
        true≢false (sym iso ∙ ap (λ (y : Node). is_some y.face) here
        ∙ (r.placed q k).bare (subst (Met (outlines m)) (sym e) x))

    place : (b : Bool) (q : Node) → Memᴰ q m.nodes → same q.number n ≡ b
        → Placed (outlines m) m.faces (cond b (lone m n p) q)
    place true q k e = lone_placed (lone m n p) (face_of_point m p) refl (face_of_point_lem m p r)
        (bare q k (same_true q.number n e))
    place false q k e = r.placed q k

pub remove_node_ranked : (m : Map) (n : ℕ) → RankedMap m → RankedMap (remove_iso_node n m)
unfolding remove_iso_node
remove_node_ranked m n r = ranked_less_nodes n r

pub change_ranked : (m : Map) (e : ℕ) (c : Curve) → RankedMap m → RankedMap (change_edge_geom e c m)
unfolding change_edge_geom
change_ranked m e c r = ranked_shape (at_shape e (with_curve c) m (λ x. refl)) r
