-- The faces and pieces of a grown map are a tree, so that its contents list each once (specs/Claims.antt,
-- `ContentsListed`). Assumes nothing.
use mathlib.Core.Path.{◌≡◌, refl, sym, ap, ap₂, ◌∙◌, subst}
use mathlib.Core.Logic.{◌⊎◌, inl, inr}
use mathlib.Core.Bool.{Bool, true, false, ◌&&◌, true≢false, false≢true}
use mathlib.Core.List.Memᴰ
use mathlib.Core.List.{List, [], map, Memᴰ}
use mathlib.Core.Option.{Option, none, some, get_or}
use Prim.Native.Nat.{ℕ, suc, ◌≤◌}
use native.Mathlib.Omega.{arith}
use lib.ListN.{length, length-map}
use Rattle.lists.specs.Tests.{◌⊕◌, same}
use Rattle.lists.specs.Scans.{find, is_some}
use Rattle.lists.specs.Members.{Distinct}
use Rattle.lists.proofs.Bools.{which, ⊕-false, same_refl, same_true, same_eq, or-true, or_left, or_right, and-true}
use Rattle.lists.proofs.Bools.{and_is}
use Rattle.lists.proofs.Keeps.{keep_in, keep_has, distinct_keep}
use Rattle.lists.proofs.Members.{find_has, find_some, any_some, some_any}
use Rattle.lists.proofs.Perms.{distinct_injective, distinct_length}
use Rattle.planar_maps.specs.Map.{Arc, Dart, fwd, bwd, rev}
use Rattle.planar_maps.specs.Pieces.{Chain, label, Isolated}
use Rattle.planar_maps.specs.Planar.{Planar}
use Rattle.planar_maps.proofs.Cycles.{fwd_in, bwd_in}
use Rattle.planar_maps.proofs.Chains.{chain_back, label_chain, label_idem, chain_within, isolated_chain}
use Rattle.planar_maps.proofs.Rings.{dart_cases, rev_in, Parted, label-rev, ring-parts}
use Rattle.planar_maps.proofs.Splitting.{tail_in_lem}
use Rattle.map.specs.Rows.{Node, Map, node}
use Rattle.map.specs.Rows as rows
use Rattle.map.specs.Darts.{arcs, directed, leaves, next, bears, piece_of}
use Rattle.map.specs.Form.{formed}
use Rattle.grown.specs.Good.{Good}
use Rattle.map.proofs.Laws.{edge_there_lem}
use Rattle.map_laws.proofs.Readings.{face_in, arc_of, bears_row, arc_at, dart_has, Outline, outline_of, outlines}
use Rattle.map_laws.proofs.RowChanges.{node_number, node_at_lem}
use Rattle.grown.proofs.Numbers.Ranked.{RankedMap, Met, numbered_ranked}
use Rattle.grown.proofs.Plane.Reached.{good_reached}
use Rattle.grown.proofs.Forms.{good_formed}
use Rattle.nesting.specs.Contents.{piece_rows, part_count, is_it, ring_bears, node_bears, is_in, listed_under}
use Rattle.nesting.specs.Contents.{Line, listed, lines}
use Rattle.nesting.specs.Claims.{Part, part_of, faces_and_pieces, HasContents}
use Rattle.nesting.proofs.Branches.{Set, Graph, Edge, Only, Connected, Bridges, end_false, end_true}
use Rattle.nesting.proofs.Listing.{Neighbours, all_listed}
use Rattle.nesting.proofs.Walks.{keys, in_keys}
use Rattle.nesting.proofs.Exact.{pieces_are, parts_are, zero_in, faces_once, pieces_once, parts_once}
use Rattle.nesting.proofs.Exact.{lines_once, lines-contents}

-- ---- the graph

-- faces are of the kind false, pieces of the kind true
abbrev pub vertices : Map → Bool → List ℕ
vertices m false = m.faces
vertices m true = piece_rows m

abbrev pub nesting : Map → Graph
nesting m = record { vertices = vertices m; joined = λ f p. is_in m p f }

is_some_lem : (x : ℕ) (o : Option ℕ) → is_it x o ≡ true → o ≡ some x
is_some_lem x none e = absurd (false≢true e)
is_some_lem x (some y) e = ap some (sym (same_true x y e))

module _ (m : Map) (g : Good m) where
  P : Planar (map node_number m.nodes) (arcs m) (leaves m) (next m) (bears m) (length m.faces)
  P = g.woven.planar

  R : RankedMap m
  R = numbered_ranked m P.edges_once g.numbered

  -- the piece of a directed edge
  abbrev of : Dart → ℕ
  of d = piece_of m (leaves m d)

  -- ---- where a face and a piece meet

  -- in a directed edge
  dart_edge : {d : Dart} → Memᴰ d (directed m) → Edge (nesting m) (bears m d) (of d)
  unfolding is_in piece_rows
  dart_edge {d} k = record {
    left = subst (λ f. Memᴰ f m.faces) (sym (bears_row m d))
        (side d.back (R.sided (outline_of (rows.edge m d.edge))
        (Memᴰ.map outline_of (edge_there_lem m d.edge (dart_has m k)).0)));
    right = keep_has (λ n. same (piece_of m n) n) (map node_number m.nodes)
        (chain_within P.within (tail_in_lem P.linked P.within k) (label_chain (arcs m) (leaves m d)))
        (same_eq (label (arcs m) (of d)) (of d) (label_idem (arcs m) (leaves m d)));
    holds = or_left (node_bears m (of d) (bears m d))
        (some_any (λ x. same (of x) (of d) && same (bears m x) (bears m d)) (directed m) k
        (and_is (same_refl (of d)) (same_refl (bears m d))));
  }
    where
      side : (b : Bool) → Memᴰ (rows.edge m d.edge).left m.faces
          × Memᴰ (rows.edge m d.edge).right m.faces
          → Memᴰ (face_in b (rows.edge m d.edge)) m.faces
      side true h = h.1
      side false h = h.0

  module _ {r : Node} (k : Memᴰ r m.nodes) {f : ℕ} (e : r.face ≡ some f) where
    -- no edge ends at a lone node
    bare : Met (outlines m) r.number → ⊥
    bare h = true≢false (sym (ap is_some e) ∙ (R.placed r k).bare h)

    lone : Isolated r.number (arcs m)
    lone = record { starts = λ a j q. met a j (inl q); ends = λ a j q. met a j (inr q) }
      where
        met : (a : Arc) → Memᴰ a (arcs m) → (a.from ≡ r.number) ⊎ (a.to ≡ r.number) → ⊥
        met a j q = let x = Memᴰ.of_map arc_of m.edges j in
            bare (
              outline_of x.0,
              Memᴰ.map outline_of x.1,
              subst (λ (a : Arc). (a.from ≡ r.number) ⊎ (a.to ≡ r.number)) (sym x.2) q,
            )

    -- nor is one in its piece
    lone-apart : {d : Dart} → Memᴰ d (directed m) → of d ≡ r.number → ⊥
    lone-apart {d} j q = go (dart_cases (arcs m) j)
      where
        at : leaves m d ≡ r.number
        at =
            isolated_chain lone (chain_back (subst (Chain (arcs m) (leaves m d)) q (label_chain (arcs m) (leaves m d))))

        go : (a : Arc) × Memᴰ a (arcs m) × ((d ≡ fwd a.num) ⊎ (d ≡ bwd a.num)) → ⊥
        go x = elim x.2 [
          | inl z ↦ lone.starts x.0 x.1 (sym (P.linked.starts x.0 x.1) ∙ ap (leaves m) (sym z) ∙ at)
          | inr z ↦ lone.ends x.0 x.1 (sym (P.linked.ends x.0 x.1) ∙ ap (leaves m) (sym z) ∙ at)
        ]

    -- in a lone node
    lone_edge_lem : Edge (nesting m) f r.number
    unfolding is_in piece_rows
    lone_edge_lem = record {
      left = (R.placed r k).inside f e;
      right = keep_has (λ n. same (piece_of m n) n) (map node_number m.nodes) (Memᴰ.map node_number k)
          (same_eq (piece_of m r.number) r.number (isolated_chain lone (label_chain (arcs m) r.number)));
      holds = or_right (ring_bears m r.number f) _
          (some_any (λ z. same z.number r.number && is_it f z.face) m.nodes k
          (and_is (same_refl r.number) (ap (is_it f) e ∙ same_refl f)));
    }

  -- and nowhere else
  abbrev InDart : ℕ → ℕ → Type 0
  InDart f p = (d : Dart) × Memᴰ d (directed m) × (of d ≡ p) × (bears m d ≡ f)

  abbrev InNode : ℕ → ℕ → Type 0
  InNode f p = (r : Node) × Memᴰ r m.nodes × (r.number ≡ p) × (r.face ≡ some f)

  edge_cases : {f p : ℕ} → Edge (nesting m) f p → InDart f p ⊎ InNode f p
  unfolding is_in
  edge_cases {f} {p} e =
      elim (or-true (ring_bears m p f) (node_bears m p f) e.holds) [
        | inl h ↦
            let x = any_some (λ d. same (of d) p && same (bears m d) f) (directed m) h in
            let q = and-true (same (of x.0) p) (same (bears m x.0) f) x.2 in
            inl (x.0, x.1, same_true (of x.0) p q.0, same_true (bears m x.0) f q.1)
        | inr h ↦
            let x = any_some (λ (r : Node). same r.number p && is_it f r.face) m.nodes h in
            let q = and-true (same x.0.number p) (is_it f x.0.face) x.2 in
            inr (x.0, x.1, same_true x.0.number p q.0, is_some_lem f x.0.face q.1)
      ]

  -- ---- connected, since from face 0 every face is reached across edges

  connected : Connected (nesting m)
  unfolding piece_rows
  connected T even = go
    where
      faces : (f : ℕ) → Memᴰ f m.faces → T false f ≡ T false 0
      faces = good_reached m g (T false) (λ a j. let d = fwd a.num in let k = fwd_in j in
          even (bears m d) (of d) (dart_edge k) ∙ ap (T true) (sym (label-rev P.linked d k))
          ∙ sym (even (bears m (rev d)) (of (rev d)) (dart_edge (rev_in (arcs m) k))))

      -- a piece is in the face of its lone node, or of a directed edge from its lowest node
      node_piece : (r : Node) → Memᴰ r m.nodes → piece_of m r.number ≡ r.number → (o : Option ℕ)
          → r.face ≡ o → T true r.number ≡ T false 0
      node_piece r k root (some f) e = sym (even f r.number (lone_edge_lem k e)) ∙ faces f (lone_edge_lem k e).left
      node_piece r k root none e = at ((R.placed r k).met (ap is_some e))
        where
          by : (d : Dart) → Memᴰ d (directed m) → leaves m d ≡ r.number → T true r.number ≡ T false 0
          by d j q = ap (T true) (sym (ap (piece_of m) q ∙ root)) ∙ sym (even (bears m d) (of d) (dart_edge j))
              ∙ faces (bears m d) (dart_edge j).left

          at : Met (outlines m) r.number → T true r.number ≡ T false 0
          at h = let x = Memᴰ.of_map outline_of m.edges h.1 in elim h.2 [
            | inl q ↦ by (fwd x.0.number) (fwd_in (arc_at m x.1))
                (P.linked.starts (arc_of x.0) (arc_at m x.1) ∙ ap (λ (o : Outline). o.arc.from) x.2 ∙ q)
            | inr q ↦ by (bwd x.0.number) (bwd_in (arc_at m x.1))
                (P.linked.ends (arc_of x.0) (arc_at m x.1) ∙ ap (λ (o : Outline). o.arc.to) x.2 ∙ q)
          ]

      go : (b : Bool) (x : ℕ) → Memᴰ x (vertices m b) → T b x ≡ T false 0
      go false f k = faces f k
      go true p k =
          let q = keep_in (λ n. same (piece_of m n) n) (map node_number m.nodes) k in
          let x = Memᴰ.of_map node_number m.nodes q.0 in
          ap (T true) (sym x.2) ∙ node_piece x.0 x.1
          (ap (piece_of m) x.2 ∙ same_true (piece_of m p) p q.1 ∙ sym x.2) x.0.face refl

  -- ---- where a face and a piece meet is a bridge

  abbrev Bridge : ℕ → ℕ → Type 0
  Bridge u v = (T : Set) × ((T false u ≡ T true v) → ⊥) × Only (nesting m) u v T

  -- a lone node: itself alone
  by_node_lem : {u v : ℕ} → InNode u v → Bridge u v
  by_node_lem {u} {v} (r, k, n, e) = (T, λ q. false≢true (q ∙ same_refl v), only)
    where
      T : Set
      T true p = same p v
      T false f = false

      only : Only (nesting m) u v T
      only x y h = elim (which (same y v)) [
        | inr q ↦ inr (sym q)
        | inl q ↦ elim (edge_cases h) [
          | inl j ↦ absurd (lone-apart k e j.1 (j.2 ∙ same_true y v q ∙ sym n))
          | inr j ↦
              let one : j.0 ≡ r = distinct_injective node_number m.nodes P.nodes_once j.0 r j.1 k
              (j.2 ∙ same_true y v q ∙ sym n) in
              inl (is_one (sym j.3 ∙ ap (λ (z : Node). z.face) one ∙ e), same_true y v q)
        ]
      ]
        where
          is_one : {a b : ℕ} → ◌≡◌ {A = Option ℕ} (some a) (some b) → a ≡ b
          is_one z = ap (λ o. get_or o 0) z

  -- a ring: the colouring by its border
  module _ (d₁ : Dart) (k₁ : Memᴰ d₁ (directed m)) where
    w : Parted (arcs m) (leaves m) (bears m) d₁
    w = ring-parts P.linked P.colouring P.one-turn d₁ k₁

    abbrev value : Option Dart → ℕ → Bool
    value (some x) p = w.side (bears m x) ⊕ w.on x
    value none p = w.side (get_or (node m p).face 0)

    sides : Set
    sides false f = w.side f
    sides true p = value (find (λ x. same (of x) p) (directed m)) p

    at_dart : {x : Dart} → Memᴰ x (directed m) → (p : ℕ) → of x ≡ p → sides true p ≡ w.side (bears m x) ⊕ w.on x
    unfolding sides
    at_dart {x} k p q =
        go (find_some (λ x. same (of x) p) (directed m)
        (find_has (λ x. same (of x) p) (directed m) k (same_eq (of x) p q)))
      where
        go : (c : Dart) × Memᴰ c (directed m) × (same (of c) p ≡ true)
            × (find (λ x. same (of x) p) (directed m) ≡ some c) → sides true p ≡ w.side (bears m x) ⊕ w.on x
        go c = ap (λ o. value o p) c.3 ∙ w.alike c.0 x c.1 k (same_true (of c.0) p c.2 ∙ sym q)

    at_node : {r : Node} → Memᴰ r m.nodes → {f : ℕ} → r.face ≡ some f → sides true r.number ≡ w.side f
    unfolding sides
    at_node {r} k {f} e = go (find (λ x. same (of x) r.number) (directed m)) refl
      where
        go : (o : Option Dart) → find (λ x. same (of x) r.number) (directed m) ≡ o → value o r.number ≡ w.side f
        go (some x) h = let c = find_some (λ x. same (of x) r.number) (directed m) (ap is_some h) in
            absurd (lone-apart k e c.1 (same_true (of c.0) r.number c.2))
        go none h = ap (λ (z : Node). w.side (get_or z.face 0)) (node_at_lem m P.nodes_once k)
            ∙ ap (λ o. w.side (get_or o 0)) e

    by_ring : {u v : ℕ} → of d₁ ≡ v → bears m d₁ ≡ u → Bridge u v
    unfolding sides
    by_ring {u} {v} p f =
        (sides, λ q. unlike (w.side u) (q ∙ at_dart k₁ v p ∙ ap₂ (λ x y. w.side x ⊕ y) f w.first), only)
      where
        unlike : (b : Bool) → b ≡ b ⊕ true → ⊥
        unlike true e = true≢false e
        unlike false e = false≢true e

        only : Only (nesting m) u v sides
        only x y h = elim (edge_cases h) [
          | inr j ↦ inr (sym (ap (sides true) (sym j.2) ∙ at_node j.1 j.3))
          | inl j ↦ elim (which (w.on j.0)) [
            | inl q ↦ let o = w.one j.0 q in inl (sym j.3 ∙ o.0 ∙ f, sym j.2 ∙ o.1 ∙ p)
            | inr q ↦ inr (sym (at_dart j.1 y j.2 ∙ ap₂ (λ a b. w.side a ⊕ b) j.3 q ∙ ⊕-false (w.side x)))
          ]
        ]

  pub bridges : Bridges (nesting m)
  bridges u v e = elim (edge_cases e) [ inl j ↦ by_ring j.0 j.1 j.2 j.3 | inr j ↦ by_node_lem j ]

  -- ---- the listing

  form : formed m ≡ true
  form = good_formed m g

  neighbours : Neighbours (nesting m) (listed_under m)
  unfolding listed_under
  neighbours = record { once = once; joined = joined; near = near }
    where
      once : (b : Bool) (v : ℕ) → Distinct (listed_under m b v)
      once false f = distinct_keep (λ p. is_in m p f) (piece_rows m) (pieces_once m form)
      once true p = distinct_keep (λ f. is_in m p f) m.faces (faces_once m form)

      joined : (b : Bool) (v x : ℕ) → Memᴰ v (vertices m b) → Memᴰ x (listed_under m b v)
          → Edge (nesting m) (end_false b v x) (end_true b v x)
      joined false f p k j = let q = keep_in (λ p. is_in m p f) (piece_rows m) j in
          record { left = k; right = q.0; holds = q.1 }
      joined true p f k j = let q = keep_in (λ f. is_in m p f) m.faces j in
          record { left = q.0; right = k; holds = q.1 }

      near : (b : Bool) (v x : ℕ) → Edge (nesting m) (end_false b v x) (end_true b v x) → Memᴰ x (listed_under m b v)
      near false f p e = keep_has (λ p. is_in m p f) (piece_rows m) e.right e.holds
      near true p f e = keep_has (λ f. is_in m p f) m.faces e.left e.holds

  -- all faces and pieces are under face 0
  lines_of : (k : ℕ) → part_count m ≤ k → (ls : List Line) × (lines k (listed_under m) false 0 none 0 [] ≡ some ls)
      × ((b : Bool) (x : ℕ) → Memᴰ x (vertices m b) → listed ls b x ≡ true)
  lines_of k le = all_listed (nesting m) (listed_under m) neighbours connected bridges (zero_in m form) k
      (omega (arith, pieces_are m))

-- a face or a piece as a vertex
part_vertex : (m : Map) (z : Part) → Memᴰ z (faces_and_pieces m) → Memᴰ z.1 (vertices m z.0)
part_vertex m z k = elim (Memᴰ.append_cases (map (λ f. (false, f)) m.faces) k) [
  | inl j ↦ of false j
  | inr j ↦ of true j
]
  where
    of : (b : Bool) → Memᴰ z (map (λ x. (b, x)) (vertices m b)) → Memᴰ z.1 (vertices m z.0)
    of b j = let q = Memᴰ.of_map (λ (x : ℕ). (b, x)) (vertices m b) j in
        subst (λ (w : Part). Memᴰ w.1 (vertices m w.0)) q.2 q.1

-- a good map has contents
pub good_contents : (m : Map) → Good m → HasContents m
good_contents m g = record {
  lines = r.0;
  listed = lines-contents m zero (suc (part_count m)) (omega arith) r.0 r.1 all;
  once = lines_once m zero (suc (part_count m)) r.0 r.1 all;
}
  where
    zero : Memᴰ 0 m.faces
    zero = zero_in m (good_formed m g)

    r : (ls : List Line) × (lines (suc (part_count m)) (listed_under m) false 0 none 0 [] ≡ some ls)
        × ((b : Bool) (x : ℕ) → Memᴰ x (vertices m b) → listed ls b x ≡ true)
    r = lines_of m g (suc (part_count m)) (omega arith)

    all : part_count m ≤ length r.0
    all =
        let le = distinct_length (faces_and_pieces m) (keys r.0) (parts_once m (good_formed m g))
        (λ z k. in_keys r.0 z.0 z.1 (r.2 z.0 z.1 (part_vertex m z k))) in
        omega (arith, parts_are m, length-map r.0 part_of)
