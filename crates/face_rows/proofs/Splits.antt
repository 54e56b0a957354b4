-- A face split: the tables after it are those of the map with the face shared out. Assumes nothing.
use mathlib.Core.Path.{◌≡◌, refl, sym, ap, ◌∙◌, subst}
use mathlib.Core.Bool.{Bool, true, false, cond, not, ◌&&◌, ◌||◌}
use mathlib.Core.List.{List, [], ◌∷◌, ◌++◌, flat_map}
use Prim.Native.Nat.{ℕ, ◌+◌, ◌*◌, ◌-◌, ◌<◌}
use native.Mathlib.Nat.{add-zero}
use native.Mathlib.Omega.{arith}
use lib.IntN.{ℤ, pos, nat_abs}
use lib.ListN.{length, length-append, length-map}
use lib.Signed.{non_neg}
use Rattle.integers.specs.Order.{sgn}
use Rattle.lists.specs.Tests.{same}
use Rattle.lists.specs.Scans.{any_of, keep}
use Rattle.lists.proofs.Bools.{≡→T, cond_has}
use Rattle.lists.proofs.Counts.{bit-most}
use Rattle.planar_maps.specs.Map.{Dart, fwd, bwd}
use Rattle.tables.specs.Tables.{filled}
use Rattle.plane.specs.Areas.{is_positive}
use Rattle.bounding_boxes.specs.declared.Extent.{Extent}
use Rattle.map.specs.declared.Head.{Head}
use Rattle.map.specs.declared.Variant.{Variant}
use Rattle.map.specs.Limits.{limit_of}
use Rattle.map.specs.Rows.{Edge, Map, map_of, head_of, node_cells, edge_cells, edge, set_faces, given, counts, lent}
use Rattle.map.specs.Darts.{bears, course, ring}
use Rattle.map.specs.Faces.{ring_area}
use Rattle.map.specs.Edits.{is_new, Shares, side_of_node, side_of_dart, with_sides, shared_out, split_face}
use Rattle.map_rows.specs.Rows.{nodes_of, edges_of, faces_of, faces_in, edge_at, edge_map}
use Rattle.map_rows.proofs.Rows.{nodes_length, edges_length, faces_length}
use Rattle.head.specs.Heads.{changed_head}
use Rattle.head.proofs.Heads.{head_changed}
use Rattle.head.proofs.Words.{is_natural}
use Rattle.darts.specs.Positions.{dart_at}
use Rattle.darts.proofs.Positions.{dart_even, dart_odd, edge_of}
use Rattle.face_relabel.specs.declared.Sides.{Sides}
use Rattle.face_relabel.specs.Sharing.{ShareableFace}
use Rattle.face_rows.specs.Holds.{FaceTable, without_face, Splittable, TablesOf, shares_in, sides_of}
use Rattle.face_rows.specs.Holds.{split_faces}
use Rattle.face_rows.proofs.FaceRows.{table_distinct, without_length}
use Rattle.face_rows.proofs.Shares.{ring_any}

-- one face more
one_more : (goes : Bool) (o a n : ℕ) {N : ℕ} {box : ℕ → Extent} {fs : List ℕ} {t : List ℤ} → FaceTable N box fs t
    → length fs ≡ n
    → any_of (same o) fs ≡ true → length (split_faces goes o a fs) ≡ n + 1
one_more true o a n {fs = fs} t len h = let k = without_length o fs (table_distinct t) h in
    length-append (without_face o fs) (a ∷ (a + 1) ∷ []) ∙ omega arith
one_more false o a n {fs = fs} t len h = length-append fs (a ∷ []) ∙ omega arith

module _ {nodes edges faces : List ℤ} {h : Head} {old : ℤ} (p : Splittable nodes edges faces h old) where
  abbrev last : ℕ
  last = nat_abs h.edges - 1

  abbrev drawn : Map
  drawn = map_of (lent nodes edges faces h)

  abbrev number : ℕ
  number = (edge_at edges last).number

  pub old_natural : old ≡ pos (nat_abs old)
  old_natural = p.borne ∙ ap (λ (z : ℤ). pos (nat_abs z)) (sym p.borne)

  below : last < nat_abs h.edges
  below = let k = p.drawn in omega arith

  borne_is : bears drawn (fwd number) ≡ nat_abs old
  unfolding bears edge map_of
  borne_is = ap (λ (r : Edge). r.left) (edge_of p.held.edge_rows_lem last below) ∙ sym (ap nat_abs p.borne)

  pub area_is : ring_area drawn (ring drawn (fwd number))
      ≡ ring_area (edge_map edges (nat_abs h.edges))
      (ring (edge_map edges (nat_abs h.edges)) (dart_at edges (last * 2)))
  unfolding ring_area course edge map_of
  area_is =
      let es = edges_of edges (nat_abs h.edges) in
      ap (ring_area drawn)
      (ring_any es (nodes_of nodes (nat_abs h.nodes)) [] (faces_of faces (nat_abs h.faces)) []
      (nat_abs h.next_node) (nat_abs h.next_edge) (nat_abs h.next_face) 0 0 0 (fwd number)
      ∙ ap (ring (edge_map edges (nat_abs h.edges))) (sym (dart_even edges last)))

  -- `split_face` by the old face, which side is the reference side and whether the old face goes
  abbrev shares_by : ℕ → Bool → Bool → Shares
  shares_by o is_left goes =
      let a = drawn.next.faces in
      let b = cond goes (drawn.next.faces + 1) o in
      record {
        old = o;
        ref_ring = cond is_left (ring drawn (fwd number)) (ring drawn (bwd number));
        other_ring = cond is_left (ring drawn (bwd number)) (ring drawn (fwd number));
        ref = cond (is_left || not goes) a b;
        other = cond (is_left || not goes) b a;
      }

  abbrev faces_by : ℕ → Bool → List ℕ
  faces_by o goes = cond goes (keep (λ f. not (same f o)) drawn.faces ++ drawn.next.faces
      ∷ cond goes (drawn.next.faces + 1) o ∷ []) (drawn.faces ++ drawn.next.faces ∷ [])

  abbrev split_by : ℕ → Bool → Bool → Map
  split_by o is_left goes = set_faces (faces_by o goes)
      (given (counts 0 0 (cond goes 2 1)) (shared_out (shares_by o is_left goes) drawn))

  split_by_lem : (how : Variant) → split_face how number drawn
      ≡ split_by (bears drawn (fwd number)) (is_positive (sgn (ring_area drawn (ring drawn (fwd number)))))
      (is_new how && not (same (bears drawn (fwd number)) 0))
  unfolding split_face
  split_by_lem how = refl

  -- the shares in the terms of the tables
  shares_are : (is_left goes : Bool) → shares_by (nat_abs old) is_left goes
      ≡ shares_in drawn (dart_at edges (sides_of is_left goes (last * 2) old h.next_face).ring)
      (sides_of is_left goes (last * 2) old h.next_face)
  unfolding map_of
  shares_are is_left goes = go is_left goes
    where
      even : fwd number ≡ dart_at edges (last * 2 + 0)
      even = sym (dart_even edges last) ∙ ap (dart_at edges) (sym (add-zero (last * 2)))

      odd : bwd number ≡ dart_at edges (last * 2 + 1)
      odd = sym (dart_odd edges last)

      by : Sides → Dart → Shares
      by s d = shares_in drawn d s

      go : (l g : Bool) → shares_by (nat_abs old) l g
          ≡ shares_in drawn (dart_at edges (sides_of l g (last * 2) old h.next_face).ring)
          (sides_of l g (last * 2) old h.next_face)
      go true true = ap (by (sides_of true true (last * 2) old h.next_face)) even
      go true false = ap (by (sides_of true false (last * 2) old h.next_face)) even
      go false true = ap (by (sides_of false true (last * 2) old h.next_face)) odd
      go false false = ap (by (sides_of false false (last * 2) old h.next_face)) odd

  faces_are : (goes : Bool) → faces_by (nat_abs old) goes
      ≡ split_faces goes (nat_abs old) (nat_abs h.next_face) (faces_of faces (nat_abs h.faces))
  unfolding map_of
  faces_are true = refl
  faces_are false = refl

  head_is : (is_left goes : Bool) → head_of (limit_of h.points) (split_by (nat_abs old) is_left goes)
      ≡ changed_head h (counts 0 0 1) (counts 0 0 0) (counts 0 0 (cond goes 2 1))
  unfolding map_of shared_out
  head_is is_left goes =
      let ns = nodes_of nodes (nat_abs h.nodes) in
      let es = edges_of edges (nat_abs h.edges) in
      let s = shares_by (nat_abs old) is_left goes in
      let held = p.held in
      let n = length-map ns (λ n. side_of_node drawn s n n.face) ∙ nodes_length nodes (nat_abs h.nodes) in
      let e = length-map es (λ e. with_sides (side_of_dart drawn s (fwd e.number))
      (side_of_dart drawn s (bwd e.number)) e) ∙ edges_length edges (nat_abs h.edges) in
      let f = ap length (faces_are goes)
      ∙ one_more goes (nat_abs old) (nat_abs h.next_face) (nat_abs h.faces) held.face_table.2
      (faces_length faces (nat_abs h.faces)) p.there in
      head_changed h (split_by (nat_abs old) is_left goes) (counts 0 0 1) (counts 0 0 0) (counts 0 0 (cond goes 2 1))
      held.counted.recorded (omega (arith, n)) (omega (arith, e)) (omega (arith, f)) refl refl refl

  -- what the functions below leave, in the map's terms
  pub split_holds : (box : ℕ → Extent) (how : Variant) (is_left goes : Bool)
      → is_positive (sgn (ring_area drawn (ring drawn (fwd number)))) ≡ is_left
      → is_new how && not (same (nat_abs old) 0) ≡ goes
      → (s : Sides) → s ≡ sides_of is_left goes (last * 2) old h.next_face
      → (nodes' edges' faces' : List ℤ) (h' : Head)
      → filled (length nodes) (flat_map node_cells (shared_out (shares_in drawn (dart_at edges s.ring) s) drawn).nodes)
      ≡ nodes'
      → filled (length edges) (flat_map edge_cells (shared_out (shares_in drawn (dart_at edges s.ring) s) drawn).edges)
      ≡ edges'
      → faces_in (length faces) box (split_faces goes (nat_abs old) (nat_abs h.next_face)
      (faces_of faces (nat_abs h.faces))) ≡ faces'
      → h' ≡ changed_head h (counts 0 0 1) (counts 0 0 0) (counts 0 0 (cond goes 2 1))
      → TablesOf box nodes edges faces h (split_face how number drawn) nodes' edges' faces' h'
  split_holds box how is_left goes il ig s es nodes' edges' faces' h' en ee ef eh =
      let same_map : split_by (nat_abs old) is_left goes ≡ split_face how number drawn =
      sym (split_by_lem how ∙ (λ i. split_by (borne_is i) (il i) (is_new how && not (same (borne_is i) 0)))
      ∙ ap (split_by (nat_abs old) is_left) ig) in
      let told : shares_by (nat_abs old) is_left goes ≡ shares_in drawn (dart_at edges s.ring) s = shares_are is_left goes
      ∙ ap (λ (x : Sides). shares_in drawn (dart_at edges x.ring) x) (sym es) in
      subst (λ (k : Map). TablesOf box nodes edges faces h k nodes' edges' faces' h') same_map
      (record {
        node_cells_lem = ap (λ (x : Shares). filled (length nodes) (flat_map node_cells (shared_out x drawn).nodes)) told
            ∙ en;
        edge_cells_lem = ap (λ (x : Shares). filled (length edges) (flat_map edge_cells (shared_out x drawn).edges)) told
            ∙ ee;
        face_cells = ap (faces_in (length faces) box) (faces_are goes) ∙ ef;
        head = head_is is_left goes ∙ sym eh;
      })

  -- what is asked when the face is shared out
  pub sides_shared : (is_left goes : Bool)
      → ShareableFace nodes (nat_abs h.nodes) edges (nat_abs h.edges)
      (sides_of is_left goes (last * 2) old h.next_face)
  sides_shared is_left goes =
      let k = p.held in
      let o = is_natural old old_natural in
      let a = is_natural h.next_face k.counted.next_face.natural in
      let natural : ℤ → Type 0 = λ z. non_neg z ≡ true in
      let b = cond_has natural goes {x = pos (nat_abs h.next_face + 1)} refl o in
      let first = is_left || not goes in
      record {
        nodes = k.node_rows_lem;
        edges = k.edge_rows_lem;
        few = k.counted.edges.most;
        ring = let j = p.drawn in let t = bit-most (not is_left) in omega arith;
        old = ≡→T (non_neg old) o;
        inside = ≡→T (non_neg (cond first h.next_face (cond goes (pos (nat_abs h.next_face + 1)) old)))
            (cond_has natural first a b);
        other = ≡→T (non_neg (cond first (cond goes (pos (nat_abs h.next_face + 1)) old) h.next_face))
            (cond_has natural first b a);
        ends = p.ends;
      }
