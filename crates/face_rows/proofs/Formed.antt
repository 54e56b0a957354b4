-- Tables in form hold a map, with the rectangles that its edges give and none for a number not yet given; they are what
-- a heal asks for: an edge row with two faces. Assumes nothing.
use mathlib.Core.Path.{◌≡◌, refl, sym, ap, ◌∙◌}
use mathlib.Core.Bool.{Bool, true, false, ◌&&◌, true≢false}
use mathlib.Core.List.{List, [], ◌∷◌, flat_map, Memᴰ}
use Prim.Native.Nat.{ℕ, zero, suc, ◌≤◌, ◌<◌}
use native.Mathlib.Omega.{arith}
use lib.IntN.{ℤ, pos, nat_abs}
use lib.ListN.{length}
use Rattle.lists.specs.Tests.{same}
use Rattle.lists.specs.Scans.{all_of, any_of, keep}
use Rattle.lists.proofs.Bools.{same_true, same_false}
use Rattle.lists.proofs.Keeps.{keep_none}
use Rattle.curves.specs.Curves.{points}
use Rattle.curves.proofs.Runs.{and_left, and_right}
use Rattle.map.specs.declared.Head.{Head}
use Rattle.bounding_boxes.specs.declared.Extent.{Extent}
use Rattle.map.specs.Limits.{limit_of}
use Rattle.map.specs.Rows.{Edge, Map, map_of, node_cells, edge_cells, has_node, has_edge, has_face, lent_with, sizes_of, lent}
use Rattle.map.specs.Rows.{head_of, borders, box_of, rectangle}
use Rattle.tables.specs.Tables.{filled}
use Rattle.map.specs.Form.{in_face, edge_names, named, formed}
use Rattle.map.proofs.Laws.{formed_is, face_below}
use Rattle.map_laws.proofs.Faces.{formed_faces}
use Rattle.map_rows.specs.Rows.{nodes_of, edges_of, faces_of, faces_in, edge_at}
use Rattle.tables.proofs.Rows.{all_table}
use Rattle.map_rows.proofs.Rows.{edges_table, faces_length, nodes_length, edges_length}
use Rattle.outcomes.specs.Outcomes.{Formed}
use Rattle.head.proofs.Heads.{head_same}
use Rattle.outcomes.proofs.Formed.{formed-map, counted}
use Rattle.outcomes.proofs.Formed.{nodes_size, edges_size, faces_size, faces_fit, node_rows_lem, edge_rows_lem, face_rows_lem}
use Rattle.outcomes.proofs.Formed.{nodes_filled, edges_filled, faces_filled, lent_is}
use Rattle.face_rows.specs.Holds.{FaceTable, Unboxed, MapTables, Healable, TablesOf}

-- a face that is there is one of them
any_member : (f : ℕ) (gs : List ℕ) → any_of (same f) gs ≡ true → Memᴰ f gs
any_member f [] e = absurd (true≢false (sym e))
any_member f (g ∷ gs) e = go (same f g) refl (any_member f gs)
  where
    go : (b : Bool) → same f g ≡ b → (any_of (same f) gs ≡ true → Memᴰ f gs) → Memᴰ f (g ∷ gs)
    go true k rest = Memᴰ.head (same_true f g k)
    go false k rest = Memᴰ.tail (rest (rw k at e))

-- ---- a number not yet given has no rectangle

module _ (m : Map) (h : formed m ≡ true) (f : ℕ) (t : m.next.faces ≤ f) where
  -- no face that there is has it
  off : (g : ℕ) → Memᴰ g m.faces → same g f ≡ false
  off g k = same_false g f (λ e. let b = face_below m h g k in omega arith)

  no_border : (e : Edge) → Memᴰ e m.edges → borders f e ≡ false
  no_border e k = let x = (formed_faces m h).sides e k in
      rw (off e.left x.0, off e.right x.1)

  none_there : rectangle m.edges f ≡ box_of []
  unfolding rectangle flat_map
  none_there = bare f (keep_none (borders f) m.edges no_border)
    where
      bare : (g : ℕ) → keep (borders g) m.edges ≡ [] → rectangle m.edges g ≡ box_of []
      bare zero e = refl
      bare (suc g) e = ap (λ (es : List Edge). box_of (flat_map (λ x. points x.curve) es)) e

-- ---- tables that hold a map

pub held_holds : {nodes edges faces : List ℤ} {h : Head} → MapTables nodes edges faces h → (box : ℕ → Extent)
    → FaceTable (length faces) box (faces_of faces (nat_abs h.faces)) faces
    → TablesOf box nodes edges faces h (map_of (lent nodes edges faces h)) nodes edges faces h
unfolding map_of
held_holds {nodes} {edges} {faces} {h} k box t =
    record {
      node_cells_lem = k.node_cells_lem;
      edge_cells_lem = k.edge_cells_lem;
      face_cells = t.cells;
      head = head_same k.counted (map_of (lent nodes edges faces h)) (nodes_length nodes (nat_abs h.nodes))
          (edges_length edges (nat_abs h.edges)) (faces_length faces (nat_abs h.faces)) refl refl refl;
    }

module _ {nodes edges faces : List ℤ} {h : Head} (f : Formed nodes edges faces h) where
  -- the rectangles that the edges give
  abbrev pub boxes : ℕ → Extent
  boxes = rectangle (map_of (lent nodes edges faces h)).edges

  pub formed-table : FaceTable (length faces) boxes (faces_of faces (nat_abs h.faces)) faces
  unfolding map_of
  formed-table =
      record {
        cells = ap (λ (k : ℕ). faces_in k boxes (faces_of faces (nat_abs h.faces))) (sym (faces_size f).0)
            ∙ faces_filled f;
        rising = (face_rows_lem f).rising;
        fits = rw (faces_length faces (nat_abs h.faces)) (omega (arith, faces_fit f));
      }

  -- faces that there are have numbers that were given, and edges have faces that there are
  pub formed_unboxed : Unboxed boxes (nat_abs h.next_face)
  unfolding map_of
  formed_unboxed g t = none_there (map_of (lent nodes edges faces h)) (formed-map f) g t

  pub formed_held : MapTables nodes edges faces h
  formed_held =
      record {
        node_rows_lem = node_rows_lem f;
        edge_rows_lem = edge_rows_lem f;
        node_cells_lem = ap (λ (k : ℕ). filled k (flat_map node_cells (nodes_of nodes (nat_abs h.nodes))))
            (sym (nodes_size f).0) ∙ nodes_filled f;
        edge_cells_lem = ap (λ (k : ℕ). filled k (flat_map edge_cells (edges_of edges (nat_abs h.edges))))
            (sym (edges_size f).0) ∙ edges_filled f;
        face_table = (boxes, formed_unboxed, formed-table);
        counted = counted f;
      }

  pub holds_before : TablesOf boxes nodes edges faces h (map_of (lent nodes edges faces h)) nodes edges faces h
  holds_before = held_holds formed_held boxes formed-table

  -- what is lent, in tables as long and under the same record
  pub holds_lent : {nodes' edges' nodes'' edges'' faces'' : List ℤ} {M : Map} {h' h'' : Head}
      → length nodes' ≡ length nodes → length edges' ≡ length edges → h'.points ≡ h.points
      → TablesOf boxes nodes' edges' faces h' M nodes'' edges'' faces'' h''
      → lent_with boxes (sizes_of (lent nodes edges faces h)) M ≡ lent nodes'' edges'' faces'' h''
  holds_lent {M = M} p q r k =
      lent_is boxes (sizes_of (lent nodes edges faces h)) M
      (ap (λ (n : ℕ). filled n (flat_map node_cells M.nodes)) ((nodes_size f).0 ∙ sym p) ∙ k.node_cells_lem)
      (ap (λ (n : ℕ). filled n (flat_map edge_cells M.edges)) ((edges_size f).0 ∙ sym q) ∙ k.edge_cells_lem)
      (ap (λ (n : ℕ). faces_in n boxes M.faces) (faces_size f).0 ∙ k.face_cells)
      (ap (λ (z : ℤ). head_of (limit_of z) M) (sym r) ∙ k.head)

  module _ (i : ℕ) (t : i < nat_abs h.edges) where
    -- the row's names are of rows
    row_names : edge_names (map_of (lent nodes edges faces h)) (edge_at edges i) ≡ true
    unfolding named map_of
    row_names =
        let m = map_of (lent nodes edges faces h) in
        let each = and_right (all_of (λ n. in_face m n.face) m.nodes) (all_of (edge_names m) m.edges)
        (formed_is m (formed-map f)).named in
        all_table (edge_names m) (edge_at edges) (nat_abs h.edges)
        (ap (all_of (edge_names m)) (sym (edges_table edges (nat_abs h.edges))) ∙ each) i t

    -- what is named besides faces
    abbrev others : Bool
    others =
        let m = map_of (lent nodes edges faces h) in
        let r = edge_at edges i in
        has_node m r.start && has_node m r.end && has_edge m r.next_left.edge && has_edge m r.next_right.edge

    right_is : any_of (same (edge_at edges i).right) (faces_of faces (nat_abs h.faces)) ≡ true
    unfolding map_of
    right_is = let m = map_of (lent nodes edges faces h) in
        and_right (others && has_face m (edge_at edges i).left) (has_face m (edge_at edges i).right) row_names

    left_is : any_of (same (edge_at edges i).left) (faces_of faces (nat_abs h.faces)) ≡ true
    unfolding map_of
    left_is =
        let m = map_of (lent nodes edges faces h) in
        and_right others (has_face m (edge_at edges i).left)
        (and_left (others && has_face m (edge_at edges i).left) (has_face m (edge_at edges i).right) row_names)

    below : (g : ℕ) → any_of (same g) (faces_of faces (nat_abs h.faces)) ≡ true → g < nat_abs h.next_face
    unfolding map_of
    below g e = face_below (map_of (lent nodes edges faces h)) (formed-map f) g
        (any_member g (faces_of faces (nat_abs h.faces)) e)

    -- edge row i, where its sides differ
    pub formed_healable : ((edge_at edges i).left ≡ (edge_at edges i).right → ⊥)
        → Healable nodes edges faces h (pos (edge_at edges i).left) (pos (edge_at edges i).right)
    formed_healable ne =
        record {
          held = formed_held;
          left_face = refl;
          right_face = refl;
          left_there = left_is;
          right_there = right_is;
          left_below = below (edge_at edges i).left left_is;
          right_below = below (edge_at edges i).right right_is;
          differ = ne;
        }
