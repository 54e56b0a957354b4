-- Tables in form with an edge drawn that nothing turns down: they hold the map with the edge linked in, and its face
-- can be split. Assumes nothing.
use mathlib.Core.Path.{◌≡◌, sym, ap, ◌∙◌, subst}
use mathlib.Core.Bool.{true, ◌&&◌}
use mathlib.Core.List.{List, [], map, Memᴰ}
use Prim.Native.Nat.{ℕ, ◌-◌, ◌/◌, ◌<◌}
use native.Mathlib.Nat.{add-zero}
use native.Mathlib.Omega.{arith}
use lib.IntN.{ℤ, pos, nat_abs}
use lib.ListN.{length, length-map, get_or, get_or-map}
use lib.Seq.{get_or_at}
use Rattle.lists.specs.Tests.{same}
use Rattle.lists.specs.Scans.{all_of, any_of}
use Rattle.lists.proofs.Bools.{and_is}
use Rattle.lists.proofs.Members.{each_all}
use Rattle.curves.specs.Curves.{Curve, curve_of, start_way}
use Rattle.map.specs.declared.Head.{Head}
use Rattle.map.specs.declared.Variant.{Variant}
use Rattle.map.specs.Limits.{face_width}
use Rattle.map.specs.Rows.{Map, Sizes, map_of, sizes_of, has_node, lent}
use Rattle.map.specs.Links.{corner_face}
use Rattle.map.specs.Edits.{drawn, drawn_in, splits_face}
use Rattle.map_laws.proofs.Readings.{missing, has_number, Outline, outline_of, outlines}
use Rattle.map_laws.proofs.RowChanges.{node_number}
use Rattle.map_laws.proofs.Reasons.{AddEdge}
use Rattle.map_laws.proofs.Outlines.{drawn_outline, drawn-shape}
use Rattle.map_laws.proofs.Faces.{has_face_lem, formed_faces, corner_in}
use Rattle.map_rows.specs.Rows.{nodes_of, edges_of, faces_of, node_at, edge_at, node_map}
use Rattle.map_rows.proofs.Rows.{edges_length, edges_get_d, faces_length}
use Rattle.head.specs.Heads.{changed_head}
use Rattle.outcomes.specs.Outcomes.{Formed}
use Rattle.outcomes.proofs.Formed.{formed-map}
use Rattle.face_rows.specs.Holds.{FaceTable, Unboxed, MapTables, Splittable}
use Rattle.face_rows.proofs.Formed.{boxes, formed-table, formed_unboxed}
use Rattle.edge_rows.specs.Holds.{Drawn}
use Rattle.edge_rows.proofs.Drawn.{drawn_edges, drawn_faces}
use Rattle.edge_rows.proofs.Filled.{nodes_filled, edges_filled}
use Rattle.edit_add.proofs.Rings.{drawn_ringed, drawn_ends}

module _ {nodes edges faces : List ℤ} {h : Head} (f : Formed nodes edges faces h) where
  abbrev m : Map
  m = map_of (lent nodes edges faces h)

  abbrev s : Sizes
  s = sizes_of (lent nodes edges faces h)

  -- the face table is as it was, whatever edge is drawn
  pub drawn-table : {u v : ℕ} {c : List ℤ} {face : ℤ} {nodes' edges' : List ℤ} {h' : Head}
      → Drawn nodes edges h u v c face nodes' edges' h'
      → FaceTable (length faces) (boxes f) (faces_of faces (nat_abs h'.faces)) faces
  drawn-table d = rw (drawn_faces d) (formed-table f)

  -- and no face number is given
  pub drawn_unboxed : {u v : ℕ} {c : List ℤ} {face : ℤ} {nodes' edges' : List ℤ} {h' : Head}
      → Drawn nodes edges h u v c face nodes' edges' h' → Unboxed (boxes f) (nat_abs h'.next_face)
  unfolding changed_head
  drawn_unboxed {h' = h'} d = let e : nat_abs h'.next_face ≡ nat_abs h.next_face =
      ap (λ (x : Head). nat_abs x.next_face) d.head ∙ add-zero (nat_abs h.next_face) in
      rw e (formed_unboxed f)

  -- the tables with an edge more hold a map
  pub drawn_held : {u v : ℕ} {c : List ℤ} {face : ℤ} {nodes' edges' : List ℤ} {h' : Head}
      → Drawn nodes edges h u v c face nodes' edges' h' → MapTables nodes' edges' faces h'
  drawn_held d =
      record {
        node_rows_lem = d.held.node_table_lem.rows;
        edge_rows_lem = d.held.edge-table.rows;
        node_cells_lem = nodes_filled d.held.node_table_lem;
        edge_cells_lem = edges_filled d.held.edge-table;
        face_table = (boxes f, drawn_unboxed d, drawn-table d);
        counted = d.held.counted;
      }

  -- an edge between two rows that nothing turns down, with its corner face
  module _ {how : Variant} (u v : ℕ) (l : List ℤ)
      (t : AddEdge how s m (node_at nodes u).number (node_at nodes v).number (curve_of l)) {face : ℤ}
      (ef : face ≡ pos (corner_face m (node_at nodes u).number (start_way (curve_of l)))) where
    abbrev a : ℕ
    a = (node_at nodes u).number

    abbrev b : ℕ
    b = (node_at nodes v).number

    abbrev c : Curve
    c = curve_of l

    abbrev φ : ℕ
    φ = corner_face m a (start_way c)

    abbrev D : Map
    D = drawn_in a b c m

    module _ {nodes' edges' : List ℤ} {h' : Head} (d : Drawn nodes edges h u v l face nodes' edges' h') where
      pub map_is : map_of (lent nodes' edges' faces h') ≡ D
      map_is = d.map faces ∙ ap (λ (z : ℤ). drawn a b c (nat_abs z) m) ef

      abbrev e : ℕ
      e = nat_abs h'.edges

      nodes_are : nodes_of nodes' (nat_abs h'.nodes) ≡ D.nodes
      unfolding map_of
      nodes_are = ap (λ (x : Map). x.nodes) map_is

      edges_are : edges_of edges' e ≡ D.edges
      unfolding map_of
      edges_are = ap (λ (x : Map). x.edges) map_is

      -- the last row is that of the new edge
      pub last : outline_of (edge_at edges' (nat_abs h'.edges - 1)) ≡ drawn_outline m.next.edges a b φ
      unfolding map_of
      last =
          let more = drawn_edges d in
          ap outline_of (sym (edges_get_d edges' e (e - 1) missing (omega arith)))
          ∙ sym (get_or-map outline_of (edges_of edges' e) (e - 1) missing)
          ∙ ap (λ (os : List Outline). get_or os (e - 1) (outline_of missing))
          (ap (map outline_of) edges_are ∙ (drawn-shape a b c φ m).outlines)
          ∙ get_or_at (outlines m) (drawn_outline m.next.edges a b φ) [] (outline_of missing) (e - 1)
          (omega (arith, length-map m.edges outline_of, edges_length edges (nat_abs h.edges)))

      ends : all_of (λ r. has_node (node_map nodes' (nat_abs h'.nodes)) r.start
          && has_node (node_map nodes' (nat_abs h'.nodes)) r.end) (edges_of edges' e) ≡ true
      ends = each_all _ (edges_of edges' e)
          (λ r k. let e = drawn_ends m (formed-map f) t r (subst (Memᴰ r) edges_are k) in
          and_is (there r.start e.0) (there r.end e.1))
        where
          there : (n : ℕ) → Memᴰ n (map node_number D.nodes) → has_node (node_map nodes' (nat_abs h'.nodes)) n
              ≡ true
          there n k = has_number node_number (nodes_of nodes' (nat_abs h'.nodes)) n (rw nodes_are k)

      -- the corner face exists
      face_there : any_of (same (nat_abs face)) (faces_of faces (nat_abs h'.faces)) ≡ true
      unfolding map_of
      face_there = (λ i. any_of (same (nat_abs (ef i))) (faces_of faces (drawn_faces d i)))
          ∙ has_face_lem m φ (corner_in m a (start_way c) t.has_start (formed_faces m (formed-map f)))

      -- there is room for a face more
      room : splits_face a b c m ≡ true → nat_abs h'.faces < length faces / face_width
      unfolding map_of
      room k = let r = rw k at t.room.faces in
          omega (arith, r, drawn_faces d, faces_length faces (nat_abs h.faces))

      pub splits : splits_face a b c m ≡ true → Splittable nodes' edges' faces h' face
      splits k =
          record {
            held = drawn_held d;
            drawn = omega (arith, drawn_edges d);
            ends = ends;
            rings = drawn_ringed m (formed-map f) t edges' e (sym edges_are);
            borne = ef ∙ ap (λ (o : Outline). pos o.left) (sym last);
            there = face_there;
            room = room k;
          }
