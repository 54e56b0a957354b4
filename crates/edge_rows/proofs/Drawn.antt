-- An edge drawn in the tables is drawn in the map. Assumes nothing.
use mathlib.Core.Path.{◌≡◌, refl, sym, ap, ap₂, ◌∙◌, subst}
use mathlib.Core.Bool.{Bool, true, false, cond, ◌&&◌, ◌||◌}
use mathlib.Core.List.{List, [], ◌∷◌, ◌++◌, map, map-append}
use mathlib.Core.Option.{none}
use Prim.Native.Nat.{ℕ, suc, ◌+◌, ◌*◌, ◌-◌, ◌/◌, ◌≤◌, ◌<◌}
use native.Mathlib.Nat.{sub-zero}
use native.Mathlib.Omega.{arith}
use lib.Dec.{leb}
use lib.IntN.{ℤ, pos, negsuc, nat_abs}
use lib.ListN.{length, get_or, set, replicate, length-set}
use lib.Seq.{paste, take_at, drop_at, get_or_at}
use borrow.Author.Tests.{le-leb}
use Rattle.lists.specs.Tests.{same}
use Rattle.lists.specs.Scans.{all_of}
use Rattle.lists.proofs.Scans.{length-table, table_same}
use Rattle.tables.specs.Tables.{is_zero, numbered}
use Rattle.tables.proofs.Filled.{whole_rows_lem}
use Rattle.tables.proofs.Tests.{zeros, pos_abs}
use Rattle.tables.proofs.Rows.{rows_all}
use Rattle.tables.proofs.Cells.{row_room}
use Rattle.plane.specs.declared.Point.{Point}
use Rattle.curves.specs.Curves.{Curve, Run, is_run_to, points, points_of, through, curve_of, point_at, coordinates}
use Rattle.curves.specs.Curves.{coordinate, max_points}
use Rattle.curves.proofs.Runs.{and_left, and_right, two-points, few_points, curve_is}
use Rattle.curve_edits.specs.declared.Line.{Line}
use Rattle.curve_edits.specs.Lines.{line_of}
use Rattle.map.specs.declared.Head.{Head}
use Rattle.map.specs.Limits.{max_edges, node_width, edge_width}
use Rattle.map.specs.Rows.{Node, Edge, Map, map_of, edge_cells, dart_cell, at_nodes, at_edge, set_edges, given, counts, lent}
use Rattle.map.specs.Form.{node_ranges, edge_ranges}
use Rattle.map.specs.Links.{link_edge, link_in, lead, redirect}
use Rattle.map.specs.Edits.{with_face, is_either, drawn}
use Rattle.map.proofs.RoundTrip.{coordinates-length}
use Rattle.map_rows.specs.declared.Incidence.{Incidence}
use Rattle.map_rows.specs.Cells.{cells_of}
use Rattle.map_rows.proofs.Cells.{row_cells_lem}
use Rattle.map_rows.specs.Rows.{nodes_of, edges_of, faces_of, node_at, edge_at, edges_alone}
use Rattle.map_rows.proofs.Rows.{edges_get_d, edges_length, edge_numbers_lem, node_cells_lem, node_number_in}
use Rattle.links.specs.Linking.{linked_edge}
use Rattle.links.proofs.Kept.{rest_kept, number_kept}
use Rattle.links.proofs.LinkedEdges.{linked_alone, linked_edge_kept, linked_edge_relinked, linked-edge_map}
use Rattle.head.specs.Heads.{changed_head}
use Rattle.head.proofs.Heads.{unchanged}
use Rattle.edge_rows.specs.Holds.{NodeTable, EdgeTable, NodeEdgeTables, Drawable, Drawn, new_row}
use Rattle.edge_rows.proofs.Lists.{numbered_push}
use Rattle.edge_rows.proofs.Pushed.{Follows, pushed_long, pushed_edges, pushed_table_lem}
use Rattle.edge_rows.proofs.NodeFaces.{faced_nodes, faced_number, faced_table}

-- ---- the row of a curve sent

coordinate-natural : (z : ℤ) → coordinate z ≡ true → coordinate (pos (nat_abs z)) ≡ true
coordinate-natural (pos n) h = h
coordinate-natural (negsuc n) h = let z : false ≡ true = h in let k : ◌≡◌ {A = ℕ} 0 1 = cc in absurd (omega arith)

sent_coordinates : (l : List ℤ) → all_of coordinate l ≡ true → all_of coordinate (coordinates (points_of l)) ≡ true
sent_coordinates [] h = refl
sent_coordinates (x ∷ []) h = refl
sent_coordinates (x ∷ y ∷ l) h =
    let k = and_right (coordinate x) (all_of coordinate (y ∷ l)) h in
    rw (
      coordinate-natural x (and_left (coordinate x) (all_of coordinate (y ∷ l)) h),
      coordinate-natural y (and_left (coordinate y) (all_of coordinate l) k),
    ) (sent_coordinates l (and_right (coordinate y) (all_of coordinate l) k))

module _ {c : List ℤ} (run : Run c) where
  pub points_count : length (points (curve_of c)) ≡ length c / 2
  points_count = ap (λ (k : Curve). length (points k)) (curve_is run)
      ∙ ap suc (length-table (point_at c) 1 (length c / 2 - 1)) ∙ omega (arith, two-points run)

  pub points_few : length (points (curve_of c)) ≤ max_points
  points_few = rw points_count (few_points run)

  points-two : 2 ≤ length (points (curve_of c))
  points-two = rw points_count (two-points run)

  points_are : points (curve_of c) ≡ points_of c
  unfolding curve_of
  points_are = go (points_of c) (let k = points-two in k)
    where
      go : (ps : List Point) → 2 ≤ length (points (through ps)) → points (through ps) ≡ ps
      go [] h = absurd (omega arith)
      go (p ∷ ps) h = refl

  in_range : all_of coordinate (coordinates (points (curve_of c))) ≡ true
  unfolding is_run_to
  in_range = ap (λ (ps : List Point). all_of coordinate (coordinates ps)) points_are
      ∙ sent_coordinates c (and_right (leb 2 (length c / 2) && leb (length c / 2) max_points) (all_of coordinate c)
      run.is)

  -- its row is in range
  row_ranges : (row : Edge) → row.curve ≡ curve_of c → edge_ranges (edge_cells row) ≡ true
  unfolding edge_cells
  row_ranges row e =
      let ps = points (curve_of c) in
      let cs = coordinates ps in
      let z = replicate (24 - length cs) (pos 0) in
      rw (
        e,
        le-leb 2 (length ps) points-two,
        le-leb (length ps) max_points points_few,
        take_at cs z (2 * length ps) (coordinates-length ps),
        drop_at cs z (2 * length ps) (coordinates-length ps),
        in_range,
        zeros (24 - length cs),
      )

-- ---- two rows without a face

either : (a b : ℕ) (x : Node) → (let y = cond (same x.number a) (with_face none x) x in
    cond (same y.number b) (with_face none y) y) ≡ cond (is_either a b x) (with_face none x) x
either a b x = go (same x.number a) (same x.number b) refl
  where
    last : (q : Bool) → cond q (with_face none (with_face none x)) (with_face none x) ≡ with_face none x
    last true = refl
    last false = refl

    go : (p q : Bool) → same x.number b ≡ q
        → (let y = cond p (with_face none x) x in cond (same y.number b) (with_face none y) y)
        ≡ cond (p || q) (with_face none x) x
    go true q e = last (same x.number b)
    go false q e = rw e

both_marked : (a b : ℕ) (xs : List Node)
    → map (λ (r : Node). cond (same r.number b) (with_face none r) r)
    (map (λ (r : Node). cond (same r.number a) (with_face none r) r) xs)
    ≡ map (λ (r : Node). cond (is_either a b r) (with_face none r) r) xs
both_marked a b [] = refl
both_marked a b (x ∷ xs) = ap₂ (λ (y : Node) (ys : List Node). y ∷ ys) (either a b x) (both_marked a b xs)

-- ---- the edge drawn

module _ {nodes edges : List ℤ} {h : Head} {u v : ℕ} {c : List ℤ} {face : ℤ}
    (d : Drawable nodes edges h u v c face) where
  abbrev row : Edge
  row = new_row nodes h u v c face

  follows : Follows edges (nat_abs h.edges) row
  follows = record {
    few = points_few d.run;
    ranges = row_ranges d.run row refl;
    above = d.held.below;
    least = d.held.next-least;
    most = d.number;
    left = refl;
    right = refl;
  }

  abbrev pushed_table : List ℤ
  pushed_table = paste edges (nat_abs h.edges * edge_width) (edge_cells row) edge_width

  pub pushed_held : EdgeTable (paste edges (nat_abs h.edges * edge_width)
      (edge_cells (new_row nodes h u v c face)) edge_width) (nat_abs h.edges + 1)
  pushed_held = pushed_table_lem d.held.edge-table row follows d.room

  pushed_are : edges_of pushed_table (nat_abs h.edges + 1) ≡ edges_of edges (nat_abs h.edges) ++ row ∷ []
  pushed_are = pushed_edges d.held.edge-table row follows d.room

  abbrev linked_table : List ℤ
  linked_table = linked_edge pushed_table (nat_abs h.edges + 1)

  some : 0 < nat_abs h.edges + 1
  some = omega arith

  linked_held : EdgeTable linked_table (nat_abs h.edges + 1)
  linked_held =
      let r = linked_edge_relinked pushed_held.rows some in
      record {
        rows = linked_edge_kept pushed_held.rows some;
        rest = ap (all_of is_zero) (rest_kept r) ∙ pushed_held.rest;
        whole = rw r.long pushed_held.whole;
      }

  last_row : edge_at pushed_table (nat_abs h.edges + 1 - 1) ≡ row
  last_row =
      let k = nat_abs h.edges in
      let e : k + 1 - 1 ≡ k = omega arith in
      let long : length (edges_of edges k) ≡ k = edges_length edges k in
      ap (edge_at pushed_table) e
      ∙ sym (edges_get_d pushed_table (k + 1) k row (omega arith))
      ∙ ap (λ (es : List Edge). get_or es k row) pushed_are
      ∙ get_or_at (edges_of edges k) row [] row k long

  linked_are : edges_of linked_table (nat_abs h.edges + 1)
      ≡ (link_edge (nat_abs h.next_edge)
      (edges_alone (edges_of edges (nat_abs h.edges) ++ row ∷ []))).edges
  linked_are =
      ap (λ (m : Map). m.edges) (linked-edge_map pushed_held.rows some)
      ∙ ap₂ (λ (k : ℕ) (es : List Edge). (link_edge k
      (edges_alone es)).edges)
      (ap (λ (r : Edge). r.number) last_row) pushed_are

  numbers_are : map (λ (e : Edge). e.number) (edges_of linked_table (nat_abs h.edges + 1))
      ≡ map (λ (e : Edge). e.number) (edges_of edges (nat_abs h.edges)) ++ nat_abs h.next_edge ∷ []
  numbers_are =
      let k = nat_abs h.edges + 1 in
      let r = linked_edge_relinked pushed_held.rows some in
      edge_numbers_lem linked_table k
      ∙ table_same (λ i. (edge_at linked_table i).number) (λ i. (edge_at pushed_table i).number) 0 k
      (λ i _ b. number_kept r pushed_held.rows.fits i (omega arith))
      ∙ sym (edge_numbers_lem pushed_table k)
      ∙ ap (map (λ (e : Edge). e.number)) pushed_are
      ∙ map-append (λ (e : Edge). e.number) (edges_of edges (nat_abs h.edges)) (row ∷ [])

  -- ---- the nodes

  abbrev start_marked : List ℤ
  start_marked = set nodes (u * node_width + 3) (negsuc 0)

  abbrev end_marked : List ℤ
  end_marked = set start_marked (v * node_width + 3) (negsuc 0)

  start_held : NodeTable start_marked (nat_abs h.nodes)
  start_held = faced_table d.held.node_table_lem u d.start (negsuc 0) refl

  end_held : NodeTable end_marked (nat_abs h.nodes)
  end_held = faced_table start_held v d.end (negsuc 0) refl

  marked_are : nodes_of end_marked (nat_abs h.nodes)
      ≡ map (λ (r : Node). cond (is_either (node_at nodes u).number (node_at nodes v).number r) (with_face none r) r)
      (nodes_of nodes (nat_abs h.nodes))
  marked_are =
      let g : ℕ → Node → Node = λ k r. cond (same r.number k) (with_face none r) r in
      faced_nodes start_held v d.end (negsuc 0) refl
      ∙ ap₂ (λ (k : ℕ) (xs : List Node). map (g k) xs)
      (faced_number d.held.node_table_lem u d.start (negsuc 0) refl v d.end)
      (faced_nodes d.held.node_table_lem u d.start (negsuc 0) refl)
      ∙ both_marked (node_at nodes u).number (node_at nodes v).number (nodes_of nodes (nat_abs h.nodes))

  -- ---- the map

  abbrev after : Head
  after = changed_head h (counts 0 1 0) (counts 0 0 0) (counts 0 1 0)

  drawn_map_lem : (faces : List ℤ) → map_of (lent end_marked linked_table faces after)
      ≡ drawn (node_at nodes u).number (node_at nodes v).number (curve_of c) (nat_abs face)
      (map_of (lent nodes edges faces h))
  unfolding map_of drawn at_nodes link_edge link_in lead redirect at_edge changed_head
  drawn_map_lem faces i =
      record {
        nodes = (ap (nodes_of end_marked) (unchanged (nat_abs h.nodes)) ∙ marked_are) i;
        edges = (ap (edges_of linked_table) (sub-zero (nat_abs h.edges + 1)) ∙ linked_are
            ∙ sym (linked_alone (nat_abs h.next_edge)
            (set_edges (edges_of edges (nat_abs h.edges) ++ row ∷ [])
            (given (counts 0 1 0) (map_of (lent nodes edges faces h)))))) i;
        faces = faces_of faces (unchanged (nat_abs h.faces) i);
        next = counts (nat_abs h.next_node + 0) (nat_abs h.next_edge + 1) (nat_abs h.next_face + 0);
      }

  drawn_held : NodeEdgeTables end_marked linked_table after
  unfolding changed_head
  drawn_held =
      let k = d.held in
      let c = k.counted in
      record {
        node_table_lem = rw (unchanged (nat_abs h.nodes)) end_held;
        edge-table = rw (sub-zero (nat_abs h.edges + 1)) linked_held;
        counted = record {
          nodes = record { natural = refl; most = omega (arith, c.nodes.most) };
          edges = record {
            natural = refl;
            most = omega (arith, d.room, (whole_rows_lem edge_width 0 max_edges edges k.edge-table.whole).most);
          };
          faces = record { natural = refl; most = omega (arith, c.faces.most) };
          next_node = record { natural = refl; most = omega (arith, c.next_node.most) };
          next_edge = record { natural = refl; most = omega (arith, d.number) };
          next_face = record { natural = refl; most = omega (arith, c.next_face.most) };
          recorded = c.recorded;
        };
        next-least = omega arith;
        below = rw (sub-zero (nat_abs h.edges + 1)) (ap (numbered 1 (nat_abs h.next_edge + 1)) numbers_are
            ∙ numbered_push 1 (nat_abs h.next_edge) (nat_abs h.next_edge + 1)
            (map (λ (e : Edge). e.number) (edges_of edges (nat_abs h.edges))) k.below k.next-least
            (omega arith));
      }

  pub drawn_is : Drawn nodes edges h u v c face
      (set (set nodes (u * node_width + 3) (negsuc 0)) (v * node_width + 3) (negsuc 0))
      (linked_edge (paste edges (nat_abs h.edges * edge_width) (edge_cells (new_row nodes h u v c face)) edge_width)
      (nat_abs h.edges + 1)) after
  drawn_is =
      record {
        held = drawn_held;
        map = drawn_map_lem;
        nodes_long = length-set start_marked (v * node_width + 3) (negsuc 0)
            ∙ length-set nodes (u * node_width + 3) (negsuc 0);
        edges_long = (linked_edge_relinked pushed_held.rows some).long
            ∙ pushed_long d.held.edge-table row follows d.room;
        head = refl;
      }

  -- what a call left
  pub drawn_as : {nodes' edges' : List ℤ} {h' : Head} → nodes'
      ≡ set (set nodes (u * node_width + 3) (negsuc 0)) (v * node_width + 3) (negsuc 0)
      → edges' ≡ linked_edge (paste edges (nat_abs h.edges * edge_width)
      (edge_cells (new_row nodes h u v c face)) edge_width) (nat_abs h.edges + 1)
      → h' ≡ changed_head h (counts 0 1 0) (counts 0 0 0) (counts 0 1 0)
      → Drawn nodes edges h u v c face nodes' edges' h'
  drawn_as {nodes'} {edges'} {h'} en ee eh =
      subst (λ (x : List ℤ). Drawn nodes edges h u v c face x edges' h') (sym en)
      (subst (λ (x : List ℤ). Drawn nodes edges h u v c face end_marked x h') (sym ee)
      (subst (λ (x : Head). Drawn nodes edges h u v c face end_marked linked_table x) (sym eh) drawn_is))

-- an edge more, as many faces, and the same record
module _ {nodes edges : List ℤ} {h : Head} {u v : ℕ} {c : List ℤ} {face : ℤ} {nodes' edges' : List ℤ} {h' : Head}
    (d : Drawn nodes edges h u v c face nodes' edges' h') where
  pub drawn_edges : nat_abs h'.edges ≡ nat_abs h.edges + 1
  unfolding changed_head
  drawn_edges = ap (λ (x : Head). nat_abs x.edges) d.head ∙ sub-zero (nat_abs h.edges + 1)

  pub drawn_faces : nat_abs h'.faces ≡ nat_abs h.faces
  unfolding changed_head
  drawn_faces = ap (λ (x : Head). nat_abs x.faces) d.head ∙ unchanged (nat_abs h.faces)

  pub drawn-points : h'.points ≡ h.points
  unfolding changed_head
  drawn-points = ap (λ (x : Head). x.points) d.head

-- ---- the new row as it is written

pub row_written : {n b t nl nr l r : ℤ} (line : Line) (e : Edge) → line ≡ line_of (points e.curve) → n
    ≡ pos e.number → b ≡ pos e.start → t ≡ pos e.end
    → nl ≡ dart_cell e.next_left → nr ≡ dart_cell e.next_right → l ≡ pos e.left → r ≡ pos e.right
    → length (points e.curve) ≤ max_points
    → n ∷ b ∷ t ∷ nl ∷ nr ∷ l ∷ r ∷ pos line.count ∷ line.cells ≡ edge_cells e
row_written {n} {b} {t} {nl} {nr} {l} {r} line e is en eb et el er fl fr few =
    let s : Incidence = record {
      number = n;
      start = b;
      end = t;
      next_left = nl;
      next_right = nr;
      left = l;
      right = r;
    } in
    ap (cells_of s) is ∙ row_cells_lem s e en eb et el er fl fr few

module _ {nodes edges : List ℤ} {h : Head} {u v : ℕ} {c : List ℤ} {face : ℤ}
    (d : Drawable nodes edges h u v c face) where
  pub start_number : get_or nodes (u * node_width) (pos 0) ≡ pos (node_at nodes u).number
  start_number = (node_cells_lem nodes u (rows_all node_width nodes node_ranges (nat_abs h.nodes)
      d.held.node_table_lem.rows.ranges u d.start)).number

  pub end_number_lem : get_or nodes (v * node_width) (pos 0) ≡ pos (node_at nodes v).number
  end_number_lem = (node_cells_lem nodes v (rows_all node_width nodes node_ranges (nat_abs h.nodes)
      d.held.node_table_lem.rows.ranges v d.end)).number

  pub start_small : (node_at nodes u).number ≤ 1000001
  start_small = let k = (node_number_in d.held.node_table_lem.rows u d.start).1 in omega arith

  pub end_small : (node_at nodes v).number ≤ 1000001
  end_small = let k = (node_number_in d.held.node_table_lem.rows v d.end).1 in omega arith

  pub face_is : face ≡ pos (nat_abs face)
  face_is = pos_abs face d.natural

  pub new_fits : nat_abs h.edges * edge_width + edge_width ≤ length edges
  new_fits = let s = (whole_rows_lem edge_width 0 max_edges edges d.held.edge-table.whole).size in let r = d.room in
      omega arith

  pub start_fits : u * node_width + node_width ≤ length nodes
  start_fits = let f = d.held.node_table_lem.rows.fits in let r =
      row_room node_width (nat_abs h.nodes) u d.start in omega arith

  pub end_fits : v * node_width + node_width ≤ length nodes
  end_fits = let f = d.held.node_table_lem.rows.fits in let r = row_room node_width (nat_abs h.nodes) v d.end in
      omega arith
