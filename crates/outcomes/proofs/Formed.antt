-- What tables in form hold: rows in range and in rising order, counts and next numbers, each table as its map's rows
-- with zeros behind. What a call on them answers: turned down by the first reason, or the map carried out. Assumes
-- nothing.
use Rattle.std.specs.Prelude.{None}
use mathlib.Core.Path.{◌≡◌, refl, sym, ap, ◌∙◌}
use mathlib.Core.Bool.{Bool, true, false, ◌&&◌}
use mathlib.Core.List.{List, [], ◌∷◌, map, flat_map}
use Prim.Native.Nat.{ℕ, zero, suc, ◌+◌, ◌*◌, ◌/◌, ◌≤◌, ◌<◌}
use native.Mathlib.Omega.{arith}
use lib.Dec.{ltb}
use lib.IntN.{ℤ, pos, negsuc, nat_abs}
use lib.ListN.{length}
use borrow.Author.Tests.{le-ltb}
use Rattle.lists.specs.Tests.{same}
use Rattle.lists.specs.Scans.{all_of, first_or}
use Rattle.lists.specs.Members.{Distinct}
use Rattle.lists.specs.Tables.{place}
use Rattle.tables.specs.Tables.{same_z, column, filled, numbered}
use Rattle.tables.proofs.Filled.{WholeRows, whole_rows_lem, Wide}
use Rattle.tables.proofs.Tests.{within-pos}
use Rattle.tables.proofs.Rising.{all_weaker, numbered_wider}
use Rattle.curves.specs.Curves.{Curve}
use Rattle.curves.proofs.Runs.{and_left, and_right}
use Rattle.map.specs.declared.Counts.{Counts}
use Rattle.map.specs.declared.Head.{Head}
use Rattle.map.specs.Limits.{max_nodes, max_edges, max_faces, last_number, node_width, edge_width, face_width}
use Rattle.map.specs.Limits.{most_points, limit_of}
use Rattle.bounding_boxes.specs.declared.Extent.{Extent}
use Rattle.map.specs.Rows.{Edge, Map, Lent, Sizes, map_of, lent_of, lent_with, rectangle, sizes_of, head_of, node_cells}
use Rattle.map.specs.Rows.{edge_cells, has_node, has_edge, has_face, lent}
use Rattle.map.specs.Form.{numbers, in_face, edge_names, named, formed}
use Rattle.map.specs.Tickets.{Ticket}
use Rattle.map.specs.Reasons.{Reasons, first_reason, reasons, full, spent, room_reasons, no_node, no_edge, sent_reasons}
use Rattle.map.specs.Reasons.{curve_in, curve_ticket_reasons}
use Rattle.map.specs.Ticket.{carried}
use Rattle.map.proofs.Surplus.{sent_refused, sent_passed}
use Rattle.map.proofs.RoundTrip.{Ranged, ranged_is, whole_tables}
use Rattle.map.proofs.Laws.{formed_is, in_form_is, in_form-back}
use Rattle.map_rows.specs.Rows.{nodes_of, edges_of, faces_of, faces_in, edge_map, NodeRows, EdgeRows, FaceRows}
use Rattle.map_rows.proofs.Rows.{nodes_length, edges_length, faces_length}
use Rattle.map_rows.proofs.RowCurves.{table_edges_wide}
use Rattle.map_rows.proofs.Lookups.{node_missing, edge_missing}
use Rattle.head.specs.Heads.{Counted, sizes_in, full_at, spent_at, room_at}
use Rattle.outcomes.specs.declared.Done.{Done}
use Rattle.outcomes.specs.Outcomes.{Formed, decided, unless_with, edited_unless, edited, outcome}

-- ---- tables in form

module _ {nodes edges faces : List ℤ} {h : Head} (f : Formed nodes edges faces h) where
  pub ranges : Ranged (lent nodes edges faces h)
  ranges = ranged_is (lent nodes edges faces h) (in_form_is (lent nodes edges faces h) f.in_form).ranged

  pub formed-map : formed (map_of (lent nodes edges faces h)) ≡ true
  formed-map = (in_form_is (lent nodes edges faces h) f.in_form).formed

  -- counts
  pub nodes_count : (h.nodes ≡ pos (nat_abs h.nodes)) × (0 ≤ nat_abs h.nodes)
      × (nat_abs h.nodes ≤ length nodes / node_width)
  nodes_count = within-pos 0 (length nodes / node_width) h.nodes ranges.nodes

  pub edges_count : (h.edges ≡ pos (nat_abs h.edges)) × (0 ≤ nat_abs h.edges)
      × (nat_abs h.edges ≤ length edges / edge_width)
  edges_count = within-pos 0 (length edges / edge_width) h.edges ranges.edges

  pub faces_count : (h.faces ≡ pos (nat_abs h.faces)) × (1 ≤ nat_abs h.faces)
      × (nat_abs h.faces ≤ length faces / face_width)
  faces_count = within-pos 1 (length faces / face_width) h.faces ranges.faces

  -- next numbers
  pub node-next : (h.next_node ≡ pos (nat_abs h.next_node)) × (1 ≤ nat_abs h.next_node)
      × (nat_abs h.next_node ≤ suc last_number)
  node-next = within-pos 1 (suc last_number) h.next_node ranges.next_node

  pub edge-next : (h.next_edge ≡ pos (nat_abs h.next_edge)) × (1 ≤ nat_abs h.next_edge)
      × (nat_abs h.next_edge ≤ suc last_number)
  edge-next = within-pos 1 (suc last_number) h.next_edge ranges.next_edge

  pub face_next : (h.next_face ≡ pos (nat_abs h.next_face)) × (1 ≤ nat_abs h.next_face)
      × (nat_abs h.next_face ≤ suc last_number)
  face_next = within-pos 1 (suc last_number) h.next_face ranges.next_face

  -- whole rows, and not more than the limit
  nodes_whole : WholeRows node_width 0 max_nodes nodes
  nodes_whole = whole_rows_lem node_width 0 max_nodes nodes (whole_tables (lent nodes edges faces h) f.whole).0

  edges_whole : WholeRows edge_width 0 max_edges edges
  edges_whole = whole_rows_lem edge_width 0 max_edges edges (whole_tables (lent nodes edges faces h) f.whole).1

  faces_whole : WholeRows face_width 1 max_faces faces
  faces_whole = whole_rows_lem face_width 1 max_faces faces (whole_tables (lent nodes edges faces h) f.whole).2

  pub nodes_size : (length nodes / node_width * node_width ≡ length nodes) × (length nodes / node_width ≤ max_nodes)
  nodes_size = (nodes_whole.size, nodes_whole.most)

  pub edges_size : (length edges / edge_width * edge_width ≡ length edges) × (length edges / edge_width ≤ max_edges)
  edges_size = (edges_whole.size, edges_whole.most)

  pub faces_size : (length faces / face_width * face_width ≡ length faces) × (length faces / face_width ≤ max_faces)
  faces_size = (faces_whole.size, faces_whole.most)

  -- counts and next numbers within the limits
  pub counted : Counted h
  counted =
      record {
        nodes = record { natural = nodes_count.0; most = omega (arith, nodes_count.2, nodes_size.1) };
        edges = record { natural = edges_count.0; most = omega (arith, edges_count.2, edges_size.1) };
        faces = record { natural = faces_count.0; most = omega (arith, faces_count.2, faces_size.1) };
        next_node = record { natural = node-next.0; most = node-next.2 };
        next_edge = record { natural = edge-next.0; most = edge-next.2 };
        next_face = record { natural = face_next.0; most = face_next.2 };
        recorded = ranges.recorded;
      }

  -- the rows in use fit
  pub nodes_fit : nat_abs h.nodes * node_width ≤ length nodes
  nodes_fit = omega (arith, nodes_count.2, nodes_size.0)

  pub edges_fit : nat_abs h.edges * edge_width ≤ length edges
  edges_fit = omega (arith, edges_count.2, edges_size.0)

  pub faces_fit : nat_abs h.faces * face_width ≤ length faces
  faces_fit = omega (arith, faces_count.2, faces_size.0)

  -- numbers rise
  pub numbers_rise : (numbered 1 (nat_abs h.next_node) (map (λ r. r.number) (nodes_of nodes (nat_abs h.nodes)))
      ≡ true)
      × (numbered 1 (nat_abs h.next_edge) (map (λ r. r.number) (edges_of edges (nat_abs h.edges))) ≡ true)
      × (numbered 0 (nat_abs h.next_face) (faces_of faces (nat_abs h.faces)) ≡ true)
  unfolding map_of numbers
  numbers_rise =
      let a = numbered 1 (nat_abs h.next_node) (map (λ r. r.number) (nodes_of nodes (nat_abs h.nodes))) in
      let b = numbered 1 (nat_abs h.next_edge) (map (λ r. r.number) (edges_of edges (nat_abs h.edges))) in
      let c = numbered 0 (nat_abs h.next_face) (faces_of faces (nat_abs h.faces)) in
      let three = and_left (a && b && c) (same (first_or 1 (faces_of faces (nat_abs h.faces))) 0)
      (formed_is (map_of (lent nodes edges faces h)) formed-map).rising in
      let two = and_left (a && b) c three in
      (and_left a b two, and_right a b two, and_right (a && b) c three)

  pub node_rows_lem : NodeRows nodes (nat_abs h.nodes)
  node_rows_lem =
      record {
        fits = nodes_fit;
        ranges = ranges.node_rows_lem;
        rising = numbered_wider 1 (nat_abs h.next_node) (suc last_number)
            (map (λ r. r.number) (nodes_of nodes (nat_abs h.nodes))) node-next.2 numbers_rise.0;
      }

  links_named_lem : (e : Edge) → edge_names (map_of (lent nodes edges faces h)) e ≡ true
      → has_edge (edge_map edges (nat_abs h.edges)) e.next_left.edge
      && has_edge (edge_map edges (nat_abs h.edges)) e.next_right.edge ≡ true
  unfolding map_of
  links_named_lem e k =
      let m = map_of (lent nodes edges faces h) in
      let k₁ = and_left _ (has_face m e.left) (and_left _ (has_face m e.right) k) in
      let left = and_right (has_node m e.start && has_node m e.end) (has_edge m e.next_left.edge)
      (and_left _ (has_edge m e.next_right.edge) k₁) in
      let right = and_right (has_node m e.start && has_node m e.end && has_edge m e.next_left.edge)
      (has_edge m e.next_right.edge) k₁ in
      rw left right

  pub edges_named_lem : all_of (edge_names (map_of (lent nodes edges faces h))) (edges_of edges (nat_abs h.edges)) ≡ true
  unfolding map_of named
  edges_named_lem =
      let m = map_of (lent nodes edges faces h) in
      and_right (all_of (λ n. in_face m n.face) m.nodes) (all_of (edge_names m) m.edges)
      (formed_is m formed-map).named

  pub edge_rows_lem : EdgeRows edges (nat_abs h.edges)
  edge_rows_lem =
      record {
        fits = edges_fit;
        ranges = ranges.edge_rows_lem;
        rising = numbered_wider 1 (nat_abs h.next_edge) (suc last_number)
            (map (λ r. r.number) (edges_of edges (nat_abs h.edges))) edge-next.2 numbers_rise.1;
        named = all_weaker (edge_names (map_of (lent nodes edges faces h)))
            (λ e. has_edge (edge_map edges (nat_abs h.edges)) e.next_left.edge
            && has_edge (edge_map edges (nat_abs h.edges)) e.next_right.edge) links_named_lem
            (edges_of edges (nat_abs h.edges)) edges_named_lem;
      }

  pub face_rows_lem : FaceRows faces (nat_abs h.faces)
  face_rows_lem =
      record {
        fits = faces_fit;
        ranges = ranges.face_rows_lem;
        rising = numbered_wider 0 (nat_abs h.next_face) (suc last_number) (faces_of faces (nat_abs h.faces))
            face_next.2 numbers_rise.2;
      }

  -- a named row that is missing
  pub node_none : (z : ℤ) → place (same_z z) 0 (column node_width nodes (nat_abs h.nodes)) ≡ None
      → no_node (map_of (lent nodes edges faces h)) z ≡ true
  unfolding map_of
  node_none (pos k) e = rw (node_missing nodes (nat_abs h.nodes) ranges.node_rows_lem k e)
  node_none (negsuc k) e = refl

  pub edge_none : (z : ℤ) → place (same_z z) 0 (column edge_width edges (nat_abs h.edges)) ≡ None
      → no_edge (map_of (lent nodes edges faces h)) z ≡ true
  unfolding map_of
  edge_none (pos k) e = rw (edge_missing edges (nat_abs h.edges) ranges.edge_rows_lem k e)
  edge_none (negsuc k) e = refl

  -- no number stands twice
  pub node_numbers_once : Distinct (map (λ r. r.number) (nodes_of nodes (nat_abs h.nodes)))
  unfolding map_of
  node_numbers_once = (formed_is (map_of (lent nodes edges faces h)) formed-map).numbers.nodes.distinct

  pub edge_numbers_once : Distinct (map (λ r. r.number) (edges_of edges (nat_abs h.edges)))
  unfolding map_of
  edge_numbers_once = (formed_is (map_of (lent nodes edges faces h)) formed-map).numbers.edges.distinct

  -- ---- each table is its rows, with zeros behind

  back : lent_of (sizes_of (lent nodes edges faces h)) (map_of (lent nodes edges faces h)) ≡ lent nodes edges faces h
  back = in_form-back (lent nodes edges faces h) f.whole f.in_form

  pub head_back : head_of (limit_of h.points) (map_of (lent nodes edges faces h)) ≡ h
  unfolding lent_with
  head_back = ap (λ (l : Lent). l.head) back

  pub nodes_filled : filled (length nodes / node_width * node_width)
      (flat_map node_cells (nodes_of nodes (nat_abs h.nodes))) ≡ nodes
  unfolding lent_with map_of
  nodes_filled = ap (λ (l : Lent). l.nodes) back

  pub edges_filled : filled (length edges / edge_width * edge_width)
      (flat_map edge_cells (edges_of edges (nat_abs h.edges))) ≡ edges
  unfolding lent_with map_of
  edges_filled = ap (λ (l : Lent). l.edges) back

  -- with the rectangles that the edges give
  pub faces_filled : faces_in (length faces / face_width * face_width) (rectangle (edges_of edges (nat_abs h.edges)))
      (faces_of faces (nat_abs h.faces)) ≡ faces
  unfolding lent_with map_of
  faces_filled = ap (λ (l : Lent). l.faces) back

  pub edges_are_wide : Wide edge_width edge_cells (edges_of edges (nat_abs h.edges))
  edges_are_wide = table_edges_wide edges (nat_abs h.edges) edges_fit ranges.edge_rows_lem

  -- ---- 21: no more numbers

  pub node-left : ltb (suc last_number) (nat_abs h.next_node + 0) ≡ false
  node-left = le-ltb (suc last_number) (nat_abs h.next_node + 0) (omega (arith, node-next.2))

  pub edge-left : ltb (suc last_number) (nat_abs h.next_edge + 0) ≡ false
  edge-left = le-ltb (suc last_number) (nat_abs h.next_edge + 0) (omega (arith, edge-next.2))

  pub face_left_lem : ltb (suc last_number) (nat_abs h.next_face + 0) ≡ false
  face_left_lem = le-ltb (suc last_number) (nat_abs h.next_face + 0) (omega (arith, face_next.2))

  -- ---- 20 and 21 of the map are those that are read from the head

  pub full_at_lem : (rows : Counts) → full_at (sizes_in nodes edges faces) h rows
      ≡ full (sizes_of (lent nodes edges faces h)) (map_of (lent nodes edges faces h)) rows
  unfolding map_of full_at
  full_at_lem rows = rw (
    nodes_length nodes (nat_abs h.nodes),
    edges_length edges (nat_abs h.edges),
    faces_length faces (nat_abs h.faces),
  )

  pub spent_at_lem : (numbers : Counts) → spent_at h numbers ≡ spent (map_of (lent nodes edges faces h)) numbers
  unfolding map_of spent_at
  spent_at_lem numbers = refl

  pub room_at_lem : (rows numbers : Counts) → room_at (sizes_in nodes edges faces) h rows numbers
      ≡ room_reasons (sizes_of (lent nodes edges faces h)) (map_of (lent nodes edges faces h)) rows numbers
  room_at_lem rows numbers = λ i. (20, full_at_lem rows i) ∷ (21, spent_at_lem numbers i) ∷ []

-- ---- what is lent after an edit

pub lent_is : (box : ℕ → Extent) (s : Sizes) (m : Map) {nodes edges faces : List ℤ} {h : Head}
    → filled (s.nodes * node_width) (flat_map node_cells m.nodes) ≡ nodes
    → filled (s.edges * edge_width) (flat_map edge_cells m.edges) ≡ edges
    → faces_in (s.faces * face_width) box m.faces ≡ faces
    → head_of s.limit m ≡ h
    → lent_with box s m ≡ lent nodes edges faces h
unfolding lent_with
lent_is box s m a b c d = λ i. record { nodes = a i; edges = b i; faces = c i; head = d i }

-- ---- what a call answers

-- the answer, with head and number as they were passed
pub done : {h g : Head} {v u : ℤ} {d : Done} → g ≡ h → u ≡ v → d
    ≡ record { head = g; answer = record { refusal = 0; value = u } } → d
    ≡ record { head = h; answer = record { refusal = 0; value = v } }
done eg eu e = e ∙ (λ i. record { head = eg i; answer = record { refusal = 0; value = eu i } })

-- an edit of rows, which leaves the rectangles, by its reasons and what it does where none holds
module _ (nodes edges faces : List ℤ) (h : Head) (rs : Reasons) (c : Map × ℤ) where
  -- turned down by the first reason r: the head as it was, and value 0
  pub unless_refused_lem : (r : ℕ) {d : Done} → 0 < r → d
      ≡ record { head = h; answer = record { refusal = r; value = pos 0 } }
      → first_reason rs ≡ r → outcome nodes edges faces d ≡ edited_unless (lent nodes edges faces h) rs c
  unless_refused_lem zero some e k = absurd (omega arith)
  unless_refused_lem (suc r) some e k = rw (k, e)

  -- carried out: tables and head after it, and its value
  pub unless-carried : (nodes' edges' faces' : List ℤ) (h' : Head) (v : ℤ) {d : Done} → d
      ≡ record { head = h'; answer = record { refusal = 0; value = v } } → first_reason rs ≡ 0
      → lent_with (rectangle (map_of (lent nodes edges faces h)).edges) (sizes_of (lent nodes edges faces h)) c.0
      ≡ lent nodes' edges' faces' h'
      → c.1 ≡ v → outcome nodes' edges' faces' d ≡ edited_unless (lent nodes edges faces h) rs c
  unless-carried nodes' edges' faces' h' v e k l w = rw (k, e, l, w)

module _ (nodes edges faces : List ℤ) (h : Head) (t : Ticket) where
  -- turned down by the first reason r: the head as it was, and value 0
  pub decided-refused : (r : ℕ) {d : Done} → 0 < r → d
      ≡ record { head = h; answer = record { refusal = r; value = pos 0 } }
      → first_reason (reasons (sizes_of (lent nodes edges faces h)) (map_of (lent nodes edges faces h)) t) ≡ r
      → outcome nodes edges faces d ≡ decided (lent nodes edges faces h) t
  decided-refused zero some e k = absurd (omega arith)
  decided-refused (suc r) some e k = rw (k, e)

  -- carried out: tables and head after it, and its value
  pub decided-carried : (nodes' edges' faces' : List ℤ) (h' : Head) (v : ℤ) {d : Done} → d
      ≡ record { head = h'; answer = record { refusal = 0; value = v } }
      → first_reason (reasons (sizes_of (lent nodes edges faces h)) (map_of (lent nodes edges faces h)) t) ≡ 0
      → lent_of (sizes_of (lent nodes edges faces h)) (carried (map_of (lent nodes edges faces h)) t).0
      ≡ lent nodes' edges' faces' h'
      → (carried (map_of (lent nodes edges faces h)) t).1 ≡ v
      → outcome nodes' edges' faces' d ≡ decided (lent nodes edges faces h) t
  decided-carried nodes' edges' faces' h' v e k l w = rw (k, e, l, w)

  -- the same of an edit of rows, which leaves the rectangles
  pub edited-refused : (r : ℕ) {d : Done} → 0 < r → d
      ≡ record { head = h; answer = record { refusal = r; value = pos 0 } }
      → first_reason (reasons (sizes_of (lent nodes edges faces h)) (map_of (lent nodes edges faces h)) t) ≡ r
      → outcome nodes edges faces d ≡ edited (lent nodes edges faces h) t
  edited-refused = unless_refused_lem nodes edges faces h
      (reasons (sizes_of (lent nodes edges faces h)) (map_of (lent nodes edges faces h)) t)
      (carried (map_of (lent nodes edges faces h)) t)

  pub edited-carried : (nodes' edges' faces' : List ℤ) (h' : Head) (v : ℤ) {d : Done} → d
      ≡ record { head = h'; answer = record { refusal = 0; value = v } }
      → first_reason (reasons (sizes_of (lent nodes edges faces h)) (map_of (lent nodes edges faces h)) t) ≡ 0
      → lent_with (rectangle (map_of (lent nodes edges faces h)).edges) (sizes_of (lent nodes edges faces h))
      (carried (map_of (lent nodes edges faces h)) t).0 ≡ lent nodes' edges' faces' h'
      → (carried (map_of (lent nodes edges faces h)) t).1 ≡ v
      → outcome nodes' edges' faces' d ≡ edited (lent nodes edges faces h) t
  edited-carried = unless-carried nodes edges faces h
      (reasons (sizes_of (lent nodes edges faces h)) (map_of (lent nodes edges faces h)) t)
      (carried (map_of (lent nodes edges faces h)) t)

-- a ticket with a curve, of rows that are there
module _ (l : Lent) (t : Ticket) {missing : Bool} (there : missing ≡ false) (sent : List ℤ) (rest : Curve → Reasons)
    (e : reasons (sizes_of l) (map_of l) t ≡ curve_ticket_reasons (sizes_of l) missing sent rest) where
  abbrev passes : Reasons
  passes = sent_reasons (most_points (limit_of l.head.points)) sent

  -- 5 or 6 is against the points sent
  pub against_sent : (r : ℕ) → 0 < r → first_reason passes ≡ r → first_reason (reasons (sizes_of l) (map_of l) t) ≡ r
  against_sent r some k = ap first_reason e ∙ sent_refused (sizes_of l) there sent rest r some k

  -- neither is: it is decided by what is left
  pub by_points_left : first_reason passes ≡ 0
      → edited_unless l (rest (curve_in sent)) (carried (map_of l) t) ≡ edited l t
  by_points_left k = ap (λ (r : ℕ). unless_with (rectangle (map_of l).edges) l r (carried (map_of l) t))
      (sym (ap first_reason e ∙ sent_passed (sizes_of l) there sent rest k))
