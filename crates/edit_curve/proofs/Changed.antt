-- What kind 6 answers: the reasons against it, and the tables it leaves. Assumes nothing.
use Rattle.std.specs.Prelude.{None}
use mathlib.Core.Path.{◌≡◌, refl, sym, ap, ◌∙◌}
use mathlib.Core.Bool.{true, cond, ◌&&◌, false≢true}
use mathlib.Core.List.{List, [], ◌∷◌, ◌++◌, map, flat_map}
use Prim.Native.Nat.{ℕ, ◌*◌, ◌/◌, ◌<◌}
use lib.IntN.{ℤ, pos, negsuc, nat_abs}
use lib.ListN.{length, get_or, set, length-map}
use lib.Seq.{paste}
use lib.Signed.{non_neg}
use Rattle.lists.specs.Tests.{same}
use Rattle.lists.specs.Scans.{is_some}
use Rattle.lists.specs.Tables.{place}
use Rattle.curves.specs.Curves.{Run, curve_of}
use Rattle.curves.proofs.Runs.{and_left, and_right}
use Rattle.map.specs.declared.Head.{Head}
use Rattle.map.specs.Limits.{most_points, node_width, edge_width, face_width}
use Rattle.map.specs.Rows.{Edge, Map, Sizes, map_of, lent_with, sizes_of, head_of, node, has_node, has_edge, has_face}
use Rattle.map.specs.Rows.{node_cells, edge_cells, rectangle, without_edge, at_edge, lent}
use Rattle.tables.specs.Tables.{same_z, column, filled}
use Rattle.map.specs.Edits.{with_curve, change_edge_geom}
use Rattle.map.specs.Tickets.{ChangeEdgeGeom}
use Rattle.map.specs.Reasons.{first_reason, reasons, no_edge, sent_reasons, curve_in, direction_taken, node_inside}
use Rattle.map.specs.Reasons.{order_changes, sides_change, change_geom_reasons}
use Rattle.map.specs.Ticket.{carried}
use Rattle.map.proofs.Laws.{names}
use Rattle.map.proofs.Reasons.{first_hit}
use Rattle.map_rows.specs.Rows.{edges_of, faces_in, node_map, edge_at, edge_map, NodeRows}
use Rattle.map_rows.proofs.Rows.{edges_length, edges_get_d}
use Rattle.map_rows.proofs.Lookups.{node_missing}
use Rattle.tables.proofs.Numbers.{get_d_in, changed_at_lem}
use Rattle.tables.proofs.Writes.{replaced_at}
use Rattle.map.proofs.RoundTrip.{edge-wide}
use Rattle.reason_curves.specs.Sent.{edges_but}
use Rattle.reason_curves.proofs.Maps.{inside_alike}
use Rattle.reason_curves.proofs.Others.{edges_but_lem}
use Rattle.reason_departures.proofs.Alone.{taken_alone, order_alone}
use Rattle.outcomes.specs.Outcomes.{Formed, edited}
use Rattle.outcomes.proofs.Formed.{formed-map, edge_rows_lem, edge_numbers_once, nodes_filled, edges_filled, faces_filled}
use Rattle.outcomes.proofs.Formed.{edges_are_wide, head_back, lent_is, edge_none, against_sent, by_points_left}
use Rattle.edge_rows.proofs.Drawn.{points_few}
use Rattle.outcomes.proofs.FoundRows.{node_is, edge_there_lem, edge_is}
use Rattle.edit_curve.specs.Change.{taken_at, change_reasons, changed_along, EndsAt}

-- a node that is there is not missing
pub node_placed : {l : List ℤ} {n : ℕ} → NodeRows l n → (z : ℤ) → non_neg z ≡ true → has_node (node_map l n) (nat_abs z)
    ≡ true → place (same_z z) 0 (column node_width l n) ≡ None → ⊥
node_placed {l} {n} t (pos k) s has e = false≢true (sym (ap is_some (node_missing l n t.ranges k e)) ∙ has)
node_placed t (negsuc k) s has e = false≢true s

module _ {nodes edges faces : List ℤ} {h : Head} (f : Formed nodes edges faces h) where
  abbrev m : Map
  m = map_of (lent nodes edges faces h)

  abbrev s : Sizes
  s = sizes_of (lent nodes edges faces h)

  abbrev es : List Edge
  es = edges_of edges (nat_abs h.edges)

  -- a row that is missing is reason 4
  pub change_missing : (z : ℤ) (sent : List ℤ)
      → place (same_z z) 0 (column edge_width edges (nat_abs h.edges)) ≡ None
      → first_reason (reasons s m (ChangeEdgeGeom z sent)) ≡ 4
  unfolding reasons
  change_missing z sent e = first_hit 4 (no_edge m z) _ (edge_none f z e)

  module _ (i : ℕ) (b : i < nat_abs h.edges) where
    abbrev number : ℕ
    number = (edge_at edges i).number

    inside : i < length es
    inside = rw (edges_length edges (nat_abs h.edges)) b

    row_is : get_or es i (edge_at edges i) ≡ edge_at edges i
    row_is = edges_get_d edges (nat_abs h.edges) i (edge_at edges i) b

    -- its nodes are there
    ends : has_node m (edge_at edges i).start && has_node m (edge_at edges i).end ≡ true
    unfolding map_of
    ends =
        let r = edge_at edges i in
        let k = names m (formed-map f) r (rw row_is at (get_d_in es i r inside)) in
        and_left (has_node m r.start && has_node m r.end) (has_edge m r.next_left.edge)
        (and_left _ (has_edge m r.next_right.edge)
        (and_left _ (has_face m r.left) (and_left _ (has_face m r.right) k)))

    pub start_there : has_node (node_map nodes (nat_abs h.nodes)) (edge_at edges i).start ≡ true
    unfolding map_of
    start_there = and_left (has_node m (edge_at edges i).start) (has_node m (edge_at edges i).end) ends

    pub end_there : has_node (node_map nodes (nat_abs h.nodes)) (edge_at edges i).end ≡ true
    unfolding map_of
    end_there = and_right (has_node m (edge_at edges i).start) (has_node m (edge_at edges i).end) ends

    -- ---- by the points sent

    pub change-refused : (sent : List ℤ) (r : ℕ) → 0 < r → first_reason (sent_reasons (most_points s.limit) sent) ≡ r
        → first_reason (reasons s m (ChangeEdgeGeom (pos number) sent)) ≡ r
    unfolding reasons
    change-refused sent r some k = against_sent (lent nodes edges faces h) (ChangeEdgeGeom (pos number) sent)
        (edge_there_lem f i b) sent (change_geom_reasons m number) refl r some k

    pub change-left : (sent : List ℤ) → first_reason (sent_reasons (most_points s.limit) sent) ≡ 0
        → changed_along (lent nodes edges faces h) number (curve_in sent)
        ≡ edited (lent nodes edges faces h) (ChangeEdgeGeom (pos number) sent)
    unfolding reasons carried
    change-left sent k = by_points_left (lent nodes edges faces h) (ChangeEdgeGeom (pos number) sent)
        (edge_there_lem f i b) sent (change_geom_reasons m number) refl k

    -- ---- along a curve: the reasons

    module _ (c : List ℤ) where
      taken_is : direction_taken m number (edge_at edges i).start (edge_at edges i).end (curve_of c)
          ≡ taken_at edges (nat_abs h.edges) i c
      unfolding map_of
      taken_is = taken_alone m number (edge_at edges i).start (edge_at edges i).end (curve_of c)

      inside_is : node_inside m (curve_of c) ≡ node_inside (node_map nodes (nat_abs h.nodes)) (curve_of c)
      unfolding map_of
      inside_is = inside_alike m (node_map nodes (nat_abs h.nodes)) (curve_of c) refl

      others_are : without_edge number m.edges ≡ edges_but edges (nat_abs h.edges) i
      unfolding map_of
      others_are = sym (edges_but_lem (edge_rows_lem f) i b)

      order_is : order_changes m number (curve_of c)
          ≡ order_changes (edge_map edges (nat_abs h.edges)) (edge_at edges i).number (curve_of c)
      unfolding map_of
      order_is = order_alone m number (curve_of c)

      -- those from 7 to 19, and then 22
      pub change_reasons_lem : (u v : ℕ) → EndsAt nodes edges h i u v
          → first_reason (change_geom_reasons m number (curve_of c))
          ≡ first_reason (change_reasons nodes edges h i u v c ++ (22, sides_change m number (curve_of c)) ∷ [])
      change_reasons_lem u v k = rw (
        edge_is f i b,
        ap (node m) (sym k.start) ∙ node_is f u k.start_in,
        ap (node m) (sym k.end) ∙ node_is f v k.end_in,
        taken_is,
        inside_is,
        others_are,
        order_is,
      ) refl

      -- ---- the curve written

      abbrev row : Edge
      row = with_curve (curve_of c) (edge_at edges i)

      abbrev m' : Map
      m' = change_edge_geom number (curve_of c) m

      edges_are : m'.edges ≡ set es i row
      unfolding change_edge_geom at_edge map_of
      edges_are =
          ap (λ (k : ℕ). map (λ (r : Edge). cond (same r.number k) (with_curve (curve_of c) r) r) es)
          (ap (λ (r : Edge). r.number) (sym row_is))
          ∙ changed_at_lem (λ (r : Edge). r.number) (with_curve (curve_of c)) es (edge_numbers_once f) i
          (edge_at edges i) inside
          ∙ ap (λ (r : Edge). set es i (with_curve (curve_of c) r)) row_is

      head_is : head_of s.limit m' ≡ h
      unfolding change_edge_geom at_edge map_of
      head_is =
          let g : Edge → Edge = λ r. cond (same r.number number) (with_curve (curve_of c) r) r in
          let e = head_back f in
          λ j.
          record {
            nodes = (e j).nodes;
            edges = (ap pos (length-map es g) ∙ ap (λ (x : Head). x.edges) e) j;
            faces = (e j).faces;
            next_node = (e j).next_node;
            next_edge = (e j).next_edge;
            next_face = (e j).next_face;
            points = (e j).points;
          }

      same_nodes : filled (length nodes / node_width * node_width) (flat_map node_cells m'.nodes) ≡ nodes
      unfolding change_edge_geom at_edge map_of
      same_nodes = nodes_filled f

      same_faces : faces_in (length faces / face_width * face_width) (rectangle m.edges) m'.faces ≡ faces
      unfolding change_edge_geom at_edge map_of
      same_faces = faces_filled f

      pub change-lent : {edges' : List ℤ} → Run c → edges'
          ≡ paste edges (i * edge_width) (edge_cells (with_curve (curve_of c) (edge_at edges i))) edge_width
          → lent_with (rectangle m.edges) s (change_edge_geom number (curve_of c) m) ≡ lent nodes edges' faces h
      change-lent run w =
          let size = length edges / edge_width * edge_width in
          lent_is (rectangle m.edges) s m' same_nodes
          (ap (λ (xs : List Edge). filled size (flat_map edge_cells xs)) edges_are
          ∙ sym (replaced_at edge_width edge_cells size es i (edge_at edges i) (edges_are_wide f) inside row
          (edge-wide row (points_few run)))
          ∙ ap (λ (l : List ℤ). paste l (i * edge_width) (edge_cells row) edge_width) (edges_filled f) ∙ sym w)
          same_faces head_is
