-- What kind 4 answers: the reasons against it, and the tables it leaves. Assumes nothing.
use mathlib.Core.Path.{◌≡◌, refl, sym, ap, ◌∙◌}
use mathlib.Core.Bool.{true, false, ◌||◌}
use mathlib.Core.Logic.{inl, inr}
use mathlib.Core.List.{List, flat_map}
use mathlib.Core.Option.{get_or}
use Prim.Native.Nat.{ℕ, ◌*◌, ◌/◌, ◌<◌}
use native.Mathlib.Omega.{arith}
use lib.IntN.{ℤ, pos, nat_abs}
use lib.ListN.{length}
use Rattle.lists.specs.Tests.{same}
use Rattle.lists.proofs.Bools.{equal?, same_eq, same_false}
use Rattle.curves.specs.Curves.{curve_of}
use Rattle.map.specs.declared.Head.{Head}
use Rattle.map.specs.Limits.{face_width, most_points, limit_of}
use Rattle.map.specs.Rows.{counts, Node, Map, Sizes, map_of, lent_with, rectangle, sizes_of, head_of, node}
use Rattle.map.specs.Rows.{node_cells, edge_cells, lent}
use Rattle.tables.specs.Tables.{filled}
use Rattle.map.specs.Edits.{drawn, add_iso_edge}
use Rattle.map.specs.Tickets.{AddIsoEdge}
use Rattle.map.specs.Reasons.{first_reason, reasons, no_node, sent_reasons, curve_in, node_inside, add_iso_edge_reasons}
use Rattle.map.specs.Ticket.{carried}
use Rattle.map.proofs.Reasons.{first_hit}
use Rattle.map_rows.specs.Rows.{nodes_of, edges_of, faces_of, faces_in, node_at, node_map}
use Rattle.map_rows.proofs.Rows.{nodes_length, edges_length, faces_length}
use Rattle.head.proofs.Heads.{head_same}
use Rattle.reason_curves.specs.Sent.{edges_but}
use Rattle.reason_curves.proofs.Maps.{inside_alike}
use Rattle.reason_curves.proofs.Others.{edges_all}
use Rattle.outcomes.specs.Outcomes.{Formed, edited}
use Rattle.outcomes.proofs.Formed.{node_rows_lem, edge-next, nodes_size, edges_size, faces_filled, room_at_lem, lent_is}
use Rattle.outcomes.proofs.Formed.{against_sent, by_points_left}
use Rattle.edge_rows.specs.Holds.{Drawn}
use Rattle.edge_rows.proofs.Drawn.{drawn_faces, drawn-points}
use Rattle.edge_rows.proofs.Filled.{nodes_filled, edges_filled}
use Rattle.edge_rows.proofs.NodeFaces.{node_once}
use Rattle.outcomes.proofs.FoundRows.{node_there_lem, node_is}
use Rattle.edit_isolated.specs.Isolated.{isolated_reasons, isolated_along}

-- a node that is missing
pub missing : (s : Sizes) (m : Map) (a b : ℤ) (sent : List ℤ) → no_node m a || no_node m b ≡ true
    → first_reason (reasons s m (AddIsoEdge a b sent)) ≡ 4
unfolding reasons
missing s m a b sent = first_hit 4 (no_node m a || no_node m b) _

module _ {nodes edges faces : List ℤ} {h : Head} (f : Formed nodes edges faces h) where
  abbrev m : Map
  m = map_of (lent nodes edges faces h)

  abbrev s : Sizes
  s = sizes_of (lent nodes edges faces h)

  module _ (u v : ℕ) (bu : u < nat_abs h.nodes) (bv : v < nat_abs h.nodes) where
    abbrev start : ℕ
    start = (node_at nodes u).number

    abbrev end : ℕ
    end = (node_at nodes v).number

    -- ---- by the points sent

    both_there : no_node m (pos start) || no_node m (pos end) ≡ false
    both_there = rw (node_there_lem f u bu, node_there_lem f v bv)

    pub add-refused : (sent : List ℤ) (r : ℕ) → 0 < r → first_reason (sent_reasons (most_points s.limit) sent) ≡ r
        → first_reason (reasons s m (AddIsoEdge (pos start) (pos end) sent)) ≡ r
    unfolding reasons
    add-refused sent r some k = against_sent (lent nodes edges faces h) (AddIsoEdge (pos start) (pos end) sent)
        both_there sent (add_iso_edge_reasons s m start end) refl r some k

    pub add_left : (sent : List ℤ) → first_reason (sent_reasons (most_points s.limit) sent) ≡ 0
        → isolated_along (lent nodes edges faces h) start end (curve_in sent)
        ≡ edited (lent nodes edges faces h) (AddIsoEdge (pos start) (pos end) sent)
    unfolding reasons carried
    add_left sent k = by_points_left (lent nodes edges faces h) (AddIsoEdge (pos start) (pos end) sent)
        both_there sent (add_iso_edge_reasons s m start end) refl k

    -- ---- along a curve

    one-node : same start end ≡ same u v
    one-node = elim (equal? u v) [
      | inl q ↦ same_eq start end (ap (λ (k : ℕ). (node_at nodes k).number) q) ∙ sym (same_eq u v q)
      | inr q ↦ same_false start end (λ g. q (node_once (node_rows_lem f) u v bu bv g)) ∙ sym (same_false u v q)
    ]

    edges_are : m.edges ≡ edges_but edges (nat_abs h.edges) (nat_abs h.edges)
    unfolding map_of
    edges_are = sym (edges_all edges (nat_abs h.edges) (nat_abs h.edges) (omega arith))

    nodes_inside : (c : List ℤ) → node_inside m (curve_of c) ≡ node_inside (node_map nodes (nat_abs h.nodes)) (curve_of c)
    unfolding map_of
    nodes_inside c = inside_alike m (node_map nodes (nat_abs h.nodes)) (curve_of c) refl

    pub add-reasons : (c : List ℤ) → first_reason (add_iso_edge_reasons s m start end (curve_of c))
        ≡ first_reason (isolated_reasons nodes edges faces h u v c)
    add-reasons c = rw (
      node_is f u bu,
      node_is f v bv,
      one-node,
      ← room_at_lem f (counts 0 1 0) (counts 0 1 0),
      nodes_inside c,
      edges_are,
    ) refl

    -- ---- the edge drawn

    module _ {c : List ℤ} {face : ℤ} {nodes' edges' : List ℤ} {h' : Head}
        (ef : face ≡ pos (get_or (node_at nodes u).face 0))
        (d : Drawn nodes edges h u v c face nodes' edges' h') where
      abbrev m' : Map
      m' = map_of (lent nodes' edges' faces h')

      map_is : drawn start end (curve_of c) (get_or (node m start).face 0) m ≡ m'
      map_is =
          ap (λ (k : ℕ). drawn start end (curve_of c) k m)
          (ap (λ (r : Node). get_or r.face 0) (node_is f u bu) ∙ sym (ap nat_abs ef))
          ∙ sym (d.map faces)

      head_is : head_of s.limit m' ≡ h'
      unfolding map_of
      head_is =
          ap (λ (z : ℤ). head_of (limit_of z) m') (sym (drawn-points d))
          ∙ head_same d.held.counted m' (nodes_length nodes' (nat_abs h'.nodes))
          (edges_length edges' (nat_abs h'.edges)) (faces_length faces (nat_abs h'.faces)) refl refl refl

      written : lent_with (rectangle m.edges) s m' ≡ lent nodes' edges' faces h'
      unfolding map_of
      written =
          lent_is (rectangle m.edges) s m'
          (ap (λ (k : ℕ). filled k (flat_map node_cells (nodes_of nodes' (nat_abs h'.nodes))))
          ((nodes_size f).0 ∙ sym d.nodes_long) ∙ nodes_filled d.held.node_table_lem)
          (ap (λ (k : ℕ). filled k (flat_map edge_cells (edges_of edges' (nat_abs h'.edges))))
          ((edges_size f).0 ∙ sym d.edges_long) ∙ edges_filled d.held.edge-table)
          (ap (λ (k : ℕ). faces_in (length faces / face_width * face_width) (rectangle m.edges) (faces_of faces k))
          (drawn_faces d) ∙ faces_filled f)
          head_is

      pub add-lent : lent_with (rectangle m.edges) s (add_iso_edge start end (curve_of c) m)
          ≡ lent nodes' edges' faces h'
      unfolding add_iso_edge
      add-lent = ap (lent_with (rectangle m.edges) s) map_is ∙ written

  pub add-value : pos m.next.edges ≡ h.next_edge
  unfolding map_of
  add-value = sym (edge-next f).0
