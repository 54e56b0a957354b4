-- After two faces are healed, the tables still hold a map, so the edge between them can be undrawn. Assumes nothing.
use mathlib.Core.Path.{◌≡◌, refl, sym, ap, ◌∙◌}
use mathlib.Core.Bool.{Bool}
use mathlib.Core.List.{List, flat_map}
use Prim.Native.Nat.{ℕ, suc, ◌+◌, ◌≤◌}
use native.Mathlib.Nat.{add-zero}
use native.Mathlib.Omega.{arith}
use lib.IntN.{ℤ, pos, nat_abs}
use lib.ListN.{length}
use Rattle.lists.specs.Tests.{bit}
use Rattle.tables.specs.Tables.{filled}
use Rattle.tables.proofs.Filled.{Wide, filled_rest}
use Rattle.map.specs.declared.Head.{Head}
use Rattle.map.specs.Limits.{node_width, edge_width, last_number}
use Rattle.map.specs.Rows.{Node, Edge, Map, map_of, node_cells, edge_cells, counts, lent}
use Rattle.map.proofs.RoundTrip.{nodes_wide}
use Rattle.map_rows.specs.Rows.{EdgeRows, nodes_of, edges_of}
use Rattle.map_rows.proofs.Rows.{nodes_length, edges_length}
use Rattle.map_rows.proofs.RowCurves.{table_edges_wide}
use Rattle.head.specs.Heads.{Counted, changed_head}
use Rattle.outcomes.specs.Outcomes.{Formed}
use Rattle.outcomes.proofs.Formed.{counted}
use Rattle.face_rows.specs.Holds.{Healable, TablesOf, merged_sides}
use Rattle.face_rows.proofs.Formed.{boxes, formed_held}
use Rattle.face_rows.proofs.Heals.{merged_head}
use Rattle.face_rows.proofs.Healed.{healed_node_rows, healed_nodes, healed_edge_rows, healed_edges_lem, healed_nodes_long}
use Rattle.face_rows.proofs.Healed.{healed_edges_long, healed_numbers, healed_node_count, healed_edge_count}
use Rattle.edge_rows.specs.Holds.{NodeTable, EdgeTable, NodeEdgeTables}
use Rattle.edge_rows.proofs.Formed.{held}

module _ {nodes edges faces : List ℤ} {h : Head} (f : Formed nodes edges faces h) (row : Edge)
    (p : Healable nodes edges faces h (pos row.left) (pos row.right)) (makes : Bool)
    (number : nat_abs h.next_face + bit makes ≤ suc last_number) {nodes' edges' faces' : List ℤ} {h' : Head}
    (after : TablesOf (boxes f) nodes edges faces h (merged_sides makes row
    (map_of (lent nodes edges faces h))) nodes' edges' faces' h')
  where
    abbrev m : Map
    m = map_of (lent nodes edges faces h)

    abbrev n : ℕ
    n = nat_abs h.nodes

    abbrev e : ℕ
    e = nat_abs h.edges

    nodes_are : nodes_of nodes' n ≡ (merged_sides makes row m).nodes
    nodes_are = healed_nodes (formed_held f) row makes after

    edges_are : edges_of edges' e ≡ (merged_sides makes row m).edges
    edges_are = healed_edges_lem (formed_held f) row makes after

    node_cells_lem : filled (length nodes) (flat_map node_cells (nodes_of nodes' n)) ≡ nodes'
    node_cells_lem = ap (λ (xs : List Node). filled (length nodes) (flat_map node_cells xs)) nodes_are ∙ after.node_cells_lem

    edge_cells_lem : filled (length edges) (flat_map edge_cells (edges_of edges' e)) ≡ edges'
    edge_cells_lem = ap (λ (xs : List Edge). filled (length edges) (flat_map edge_cells xs)) edges_are ∙ after.edge_cells_lem

    edge_rows_lem : EdgeRows edges' e
    edge_rows_lem = healed_edge_rows (formed_held f) row makes after

    edges_wide : Wide edge_width edge_cells (edges_of edges' e)
    edges_wide = table_edges_wide edges' e edge_rows_lem.fits edge_rows_lem.ranges

    node_table_lem : NodeTable nodes' n
    node_table_lem =
        record {
          rows = healed_node_rows (formed_held f) row makes after;
          rest = filled_rest node_width node_cells (length nodes) (nodes_of nodes' n) n (nodes_wide (nodes_of nodes' n))
              (nodes_length nodes' n) node_cells_lem;
          whole = rw (healed_nodes_long (formed_held f) row makes after)
              (held f).node_table_lem.whole;
        }

    edge-table : EdgeTable edges' e
    edge-table =
        record {
          rows = edge_rows_lem;
          rest = filled_rest edge_width edge_cells (length edges) (edges_of edges' e) e edges_wide
              (edges_length edges' e) edge_cells_lem;
          whole = rw (healed_edges_long (formed_held f) row makes after)
              (held f).edge-table.whole;
        }

    head_as : h' ≡ changed_head h (counts 0 0 0) (counts 0 0 1) (counts 0 0 (bit makes))
    head_as = sym after.head ∙ merged_head p row refl refl makes

    edge-next : nat_abs h'.next_edge ≡ nat_abs h.next_edge
    unfolding changed_head
    edge-next = ap (λ (x : Head). nat_abs x.next_edge) head_as ∙ add-zero (nat_abs h.next_edge)

    all_counted : Counted h'
    unfolding changed_head
    all_counted =
        let c = counted f in
        rw head_as (record {
          nodes = record { natural = refl; most = omega (arith, c.nodes.most) };
          edges = record { natural = refl; most = omega (arith, c.edges.most) };
          faces = record { natural = refl; most = omega (arith, c.faces.most) };
          next_node = record { natural = refl; most = omega (arith, c.next_node.most) };
          next_edge = record { natural = refl; most = omega (arith, c.next_edge.most) };
          next_face = record { natural = refl; most = number };
          recorded = c.recorded;
        })

    pub healed_held : NodeEdgeTables nodes' edges' h'
    healed_held =
        record {
          node_table_lem = rw (healed_node_count (formed_held f) row makes after) node_table_lem;
          edge-table = rw (healed_edge_count (formed_held f) row makes after) edge-table;
          counted = all_counted;
          next-least = rw edge-next (held f).next-least;
          below = rw (
            healed_edge_count (formed_held f) row makes after,
            edge-next,
            healed_numbers (formed_held f) row makes after,
          ) (held f).below;
        }
