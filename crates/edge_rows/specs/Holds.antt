-- Tables of nodes and edges with the head beside them that hold a map, whatever its faces are; the same after an edge
-- is drawn or undrawn.
use Rattle.std.specs.Prelude.{◌≡◌, Bool, true, cond, ℕ, ◌+◌, ◌*◌, ◌/◌, ◌≤◌, ◌<◌, ℤ, pos, nat_abs, length, get_or, set, drop, Option, Some, None}
use mathlib.Core.List.{List, map, flat_map}
use Rattle.std.specs.Int.Signed.{non_neg}
use Rattle.lists.specs.Tests.{same, bit}
use Rattle.lists.specs.Scans.{all_of, count_of}
use Rattle.lists.specs.Tables.{place}
use Rattle.curves.specs.Curves.{Run, curve_of}
use Rattle.map.specs.declared.Head.{Head}
use Rattle.map.specs.Limits.{max_nodes, max_edges, last_number, node_width, edge_width}
use Rattle.planar_maps.specs.Map.{fwd, bwd}
use Rattle.map.specs.Rows.{Edge, map_of, node_cells, edge_cells, counts, lent}
use Rattle.tables.specs.Tables.{same_z, column, filled, whole_rows, is_zero, numbered}
use Rattle.map.specs.Edits.{drawn, undrawn}
use Rattle.map_rows.specs.Rows.{NodeRows, EdgeRows, node_at, edge_at, edges_of}
use Rattle.head.specs.Heads.{Counted, changed_head}
use Rattle.links.specs.Linking.{positions, leaves_node}

-- whole rows, of which n are in use, with zeros behind
pub record NodeTable (l : List ℤ) (n : ℕ) : Type 0 where
  pub rows : NodeRows l n
  pub rest : all_of is_zero (drop (n * node_width) l) ≡ true
  pub whole : whole_rows node_width 0 max_nodes l ≡ true

pub record EdgeTable (l : List ℤ) (n : ℕ) : Type 0 where
  pub rows : EdgeRows l n
  pub rest : all_of is_zero (drop (n * edge_width) l) ≡ true
  pub whole : whole_rows edge_width 0 max_edges l ≡ true

-- as many rows as the head counts, and edge numbers below the next
pub record NodeEdgeTables (nodes edges : List ℤ) (h : Head) : Type 0 where
  pub node_table_lem : NodeTable nodes (nat_abs h.nodes)
  pub edge-table : EdgeTable edges (nat_abs h.edges)
  pub counted : Counted h
  pub next-least : 1 ≤ nat_abs h.next_edge
  pub below : numbered 1 (nat_abs h.next_edge) (map (λ e. e.number) (edges_of edges (nat_abs h.edges))) ≡ true

-- the row of a new edge from node row u to node row v
abbrev pub new_row : List ℤ → Head → ℕ → ℕ → List ℤ → ℤ → Edge
new_row nodes h u v c face =
    let e = nat_abs h.next_edge in
    record {
      number = e;
      start = (node_at nodes u).number;
      end = (node_at nodes v).number;
      next_left = bwd e;
      next_right = fwd e;
      left = nat_abs face;
      right = nat_abs face;
      curve = curve_of c;
    }

-- a curve between the nodes of rows u and v, with a face and a number for its edge, and room
pub record Drawable (nodes edges : List ℤ) (h : Head) (u v : ℕ) (c : List ℤ) (face : ℤ) : Type 0 where
  pub held : NodeEdgeTables nodes edges h
  pub start : u < nat_abs h.nodes
  pub end : v < nat_abs h.nodes
  pub run : Run c
  pub room : nat_abs h.edges < length edges / edge_width
  pub number : nat_abs h.next_edge ≤ last_number
  pub natural : non_neg face ≡ true

-- the tables hold the map with the edge drawn, whatever the faces are
pub record Drawn (nodes edges : List ℤ) (h : Head) (u v : ℕ) (c : List ℤ) (face : ℤ) (nodes' edges' : List ℤ)
    (h' : Head) : Type 0 where
  pub held : NodeEdgeTables nodes' edges' h'
  pub map : (faces : List ℤ) → map_of (lent nodes' edges' faces h')
      ≡ drawn (node_at nodes u).number (node_at nodes v).number (curve_of c) (nat_abs face)
      (map_of (lent nodes edges faces h))
  pub nodes_long : length nodes' ≡ length nodes
  pub edges_long : length edges' ≡ length edges
  pub head : h' ≡ changed_head h (counts 0 1 0) (counts 0 0 0) (counts 0 1 0)

-- an edge row to undraw, and the face around nodes left isolated
pub record Undrawable (nodes edges : List ℤ) (h : Head) (i : ℕ) (face : ℤ) : Type 0 where
  pub held : NodeEdgeTables nodes edges h
  pub row : i < nat_abs h.edges
  pub natural : non_neg face ≡ true

-- no edge ends at the node but that of row i
abbrev pub isolated_without : List ℤ → ℕ → ℕ → ℤ → Bool
isolated_without l n i node = same (count_of (leaves_node l node) (positions n))
    (bit (same_z (get_or l (i * edge_width + 1) (pos 0)) node) + bit (same_z (get_or l (i * edge_width + 2) (pos 0)) node))

-- the face of the node that is found
abbrev pub faced_where : List ℤ → ℤ → Option ℕ → List ℤ
faced_where l face (Some i) = set l (i * node_width + 3) face
faced_where l face None = l

-- a node of the first n that takes the face if it is isolated
abbrev pub faced_if : List ℤ → ℕ → ℤ → ℤ → Bool → List ℤ
faced_if l n node face isolated = cond isolated (faced_where l face (place (same_z node) 0 (column node_width l n))) l

-- the tables are those of the map with the edge of row i undrawn
pub record Undrawn (nodes edges : List ℤ) (h : Head) (i : ℕ) (face : ℤ) (nodes' edges' : List ℤ)
    (h' : Head) : Type 0 where
  pub node_cells_lem : (faces : List ℤ) → filled (length nodes)
      (flat_map node_cells (undrawn (edge_at edges i).number (nat_abs face) (map_of (lent nodes edges faces h))).nodes)
      ≡ nodes'
  pub edge_cells_lem : (faces : List ℤ) → filled (length edges)
      (flat_map edge_cells (undrawn (edge_at edges i).number (nat_abs face) (map_of (lent nodes edges faces h))).edges)
      ≡ edges'
  pub edges_left : (faces : List ℤ) → length
      (undrawn (edge_at edges i).number (nat_abs face) (map_of (lent nodes edges faces h))).edges + 1 ≡ nat_abs h.edges
  pub head : h' ≡ changed_head h (counts 0 0 0) (counts 0 1 0) (counts 0 0 0)
