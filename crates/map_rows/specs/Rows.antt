-- The map's rows in flat tables: nodes, edges and faces by their place, and what functions on tables require.
use Rattle.std.specs.Prelude.{◌≡◌, true, ◌&&◌, ℕ, suc, ◌+◌, ◌*◌, ◌≤◌, ℤ, pos, nat_abs, length, get_or, take, drop}
use mathlib.Core.List.{List, [], map, flat_map}
use Rattle.lists.specs.Scans.{all_of}
use Rattle.tables.specs.Tables.{rows, row_at, filled, numbered}
use Rattle.bounding_boxes.specs.declared.Extent.{Extent}
use Rattle.map.specs.Limits.{node_width, edge_width, face_width, last_number}
use Rattle.map.specs.Rows.{Node, Edge, Map, node_of, edge_of, face_row_of, face_cells, has_edge, counts}
use Rattle.map.specs.Form.{node_ranges, edge_ranges, face_ranges}

-- ---- the rows in use

abbrev pub nodes_of : List ℤ → ℕ → List Node
nodes_of l n = map node_of (rows node_width n l)

abbrev pub edges_of : List ℤ → ℕ → List Edge
edges_of l n = map edge_of (rows edge_width n l)

abbrev pub faces_of : List ℤ → ℕ → List ℕ
faces_of l n = map face_row_of (rows face_width n l)

-- row i read as a node or a face
abbrev pub node_at : List ℤ → ℕ → Node
node_at l i = node_of (row_at node_width l i)

abbrev pub face_at : List ℤ → ℕ → ℕ
face_at l i = face_row_of (row_at face_width l i)

-- row i of the edges, and its numbers
abbrev pub edge_cells_at : List ℤ → ℕ → List ℤ
edge_cells_at l i = take edge_width (drop (i * edge_width) l)

abbrev pub edge_at : List ℤ → ℕ → Edge
edge_at l i = edge_of (edge_cells_at l i)

-- its number of points, and their numbers as they stand
abbrev pub point_count : List ℤ → ℕ → ℕ
point_count l i = nat_abs (get_or l (i * edge_width + 7) (pos 0))

abbrev pub run_at : List ℤ → ℕ → List ℤ
run_at l i = take (2 * point_count l i) (drop (i * edge_width + 8) l)

-- the map that has these edges alone: links, rings and directions are read from it
abbrev pub edges_alone : List Edge → Map
edges_alone es = record { nodes = []; edges = es; faces = []; next = counts 0 0 0 }

abbrev pub edge_map : List ℤ → ℕ → Map
edge_map l n = edges_alone (edges_of l n)

-- the map that has these nodes alone: points are read from it
abbrev pub node_map : List ℤ → ℕ → Map
node_map l n = record { nodes = nodes_of l n; edges = []; faces = []; next = counts 0 0 0 }

-- the faces in a table of n numbers, with these rectangles: from the front, zeros behind
abbrev pub faces_in : ℕ → (ℕ → Extent) → List ℕ → List ℤ
faces_in n box fs = filled n (flat_map (face_cells box) fs)

-- ---- what functions on tables require, as `form` finds it

-- edge row i is in range
pub record EdgeRow (l : List ℤ) (i : ℕ) : Type 0 where
  pub fits : i * edge_width + edge_width ≤ length l
  pub ranges : edge_ranges (edge_cells_at l i) ≡ true

-- edge rows in range
pub record EdgesInRange (l : List ℤ) (n : ℕ) : Type 0 where
  pub fits : n * edge_width ≤ length l
  pub ranges : all_of edge_ranges (rows edge_width n l) ≡ true

-- node row i is in range
pub record NodeRow (l : List ℤ) (i : ℕ) : Type 0 where
  pub fits : i * node_width + node_width ≤ length l
  pub ranges : node_ranges (row_at node_width l i) ≡ true

-- nodes in range, in rising order
pub record NodeRows (l : List ℤ) (n : ℕ) : Type 0 where
  pub fits : n * node_width ≤ length l
  pub ranges : all_of node_ranges (rows node_width n l) ≡ true
  pub rising : numbered 1 (suc last_number) (map (λ r. r.number) (nodes_of l n)) ≡ true

-- edges in range, in rising order, whose links name edges
pub record EdgeRows (l : List ℤ) (n : ℕ) : Type 0 where
  pub fits : n * edge_width ≤ length l
  pub ranges : all_of edge_ranges (rows edge_width n l) ≡ true
  pub rising : numbered 1 (suc last_number) (map (λ r. r.number) (edges_of l n)) ≡ true
  pub named : all_of (λ e. has_edge (edge_map l n) e.next_left.edge && has_edge (edge_map l n) e.next_right.edge)
      (edges_of l n) ≡ true

-- faces in range, in rising order
pub record FaceRows (l : List ℤ) (n : ℕ) : Type 0 where
  pub fits : n * face_width ≤ length l
  pub ranges : all_of face_ranges (rows face_width n l) ≡ true
  pub rising : numbered 0 (suc last_number) (faces_of l n) ≡ true
