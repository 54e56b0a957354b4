-- Tables as parts of condition 2 find them. Each part may be asked once the parts before it hold.
use Rattle.std.specs.Prelude.{◌≡◌, Bool, true, ◌&&◌, List, [], map, ℕ, suc, ◌*◌, ◌≤◌, ℤ, pos, nat_abs, length}
use Rattle.lists.specs.Scans.{all_of}
use Rattle.tables.specs.Tables.{rows, rest_zero, numbered}
use Rattle.map.specs.declared.Head.{Head}
use Rattle.map.specs.Limits.{node_width, edge_width, face_width, last_number, PointLimit, most_points, is_record, limit_of}
use Rattle.map.specs.Rows.{Map, counts}
use Rattle.map.specs.Form.{nexts_fit, node_ranges, edge_ranges_to, edge_ranges, face_ranges, numbers, named}
use Rattle.map.specs.declared.Counts.{Counts}
use Rattle.map_rows.specs.Rows.{nodes_of, edges_of, faces_of}

-- the map that the rows in use and the next numbers make: `map_of` with the counts by themselves
abbrev pub map_in : List ℤ → List ℤ → List ℤ → Counts → Head → Map
map_in nodes edges faces c h =
    record {
      nodes = nodes_of nodes c.nodes;
      edges = edges_of edges c.edges;
      faces = faces_of faces c.faces;
      next = counts (nat_abs h.next_node) (nat_abs h.next_edge) (nat_abs h.next_face);
    }

-- the rows in use fit the tables, the next numbers are 1 to 1,000,000, and the record is 6 or 12
pub record HeadFits (nodes edges faces : List ℤ) (c : Counts) (h : Head) : Type 0 where
  pub nodes_fit : c.nodes * node_width ≤ length nodes
  pub edges_fit : c.edges * edge_width ≤ length edges
  pub faces_fit : c.faces * face_width ≤ length faces
  pub a_face : 1 ≤ c.faces
  pub nexts : nexts_fit h ≡ true
  pub recorded : is_record h.points ≡ true

-- their numbers are in range, under a record of points, and zeros stand behind them
abbrev pub ranged_rows : List ℤ → List ℤ → List ℤ → Counts → PointLimit → Bool
ranged_rows nodes edges faces c k =
    rest_zero node_width (pos c.nodes) nodes
    && rest_zero edge_width (pos c.edges) edges
    && rest_zero face_width (pos c.faces) faces
    && all_of node_ranges (rows node_width c.nodes nodes)
    && all_of (edge_ranges_to (most_points k)) (rows edge_width c.edges edges)
    && all_of face_ranges (rows face_width c.faces faces)

pub record InRanges (nodes edges faces : List ℤ) (c : Counts) (h : Head) : Type 0 where
  pub counted : HeadFits nodes edges faces c h
  pub ranged : ranged_rows nodes edges faces c (limit_of h.points) ≡ true

-- the map that has these faces alone: named faces are looked up in it
abbrev pub face_map : List ℤ → ℕ → Map
face_map l n = record { nodes = []; edges = []; faces = faces_of l n; next = counts 0 0 0 }

-- edges in range, in rising order: `EdgeRows` before it is known that their links name edges
pub record EdgesInOrder (l : List ℤ) (n : ℕ) : Type 0 where
  pub fits : n * edge_width ≤ length l
  pub ranges : all_of edge_ranges (rows edge_width n l) ≡ true
  pub rising : numbered 1 (suc last_number) (map (λ r. r.number) (edges_of l n)) ≡ true

-- numbers rise and are below the next number
pub record InOrder (nodes edges faces : List ℤ) (c : Counts) (h : Head) : Type 0 where
  pub in_ranges : InRanges nodes edges faces c h
  pub numbers : numbers (map_in nodes edges faces c h) ≡ true

-- named rows exist
pub record Named (nodes edges faces : List ℤ) (c : Counts) (h : Head) : Type 0 where
  pub in_order : InOrder nodes edges faces c h
  pub named : named (map_in nodes edges faces c h) ≡ true
