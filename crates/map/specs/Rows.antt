-- Tables and head: the rows, the map that they make, and how both stand in flat tables.
use Rattle.std.specs.Prelude.{Bool, cond, not, ◌&&◌, ◌||◌, ℕ, zero, suc, ◌+◌, ◌*◌, ◌/◌, ℤ, pos, negsuc, neg_ℤ, nat_abs, length, take, drop}
use mathlib.Core.List.{List, [], ◌∷◌, map, flat_map}
use Rattle.std.proofs.Math.Option.{Option, none, some, get_or}
use Rattle.lists.specs.Tests.{same}
use Rattle.lists.specs.Scans.{any_of, find, is_some, keep, fold}
use Rattle.tables.specs.Tables.{rows, cell, filled, whole_rows}
use Rattle.plane.specs.declared.Point.{Point}
use Rattle.plane.specs.Points.{origin}
use Rattle.curves.specs.Curves.{Curve, points, point, through, curve_of, coordinates, max_points}
use Rattle.bounding_boxes.specs.declared.Extent.{Extent}
use Rattle.bounding_boxes.specs.Extents.{extent_at, widen}
use Rattle.planar_maps.specs.Map.{Dart, fwd, bwd}
use Rattle.map.specs.declared.Counts.{Counts}
use Rattle.map.specs.declared.Head.{Head}
use Rattle.map.specs.Limits.{max_nodes, max_edges, max_faces, PointLimit, most_points, limit_of}
use Rattle.map.specs.Limits.{node_width, edge_width, face_width}

-- a node row: number, point and containing face; no face where an edge ends
pub record Node : Type 0 where
  pub number : ℕ
  pub at : Point
  pub face : Option ℕ

-- an edge row: a link is a directed edge; the curve has only the points in use
pub record Edge : Type 0 where
  pub number : ℕ
  pub start : ℕ
  pub end : ℕ
  pub next_left : Dart
  pub next_right : Dart
  pub left : ℕ
  pub right : ℕ
  pub curve : Curve

-- the rows in use and the next numbers: of nodes, edges and faces
pub record Map : Type 0 where
  pub nodes : List Node
  pub edges : List Edge
  pub faces : List ℕ
  pub next : Counts

-- what is lent: three tables and the head beside them
pub record Lent : Type 0 where
  pub nodes : List ℤ
  pub edges : List ℤ
  pub faces : List ℤ
  pub head : Head

abbrev pub lent : List ℤ → List ℤ → List ℤ → Head → Lent
lent nodes edges faces h = record { nodes = nodes; edges = edges; faces = faces; head = h }

-- how many rows each table has room for, and how many points the map was created for
pub record Sizes : Type 0 where
  pub nodes : ℕ
  pub edges : ℕ
  pub faces : ℕ
  pub limit : PointLimit

-- so many nodes, edges and faces
abbrev pub counts : ℕ → ℕ → ℕ → Counts
counts a b c = record { nodes = a; edges = b; faces = c }

-- the empty map: face 0 alone
abbrev pub empty_map : Map
empty_map = record { nodes = []; edges = []; faces = 0 ∷ []; next = counts 1 1 1 }

-- ---- from the flat tables

-- a containing face; -1 is none
abbrev pub face_of : ℤ → Option ℕ
face_of (pos f) = some f
face_of (negsuc n) = none

-- a directed edge: e or -e
abbrev pub dart_of : ℤ → Dart
dart_of (pos e) = fwd e
dart_of (negsuc n) = bwd (suc n)

-- rows of number, x, y and containing face
unfoldable pub node_of : List ℤ → Node
node_of r = record { number = nat_abs (cell r 0); at = point (cell r 1) (cell r 2); face = face_of (cell r 3) }

-- number, start, end, next left, next right, left face, right face, point count, then the points
unfoldable pub edge_of : List ℤ → Edge
edge_of r =
    record {
      number = nat_abs (cell r 0);
      start = nat_abs (cell r 1);
      end = nat_abs (cell r 2);
      next_left = dart_of (cell r 3);
      next_right = dart_of (cell r 4);
      left = nat_abs (cell r 5);
      right = nat_abs (cell r 6);
      curve = curve_of (take (2 * nat_abs (cell r 7)) (drop 8 r));
    }

-- a face row is read as its number: the edges give its rectangle
abbrev pub face_row_of : List ℤ → ℕ
face_row_of r = nat_abs (cell r 0)

-- the rows in use: as many as the head counts
abbrev pub node_rows : Lent → List (List ℤ)
node_rows l = rows node_width (nat_abs l.head.nodes) l.nodes

abbrev pub edge_rows : Lent → List (List ℤ)
edge_rows l = rows edge_width (nat_abs l.head.edges) l.edges

abbrev pub face_rows : Lent → List (List ℤ)
face_rows l = rows face_width (nat_abs l.head.faces) l.faces

-- the map that tables and head hold
unfoldable pub map_of : Lent → Map
map_of l =
    record {
      nodes = map node_of (node_rows l);
      edges = map edge_of (edge_rows l);
      faces = map face_row_of (face_rows l);
      next = counts (nat_abs l.head.next_node) (nat_abs l.head.next_edge) (nat_abs l.head.next_face);
    }

-- the room of the tables, for curves with this limit
abbrev pub sizes_for : PointLimit → Lent → Sizes
sizes_for limit l = record {
  nodes = length l.nodes / node_width;
  edges = length l.edges / edge_width;
  faces = length l.faces / face_width;
  limit = limit;
}

-- with the limit that the head records
abbrev pub sizes_of : Lent → Sizes
sizes_of l = sizes_for (limit_of l.head.points) l

-- ---- rectangles

-- the edge has the face on a side
abbrev pub borders : ℕ → Edge → Bool
borders f e = same e.left f || same e.right f

-- all points of edges with that face on a side
abbrev pub boundary : List Edge → ℕ → List Point
boundary es f = flat_map (λ e. points e.curve) (keep (borders f) es)

-- the least box around points; four zeros where there is none
abbrev pub box_of : List Point → Extent
box_of [] = record { left = 0; right = 0; low = 0; high = 0 }
box_of (p ∷ ps) = fold widen (extent_at p) ps

-- the rectangle of a face; face 0 has four zeros
unfoldable pub rectangle : List Edge → ℕ → Extent
rectangle es zero = box_of []
rectangle es (suc f) = box_of (boundary es (suc f))

-- ---- to the flat tables

-- e is written e, -e is written -e
abbrev pub dart_cell : Dart → ℤ
dart_cell d = cond d.back (neg_ℤ (pos d.edge)) (pos d.edge)

-- no containing face is written -1
abbrev pub face_cell : Option ℕ → ℤ
face_cell none = negsuc 0
face_cell (some f) = pos f

-- a row as its numbers
unfoldable pub node_cells : Node → List ℤ
node_cells n = pos n.number ∷ pos n.at.x ∷ pos n.at.y ∷ face_cell n.face ∷ []

unfoldable pub edge_cells : Edge → List ℤ
edge_cells e =
    pos e.number ∷ pos e.start ∷ pos e.end ∷ dart_cell e.next_left ∷ dart_cell e.next_right
    ∷ pos e.left ∷ pos e.right ∷ pos (length (points e.curve))
    ∷ filled (2 * max_points) (coordinates (points e.curve))

-- number, least x, least y, greatest x, greatest y
abbrev pub face_cells : (ℕ → Extent) → ℕ → List ℤ
face_cells box f = pos f ∷ pos (box f).left ∷ pos (box f).low ∷ pos (box f).right ∷ pos (box f).high ∷ []

-- the head of a map that was created for so many points
abbrev pub head_of : PointLimit → Map → Head
head_of limit m =
    record {
      nodes = pos (length m.nodes);
      edges = pos (length m.edges);
      faces = pos (length m.faces);
      next_node = pos m.next.nodes;
      next_edge = pos m.next.edges;
      next_face = pos m.next.faces;
      points = pos (most_points limit);
    }

-- the map in tables of these sizes, with these rectangles: rows from the front, zeros behind
unfoldable pub lent_with : (ℕ → Extent) → Sizes → Map → Lent
lent_with box s m =
    record {
      nodes = filled (s.nodes * node_width) (flat_map node_cells m.nodes);
      edges = filled (s.edges * edge_width) (flat_map edge_cells m.edges);
      faces = filled (s.faces * face_width) (flat_map (face_cells box) m.faces);
      head = head_of s.limit m;
    }

-- the map in tables of these sizes, with the rectangles that its edges give
abbrev pub lent_of : Sizes → Map → Lent
lent_of s m = lent_with (rectangle m.edges) s m

-- the tables are whole rows, within the limits, and the face table is not empty
unfoldable pub whole : Lent → Bool
whole l = whole_rows node_width 0 max_nodes l.nodes && whole_rows edge_width 0 max_edges l.edges
    && whole_rows face_width 1 max_faces l.faces

-- ---- a number that is looked up is either found with its row or missing

-- found with its row, or missing
abbrev pub find_node : Map → ℕ → Option Node
find_node m n = find (λ r. same r.number n) m.nodes

abbrev pub find_edge : Map → ℕ → Option Edge
find_edge m e = find (λ r. same r.number e) m.edges

-- the row exists
abbrev pub has_node : Map → ℕ → Bool
has_node m n = is_some (find_node m n)

abbrev pub has_edge : Map → ℕ → Bool
has_edge m e = is_some (find_edge m e)

abbrev pub has_face : Map → ℕ → Bool
has_face m f = any_of (same f) m.faces

-- the row with the number; a row of zeros for a missing one
unfoldable pub node : Map → ℕ → Node
node m n = get_or (find_node m n) (record { number = 0; at = origin; face = none })

unfoldable pub edge : Map → ℕ → Edge
edge m e =
    get_or (find_edge m e) (record {
      number = 0;
      start = 0;
      end = 0;
      next_left = fwd 0;
      next_right = fwd 0;
      left = 0;
      right = 0;
      curve = through [];
    })

-- ---- rows changed, added and closed up

-- the map with other rows in one table
abbrev pub set_nodes : List Node → Map → Map
set_nodes ns m = record {
  nodes = ns;
  edges = m.edges;
  faces = m.faces;
  next = m.next;
}

abbrev pub set_edges : List Edge → Map → Map
set_edges es m = record {
  nodes = m.nodes;
  edges = es;
  faces = m.faces;
  next = m.next;
}

abbrev pub set_faces : List ℕ → Map → Map
set_faces fs m = record {
  nodes = m.nodes;
  edges = m.edges;
  faces = fs;
  next = m.next;
}

-- so many new numbers given to nodes, edges and faces
abbrev pub given : Counts → Map → Map
given c m = record {
  nodes = m.nodes;
  edges = m.edges;
  faces = m.faces;
  next = counts (m.next.nodes + c.nodes) (m.next.edges + c.edges) (m.next.faces + c.faces);
}

-- a row changed: the nodes that p takes, the edge e
unfoldable pub at_nodes : (Node → Bool) → (Node → Node) → Map → Map
at_nodes p f m = set_nodes (map (λ n. cond (p n) (f n) n) m.nodes) m

unfoldable pub at_edge : ℕ → (Edge → Edge) → Map → Map
at_edge e f m = set_edges (map (λ r. cond (same r.number e) (f r) r) m.edges) m

-- a removed row is closed up
abbrev pub without_node : ℕ → List Node → List Node
without_node n ns = keep (λ r. not (same r.number n)) ns

abbrev pub without_edge : ℕ → List Edge → List Edge
without_edge e es = keep (λ r. not (same r.number e)) es
