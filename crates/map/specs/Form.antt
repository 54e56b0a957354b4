-- In form: counts, order, ranges and zero rows are judged on the numbers as they stand, the rest on the map that they
-- hold.
use Rattle.std.specs.Prelude.{Bool, true, not, ◌&&◌, List, [], ◌∷◌, map, ℕ, suc, ◌*◌, ℤ, pos, negsuc, nat_abs, take, drop}
use Rattle.std.specs.Bool.{beq}
use Rattle.std.proofs.Math.Option.{Option, none, some}
use Rattle.std.specs.Int.Signed.{le_z, non_neg}
use Rattle.lists.specs.Tests.{same}
use Rattle.lists.specs.Scans.{any_of, all_of, count_of, first_or, is_some}
use Rattle.tables.specs.Tables.{within, same_z, is_zero, rest_zero, numbered, cell}
use Rattle.plane.specs.Points.{same_point}
use Rattle.plane.specs.Directions.{Way, same_way}
use Rattle.curves.specs.Curves.{max_points, coordinate, last_point}
use Rattle.curves.specs.Tests.{neighbours_differ}
use Rattle.bounding_boxes.specs.declared.Extent.{Extent}
use Rattle.planar_maps.specs.Rings.{same_dart}
use Rattle.map.specs.declared.Head.{Head}
use Rattle.map.specs.Limits.{last_number, most_points, is_record, node_width, edge_width, face_width}
use Rattle.map.specs.Rows.{Edge, Map, Lent, node_rows, edge_rows, face_rows, map_of, sizes_of, node, has_node}
use Rattle.map.specs.Rows.{has_edge, has_face, face_row_of, rectangle}
use Rattle.map.specs.Darts.{directed, leaves, arrives, next, bears, departures, edge_ends, way}

-- ---- numbers as they stand

-- counts within the tables
abbrev pub counts_fit : Lent → Bool
counts_fit l =
    within 0 (sizes_of l).nodes l.head.nodes && within 0 (sizes_of l).edges l.head.edges
    && within 1 (sizes_of l).faces l.head.faces

-- the next number is 1 to 1,000,000
abbrev pub nexts_fit : Head → Bool
nexts_fit h = all_of (within 1 (suc last_number)) (h.next_node ∷ h.next_edge ∷ h.next_face ∷ [])

-- ranges of a row
abbrev pub node_ranges : List ℤ → Bool
node_ranges r = non_neg (cell r 0) && coordinate (cell r 1) && coordinate (cell r 2) && le_z (negsuc 0) (cell r 3)

-- 2 to `most` points; unused points are 0
abbrev pub edge_ranges_to : ℕ → List ℤ → Bool
edge_ranges_to most r =
    all_of non_neg (cell r 0 ∷ cell r 1 ∷ cell r 2 ∷ cell r 5 ∷ cell r 6 ∷ []) && within 2 most (cell r 7)
    && all_of coordinate (take (2 * nat_abs (cell r 7)) (drop 8 r))
    && all_of is_zero (drop (2 * nat_abs (cell r 7)) (drop 8 r))

-- 2 to 12 points, whatever the record: what a row can hold
abbrev pub edge_ranges : List ℤ → Bool
edge_ranges r = edge_ranges_to max_points r

abbrev pub face_ranges : List ℤ → Bool
face_ranges r = non_neg (cell r 0)

-- counts, ranges and zero rows; the record of points is 6 or 12, and no curve has more
unfoldable pub ranged : Lent → Bool
ranged l =
    counts_fit l
    && nexts_fit l.head
    && is_record l.head.points
    && rest_zero node_width l.head.nodes l.nodes
    && rest_zero edge_width l.head.edges l.edges
    && rest_zero face_width l.head.faces l.faces
    && all_of node_ranges (node_rows l)
    && all_of (edge_ranges_to (most_points (sizes_of l).limit)) (edge_rows l)
    && all_of face_ranges (face_rows l)

-- ---- the map

-- order and next numbers; face 0 exists
unfoldable pub numbers : Map → Bool
numbers m =
    numbered 1 m.next.nodes (map (λ n. n.number) m.nodes)
    && numbered 1 m.next.edges (map (λ e. e.number) m.edges)
    && numbered 0 m.next.faces m.faces && same (first_or 1 m.faces) 0

-- the containing face exists, where there is one
abbrev pub in_face : Map → Option ℕ → Bool
in_face m none = true
in_face m (some f) = has_face m f

-- named rows exist
abbrev pub edge_names : Map → Edge → Bool
edge_names m e =
    has_node m e.start && has_node m e.end && has_edge m e.next_left.edge && has_edge m e.next_right.edge
    && has_face m e.left && has_face m e.right

unfoldable pub named : Map → Bool
named m = all_of (λ n. in_face m n.face) m.nodes && all_of (edge_names m) m.edges

-- a curve starts and ends on its nodes' points, and neighbouring points differ
abbrev pub curve_fits : Map → Edge → Bool
curve_fits m e =
    same_point e.curve.first (node m e.start).at && same_point (last_point e.curve) (node m e.end).at
    && neighbours_differ e.curve

-- no two are one direction
abbrev pub ways_differ : List Way → Bool
ways_differ [] = true
ways_differ (v ∷ vs) = let rest = ways_differ vs in not (any_of (same_way v) vs) && rest

-- departures from one node differ in direction
unfoldable pub departures_differ : Map → Bool
departures_differ m = all_of (λ n. ways_differ (map (way m) (departures m n.number))) m.nodes

-- a node has face -1 exactly when an edge ends there
unfoldable pub bare_marked : Map → Bool
bare_marked m = all_of (λ n. beq (is_some n.face) (same (edge_ends m n.number) 0)) m.nodes

-- the next links name each directed edge once
unfoldable pub links_once : Map → Bool
links_once m = let links = map (next m) (directed m) in all_of (λ d. same (count_of (same_dart d) links) 1) (directed m)

-- the next of d leaves the node where d arrives
unfoldable pub links_meet : Map → Bool
links_meet m = all_of (λ d. same (leaves m (next m d)) (arrives m d)) (directed m)

-- a ring bears one face
unfoldable pub rings_bear_one : Map → Bool
rings_bear_one m = all_of (λ d. same (bears m (next m d)) (bears m d)) (directed m)

-- the conditions on rows
unfoldable pub formed : Map → Bool
formed m =
    numbers m
    && named m
    && all_of (curve_fits m) m.edges
    && departures_differ m
    && bare_marked m
    && links_once m
    && links_meet m
    && rings_bear_one m

-- the row has the rectangle of its face
abbrev pub has_box : (ℕ → Extent) → List ℤ → Bool
has_box box r =
    let b = box (face_row_of r) in
    same_z (cell r 1) (pos b.left) && same_z (cell r 2) (pos b.low)
    && same_z (cell r 3) (pos b.right) && same_z (cell r 4) (pos b.high)

-- each face has the rectangle that the edges give
unfoldable pub boxed : Lent → Bool
boxed l = all_of (has_box (rectangle (map_of l).edges)) (face_rows l)

-- in form
unfoldable pub in_form : Lent → Bool
in_form l = ranged l && formed (map_of l) && boxed l
