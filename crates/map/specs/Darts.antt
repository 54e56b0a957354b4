-- Directed edges, rings and pieces.
use Rattle.std.specs.Prelude.{Bool, cond, not, ◌&&◌, ◌||◌, List, [], ◌∷◌, map, ℕ, zero, suc, ◌*◌, min, ltb, length}
use Rattle.lists.specs.Tests.{same}
use Rattle.lists.specs.Scans.{any_of, keep}
use Rattle.plane.specs.Directions.{Way}
use Rattle.curves.specs.Curves.{Curve, start_way}
use Rattle.curves.specs.Edits as edits
use Rattle.planar_maps.specs.Map.{Arc, Dart, rev, darts}
use Rattle.planar_maps.specs.Rings.{same_dart}
use Rattle.planar_maps.specs.Pieces.{label, pieces}
use Rattle.map.specs.Rows.{Map, edge}

-- an edge as its number and the nodes where it starts and ends
abbrev pub arcs : Map → List Arc
arcs m = map (λ e. record { num = e.number; from = e.start; to = e.end }) m.edges

-- all directed edges, by edge number, e before -e
abbrev pub directed : Map → List Dart
directed m = darts (arcs m)

-- the node that d leaves: e runs from start to end, -e from end to start
unfoldable pub leaves : Map → Dart → ℕ
leaves m d = let e = edge m d.edge in cond d.back e.end e.start

-- the node where d arrives
abbrev pub arrives : Map → Dart → ℕ
arrives m d = leaves m (rev d)

-- next left follows e, next right follows -e
unfoldable pub next : Map → Dart → Dart
next m d = let e = edge m d.edge in cond d.back e.next_right e.next_left

-- d bears the face on its left; left of -e is right of e
unfoldable pub bears : Map → Dart → ℕ
bears m d = let e = edge m d.edge in cond d.back e.right e.left

-- the curve of d, in its own direction
unfoldable pub course : Map → Dart → Curve
course m d = edits.course d.back (edge m d.edge).curve

-- the direction in which d departs
unfoldable pub way : Map → Dart → Way
way m d = start_way (course m d)

-- the departures from a node
unfoldable pub departures : Map → ℕ → List Dart
departures m n = keep (λ d. same (leaves m d) n) (directed m)

-- how many edge ends there are at a node: as many as departures, a loop having two
abbrev pub edge_ends : Map → ℕ → ℕ
edge_ends m n = length (departures m n)

-- at most k steps from c on, until d comes again
unfoldable pub steps_to : Map → Dart → ℕ → Dart → List Dart
steps_to m d zero c = []
steps_to m d (suc k) c = let rest = steps_to m d k (next m c) in c ∷ cond (same_dart (next m c) d) [] rest

-- the ring of d: the cycle of next steps
unfoldable pub ring : Map → Dart → List Dart
ring m d = steps_to m d (2 * length m.edges) d

-- d is one of them
abbrev pub among : List Dart → Dart → Bool
among r d = any_of (same_dart d) r

-- c is lower than d: by edge number, then e before -e
abbrev pub lower : Dart → Dart → Bool
lower c d = ltb c.edge d.edge || same c.edge d.edge && not c.back && d.back

-- d is the lowest of its ring
abbrev pub is_lowest : Map → Dart → Bool
is_lowest m d = not (any_of (λ c. lower c d) (ring m d))

-- the first members of the rings: the directed edges that are the lowest of theirs
unfoldable pub firsts : Map → List Dart
firsts m = keep (is_lowest m) (directed m)

-- the lowest edge of e and a ring
abbrev pub lowest_edge : ℕ → List Dart → ℕ
lowest_edge e [] = e
lowest_edge e (d ∷ r) = lowest_edge (min e d.edge) r

-- the piece of a node, by its lowest node number
abbrev pub piece_of : Map → ℕ → ℕ
piece_of m n = label (arcs m) n

-- as many pieces as node rows from which no chain of edges leads to a node of lower number
abbrev pub piece_count : Map → ℕ
piece_count m = pieces (map (λ n. n.number) m.nodes) (arcs m)
