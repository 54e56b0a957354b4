-- The corner face as the numbers of the tables show it: `corner_face` of the map, at the node of row i.
use Rattle.std.specs.Prelude.{List, ℕ, ◌+◌, ◌*◌, ℤ, pos, get_or, Option, Some, None}
use Rattle.plane.specs.Directions.{Way}
use Rattle.map.specs.Limits.{node_width}
use Rattle.darts.specs.Positions.{side_cell, way_at}
use Rattle.links.specs.Linking.{departures_but, first_met}

abbrev pub corner_by : List ℤ → ℕ → List ℤ → Option ℕ → ℤ
corner_by nodes i l (Some p) = side_cell l p 5
corner_by nodes i l None = get_or nodes (i * node_width + 3) (pos 0)

-- left of the first departure met turning clockwise from v; at a node with none, its containing face
abbrev pub corner_cell : List ℤ → ℕ → List ℤ → ℕ → Way → ℤ
corner_cell nodes i l n v = corner_by nodes i l
    (first_met (way_at l) v (departures_but l n (get_or nodes (i * node_width) (pos 0)) (n * 2) (n * 2)))
