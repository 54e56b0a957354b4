-- The fixed limits of the map itself, which are the associated constants of the map type, and the widths of the rows.
-- `max_coordinate` is of plane and `max_points` of curves.
use Rattle.std.specs.Prelude.{Bool, cond, ◌||◌, ℕ, ◌+◌, ◌*◌, ℤ, pos}
use Rattle.tables.specs.Tables.{same_z}
use Rattle.plane.specs.Points.{max_coordinate}
use Rattle.curves.specs.Curves.{max_points}
use Rattle.map.specs.declared.Limits.{Limits}

abbrev pub max_nodes : ℕ
max_nodes = 1000

abbrev pub max_edges : ℕ
max_edges = 2000

abbrev pub max_faces : ℕ
max_faces = 1000

abbrev pub last_number : ℕ
last_number = 999999

-- the points of a line that the plotting program takes
abbrev pub plotter_points : ℕ
plotter_points = 6

-- a map is created for curves of at most 6 points, or of at most 12
pub data PointLimit : Type 0 where
  SixPoints TwelvePoints : PointLimit

abbrev pub most_points : PointLimit → ℕ
most_points SixPoints = plotter_points
most_points TwelvePoints = max_points

-- the head records 6 or 12, as a number
abbrev pub is_record : ℤ → Bool
is_record k = same_z k (pos plotter_points) || same_z k (pos max_points)

-- what a record stands for; any other number is refusal 2 before this is used
abbrev pub limit_of : ℤ → PointLimit
limit_of k = cond (same_z k (pos plotter_points)) SixPoints TwelvePoints

abbrev pub limits : Limits
limits = record {
  nodes = max_nodes;
  edges = max_edges;
  faces = max_faces;
  points = max_points;
  plotter_points = plotter_points;
  coordinate = max_coordinate;
  last_number = last_number;
}

abbrev pub node_width : ℕ
node_width = 4

abbrev pub edge_width : ℕ
edge_width = 8 + 2 * max_points

abbrev pub face_width : ℕ
face_width = 5
