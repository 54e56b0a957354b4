-- Points: whole coordinates 0 to 1,048,575.
use Rattle.std.specs.Prelude.{Bool, ◌&&◌, ℕ, ◌≤◌}
use Rattle.lists.specs.Tests.{same}
use Rattle.plane.specs.declared.Point.{Point}

abbrev pub max_coordinate : ℕ
max_coordinate = 1048575

-- what the functions on points require; a coordinate out of range is the caller's refusal 5
pub record InRange (p : Point) : Type 0 where
  pub x : p.x ≤ max_coordinate
  pub y : p.y ≤ max_coordinate

-- two points are one
unfoldable pub same_point : Point → Point → Bool
same_point p q = same p.x q.x && same p.y q.y

abbrev pub origin : Point
origin = record { x = 0; y = 0 }
