-- A line as the functions hand it on: the number of its points and the 24 numbers of an edge row, the unused ones 0. A
-- line of more than 12 points, which only a join gives, keeps its first 12 and the true number: the caller's refusal
-- 18.
use Rattle.std.specs.Prelude.{List, ◌++◌, ◌*◌, pos, length, take, replicate}
use Rattle.plane.specs.declared.Point.{Point}
use Rattle.curves.specs.Curves.{coordinates, max_points}
use Rattle.curve_edits.specs.declared.Line.{Line}

unfoldable pub line_of : List Point → Line
line_of ps =
    record {
      count = length ps;
      cells = take (2 * max_points) (coordinates ps ++ replicate (2 * max_points) (pos 0));
    }
