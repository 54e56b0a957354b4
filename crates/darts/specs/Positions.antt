-- Directed edges by position: twice the row, and one more for the reverse. In the order of positions they are
-- `directed`.
use Rattle.std.specs.Prelude.{◌≡◌, Bool, cond, List, ℕ, ◌+◌, ◌*◌, ◌-◌, ◌/◌, ◌%◌, ◌<◌, ℤ, pos, get_or}
use Rattle.lists.specs.Tests.{same}
use Rattle.plane.specs.Points.{InRange}
use Rattle.plane.specs.Directions.{Way, way_to}
use Rattle.curves.specs.Curves.{Curve, curve_of, second_of, start_way}
use Rattle.curves.specs.Edits.{course}
use Rattle.planar_maps.specs.Map.{Dart}
use Rattle.map.specs.Limits.{edge_width}
use Rattle.map.specs.Rows.{dart_of}
use Rattle.map_rows.specs.Rows.{edge_at}
use Rattle.darts.specs.declared.Step.{Step}

-- the reverse of an edge has the odd position
abbrev pub odd : ℕ → Bool
odd p = same (p % 2) 1

abbrev pub reverse_of : ℕ → ℕ
reverse_of p = cond (odd p) (p - 1) (p + 1)

-- the directed edge at a position
abbrev pub dart_at : List ℤ → ℕ → Dart
dart_at l p = record { edge = (edge_at l (p / 2)).number; back = odd p }

-- its number in a pair of columns: 1 the node that it leaves, 3 its next, 5 the face that it bears
abbrev pub side_place : ℕ → ℕ → ℕ
side_place p k = p / 2 * edge_width + k + p % 2

abbrev pub side_cell : List ℤ → ℕ → ℕ → ℤ
side_cell l p k = get_or l (side_place p k) (pos 0)

-- the rows of a table, by its first column, that the first m directed edges name in a column pair
abbrev pub RowsNamed : ℕ → List ℤ → ℕ → List ℤ → ℕ → List ℕ → ℕ → Type 0
RowsNamed w t n l k rows m = (p : ℕ) → p < m → (get_or rows p 0 < n)
    × (get_or t (get_or rows p 0 * w) (pos 0) ≡ side_cell l p k)

-- the positions, among n edges, of what follows them
abbrev pub NextsNamed : List ℤ → ℕ → List ℕ → ℕ → Type 0
NextsNamed l n nexts m = (p : ℕ) → p < m → (get_or nexts p 0 < n * 2)
    × (dart_at l (get_or nexts p 0) ≡ dart_of (side_cell l p 3))

-- its curve as it goes, and the same where edge row `own` has the curve c
abbrev pub course_at : List ℤ → ℕ → Curve
course_at l p = course (odd p) (edge_at l (p / 2)).curve

abbrev pub course_with : List ℤ → ℕ → List ℤ → ℕ → Curve
course_with l own c p = course (odd p) (cond (same (p / 2) own) (curve_of c) (edge_at l (p / 2)).curve)

-- the direction in which it departs
abbrev pub way_at : List ℤ → ℕ → Way
way_at l p = start_way (course_at l p)

abbrev pub way_with : List ℤ → ℕ → List ℤ → ℕ → Way
way_with l own c p = start_way (course_with l own c p)

-- two points in range
abbrev pub StepInRange : Step → Type 0
StepInRange s = InRange s.from × InRange s.to

-- the first and the second point of a curve
abbrev pub step_of : Curve → Step
step_of c = record { from = c.first; to = second_of c.first c.rest }

-- s is that step of c; its direction, and its points in range
pub record Along (s : Step) (c : Curve) : Type 0 where
  pub is : s ≡ step_of c
  pub way : way_to s.from s.to ≡ start_way c
  pub from : InRange s.from
  pub to : InRange s.to
