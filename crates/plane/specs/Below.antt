-- What passes below a point: of the segments with x1 ≤ px < x2 (ends ordered by x) those strictly below it, and which
-- of two is higher.
use Rattle.std.specs.Prelude.{Bool, cond, ◌&&◌, ◌||◌, ℕ, leb, ltb, ℤ, pos, ◌+ℤ◌, ◌-ℤ◌, ◌*ℤ◌}
use Rattle.integers.specs.Order.{sgn}
use Rattle.plane.specs.declared.Point.{Point}
use Rattle.plane.specs.Areas.{area, is_null, is_positive}
use Rattle.plane.specs.Directions.{Way, way_to, cross}

-- a segment
pub record Segment : Type 0 where
  pub from : Point
  pub to : Point

-- the ends ordered by x
abbrev pub ordered : Segment → Segment
ordered s = cond (leb s.from.x s.to.x) s (record { from = s.to; to = s.from })

-- x1 ≤ px < x2, and strictly below p
abbrev pub is_below : Point → Segment → Bool
is_below p s = leb s.from.x p.x && ltb p.x s.to.x && is_positive (sgn (area s.from s.to p))

-- the segment passes below p
unfoldable pub passes_below : Point → Segment → Bool
passes_below p s = is_below p (ordered s)

-- run and rise of a segment with its ends ordered by x
abbrev pub along : Segment → Way
along s = way_to s.from s.to

-- how high the segment is at x, times its run
abbrev pub height : ℕ → Segment → ℤ
height x s = pos s.from.y *ℤ (along s).dx +ℤ (pos x -ℤ pos s.from.x) *ℤ (along s).dy

-- s is higher than t at x, ties to the greater slope; both with their ends ordered by x
unfoldable pub higher : ℕ → Segment → Segment → Bool
higher x s t =
    let above = sgn (height x s *ℤ (along t).dx -ℤ height x t *ℤ (along s).dx) in
    is_positive above || is_null above && is_positive (sgn (cross (along t) (along s)))
