-- The highest segment below a point as a fold over all segments in order, and as the functions hold it.
use Rattle.std.specs.Prelude.{cond, ℕ, ◌<◌, ltb, Option, Some, None, option_map}
use Rattle.lists.specs.Scans.{fold}
use Rattle.plane.specs.declared.Point.{Point}
use Rattle.plane.specs.Points.{InRange}
use Rattle.plane.specs.Below.{Segment, ordered, passes_below, higher}
use Rattle.curves.specs.Curves.{segments}
use Rattle.map.specs.Rows.{Edge}
use Rattle.map.specs.Faces.{Floor}
use Rattle.point_location.specs.declared.Highest.{Highest}

-- what the functions hold as a floor
abbrev pub floor : Highest → Floor
floor h = record { segment = record { from = h.from; to = h.to }; upper = h.upper }

abbrev pub highest_floor : Option Highest → Option Floor
highest_floor = option_map floor

-- a face that fits a number of the tables is below this
abbrev pub face_bound : ℕ
face_bound = 9223372036854775808

-- ends in range, and a face that fits
pub record HighestFits (h : Highest) : Type 0 where
  pub from : InRange h.from
  pub to : InRange h.to
  pub upper : h.upper < face_bound

-- g, where it is higher at x than the highest so far
abbrev pub over : ℕ → Option Floor → Floor → Option Floor
over x None g = Some g
over x (Some f) g = Some (cond (higher x g.segment f.segment) g f)

-- a segment with its faces
abbrev pub sided : ℕ → ℕ → Segment → Floor
sided left right s = record { segment = ordered s; upper = cond (ltb s.from.x s.to.x) left right }

-- the highest after a segment, and after those of an edge
abbrev pub passed : Point → ℕ → ℕ → Option Floor → Segment → Option Floor
passed p left right h s = cond (passes_below p s) (over p.x h (sided left right s)) h

abbrev pub rowed : Point → Option Floor → Edge → Option Floor
rowed p h e = fold (passed p e.left e.right) h (segments e.curve)
