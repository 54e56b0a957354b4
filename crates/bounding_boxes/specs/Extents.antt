-- The extent of a curve: the least box around its points.
use Rattle.std.specs.Prelude.{Bool, ◌||◌, min, max, ltb}
use Rattle.lists.specs.Scans.{fold}
use Rattle.plane.specs.declared.Point.{Point}
use Rattle.curves.specs.Curves.{Curve}
use Rattle.bounding_boxes.specs.declared.Extent.{Extent}

-- one point
abbrev pub extent_at : Point → Extent
extent_at p = record { left = p.x; right = p.x; low = p.y; high = p.y }

-- with a point besides
abbrev pub widen : Extent → Point → Extent
widen e p = record {
  left = min e.left p.x;
  right = max e.right p.x;
  low = min e.low p.y;
  high = max e.high p.y;
}

abbrev pub extent_of : Curve → Extent
extent_of c = fold widen (extent_at c.first) c.rest

-- the least box around two
abbrev pub union : Extent → Extent → Extent
union e f = record {
  left = min e.left f.left;
  right = max e.right f.right;
  low = min e.low f.low;
  high = max e.high f.high;
}

-- no point in common
abbrev pub boxes_apart : Extent → Extent → Bool
boxes_apart e f = ltb e.right f.left || ltb f.right e.left || ltb e.high f.low || ltb f.high
    e.low
