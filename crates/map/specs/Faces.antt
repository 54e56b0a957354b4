-- The face of a point, and what a ring encloses.
use Rattle.std.specs.Prelude.{Bool, cond, ℕ, ltb, ℤ, pos, ◌+ℤ◌}
use mathlib.Core.List.{List, [], ◌∷◌, map, flat_map, foldr}
use Rattle.lists.specs.Scans.{keep, odd_count}
use Rattle.plane.specs.declared.Point.{Point}
use Rattle.plane.specs.Below.{Segment, ordered, passes_below, higher}
use Rattle.curves.specs.Curves.{segments}
use Rattle.curves.specs.Measures.{curve_area, odd_below}
use Rattle.planar_maps.specs.Map.{Dart}
use Rattle.map.specs.Rows.{Edge, Map}
use Rattle.map.specs.Darts.{course}

-- a segment with its ends ordered by x, and the face on its upper side
pub record Floor : Type 0 where
  pub segment : Segment
  pub upper : ℕ

-- upper is left of a segment that runs to greater x, else right
abbrev pub floor_of : Edge → Segment → Floor
floor_of e s = record { segment = ordered s; upper = cond (ltb s.from.x s.to.x) e.left e.right }

-- the segments that pass below a point, by edge number and then along the curve
unfoldable pub floors : Map → Point → List Floor
floors m p = flat_map (λ e. map (floor_of e) (keep (passes_below p) (segments e.curve))) m.edges

-- the highest at x; of further ties the first: the lower edge number, then the earlier segment
unfoldable pub highest : ℕ → Floor → List Floor → Floor
highest x f [] = f
highest x f (g ∷ r) = highest x (cond (higher x g.segment f.segment) g f) r

-- the face on the upper side of the highest; none: face 0
abbrev pub face_above : ℕ → List Floor → ℕ
face_above x [] = 0
face_above x (f ∷ r) = (highest x f r).upper

-- face of a point on no node or edge
unfoldable pub face_of_point : Map → Point → ℕ
face_of_point m p = face_above p.x (floors m p)

-- enclosed by a ring: an odd number of the ring's segments pass below the point; an edge used twice counts twice
unfoldable pub encloses : Map → List Dart → Point → Bool
encloses m r p = odd_count r (λ d. odd_below (course m d) p)

-- a ring's doubled area
unfoldable pub ring_area : Map → List Dart → ℤ
ring_area m r = foldr (λ d a. curve_area (course m d) +ℤ a) (pos 0) r
