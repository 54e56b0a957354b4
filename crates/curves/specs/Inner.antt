-- The first place of a curve at a point inside its ends, and the cut there: places of the way, not of the plane. A
-- curve that comes again through the point where it starts or ends has a place there; its first and last point are
-- none.
use Rattle.std.specs.Prelude.{Bool, true, false, cond, not, ◌&&◌, List, [], ◌∷◌, ℕ, zero, suc, ◌+◌, Option, Some, None}
use Rattle.plane.specs.declared.Point.{Point}
use Rattle.plane.specs.Points.{same_point}
use Rattle.plane.specs.Segments.{on_segment}
use Rattle.curves.specs.Curves.{Curve}
use Rattle.curves.specs.Edits.{Halves, cut_here}

-- ---- the first place inside the ends

-- b is the last point
abbrev pub is_last : List Point → Bool
is_last [] = true
is_last (c ∷ r) = false

-- m lies on the segment a b, but not where the curve starts or ends; `starts`: a b is its first segment, r follows b
abbrev pub inside : Bool → Point → Point → Point → List Point → Bool
inside starts m a b r = on_segment m a b && not (starts && same_point m a) && not (is_last r && same_point m b)

-- the segment, counted from k, of the first place inside the ends
abbrev pub inside_from : Bool → ℕ → Point → Point → List Point → Option ℕ
inside_from starts k m a [] = None
inside_from starts k m a (b ∷ r) = let rest = inside_from false (k + 1) m b r in cond (inside starts m a b r) (Some k) rest

unfoldable pub inner_place : Curve → Point → Option ℕ
inner_place c m = inside_from true 0 m c.first c.rest

-- ---- the cut there

-- the curve a ∷ r cut at m on its segment k: the halves are a ∷ front and m ∷ back
abbrev pub cut_at : ℕ → Point → Point → List Point → Halves
cut_at k m a [] = record { front = []; back = [] }
cut_at zero m a (b ∷ r) = cut_here true (same_point m b) m b r (record { front = []; back = [] })
cut_at (suc k) m a (b ∷ r) = let h = cut_at k m b r in cut_here false false m b r h

abbrev pub cut_found : Option ℕ → Point → Curve → Halves
cut_found (Some k) m c = cut_at k m c.first c.rest
cut_found None m c = record { front = c.rest; back = [] }

-- the curve up to its first place at m inside its ends, and from there on
unfoldable pub inner_front : Point → Curve → Curve
inner_front m c = record { first = c.first; rest = (cut_found (inner_place c m) m c).front }

unfoldable pub inner_back : Point → Curve → Curve
inner_back m c = record { first = m; rest = (cut_found (inner_place c m) m c).back }
