-- Curves cut, joined, reversed, and without surplus points. Over a ∷ r first, then over a curve.
use Rattle.std.specs.Prelude.{Bool, true, false, List, [], ◌∷◌, ◌++◌}
use Rattle.plane.specs.declared.Point.{Point}
use Rattle.plane.specs.Points.{same_point}
use Rattle.plane.specs.Segments.{on_segment, straight_between}
use Rattle.curves.specs.Curves.{Curve, last_point}

pub record Halves : Type 0 where
  pub front : List Point
  pub back : List Point

-- cut at m, on the segment that ends in b or after it; a cut at a vertex uses it
abbrev pub cut_here : Bool → Bool → Point → Point → List Point → Halves → Halves
cut_here true true m b r h = record { front = b ∷ []; back = r }
cut_here true false m b r h = record { front = m ∷ []; back = b ∷ r }
cut_here false e m b r h = record { front = b ∷ h.front; back = h.back }

-- the curve a ∷ r cut at its first place at m: the halves are a ∷ front and m ∷ back
abbrev pub cut : Point → Point → List Point → Halves
cut m a [] = record { front = []; back = [] }
cut m a (b ∷ r) = let h = cut m b r in cut_here (on_segment m a b) (same_point m b) m b r h

-- the joint m lies straight between its neighbours
abbrev pub dropped : Point → Point → List Point → Bool
dropped a m [] = false
dropped a m (y ∷ s) = straight_between a m y

abbrev pub join_here : Bool → Point → List Point → List Point
join_here true m s = s
join_here false m s = m ∷ s

-- the curve a ∷ r, and after its last point m the curve m ∷ s; the joint is dropped when it lies straight between its
-- neighbours
abbrev pub join : Point → List Point → List Point → List Point
join a [] s = s
join a (m ∷ []) s = join_here (dropped a m s) m s
join a (b ∷ c ∷ r) s = b ∷ join b (c ∷ r) s

-- the points after a, without the inner ones that lie straight between their given neighbours
abbrev pub thinned : Point → List Point → List Point
thinned a [] = []
thinned a (b ∷ []) = b ∷ []
thinned a (b ∷ c ∷ r) = join_here (straight_between a b c) b (thinned b (c ∷ r))

-- the curve a ∷ r the other way round is lastOf a r ∷ turned a r
abbrev pub turned : Point → List Point → List Point
turned a [] = []
turned a (b ∷ r) = turned b r ++ (a ∷ [])

-- ---- the same of curves

-- the curve up to its first place at m, and from there on
abbrev pub front : Point → Curve → Curve
front m c = record { first = c.first; rest = (cut m c.first c.rest).front }

abbrev pub back : Point → Curve → Curve
back m c = record { first = m; rest = (cut m c.first c.rest).back }

-- one curve after the other
abbrev pub joined : Curve → Curve → Curve
joined c d = record { first = c.first; rest = join c.first c.rest d.rest }

-- without surplus points
abbrev pub without_surplus : Curve → Curve
without_surplus c = record { first = c.first; rest = thinned c.first c.rest }

abbrev pub reversed : Curve → Curve
reversed c = record { first = last_point c; rest = turned c.first c.rest }

-- the curve, or the curve the other way round
abbrev pub course : Bool → Curve → Curve
course false c = c
course true c = reversed c
