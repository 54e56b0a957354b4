-- The points that two segments may share, as the functions hold them: none, one or two.
use Rattle.std.specs.Prelude.{Bool, true, false, ◌||◌, List, [], ◌∷◌}
use Rattle.plane.specs.declared.Point.{Point}
use Rattle.plane.specs.Points.{InRange, same_point}
use Rattle.curves.specs.declared.End.{End}
use Rattle.curves.specs.declared.End.TheVariants.{Common, Own}
use Rattle.curves.specs.declared.Shares.{Shares}
use Rattle.curves.specs.Curves.{Curve, last_point}

abbrev pub point_of : End → Point
point_of (Common p) = p
point_of (Own p) = p

-- the point as an end
abbrev pub end_of : Bool → Point → End
end_of true p = Common p
end_of false p = Own p

-- the end, where segments may share it, before l
abbrev pub listed : End → List Point → List Point
listed (Common p) l = p ∷ l
listed (Own p) l = l

abbrev pub shareable : Shares → List Point
shareable l = listed l.first (listed l.last [])

-- the ends of a curve, each with whether it is an end of the other
abbrev pub marked_ends : Curve → Curve → Shares
marked_ends c d =
    let z = last_point c in
    let y = last_point d in
    record {
      first = end_of (same_point c.first d.first || same_point c.first y) c.first;
      last = end_of (same_point z d.first || same_point z y) z;
    }

pub record Shareable (l : Shares) : Type 0 where
  pub first : InRange (point_of l.first)
  pub last : InRange (point_of l.last)
