-- What is asked of curves: neighbouring points, straight points, places on a curve, simple curves, and how two curves
-- meet. Over a ∷ r first, then over a curve. What a test may leave out is bound by a `let`, which waits.
use Rattle.std.specs.Prelude.{Bool, true, false, cond, not, ◌&&◌, ◌||◌, List, [], ◌∷◌, map, Option, ℕ}
use Rattle.lists.specs.Tables.{place}
use Rattle.plane.specs.declared.Point.{Point}
use Rattle.plane.specs.declared.Contact.{Contact}
use Rattle.plane.specs.declared.Contact.TheVariants.{None, Touch, Crossing, Stretch}
use Rattle.plane.specs.Points.{same_point}
use Rattle.plane.specs.Segments.{meets, stretches, contact, on_segment, straight_between}
use Rattle.curves.specs.Curves.{Curve, last_of, last_point, segments}

-- ---- points of one curve

-- neighbouring points differ
abbrev pub differs : Point → List Point → Bool
differs a [] = true
differs a (b ∷ r) = let rest = differs b r in not (same_point a b) && rest

-- an inner point lies straight between its neighbours
abbrev pub straight_in : Point → List Point → Bool
straight_in a [] = false
straight_in a (b ∷ []) = false
straight_in a (b ∷ c ∷ r) = let rest = straight_in b (c ∷ r) in straight_between a b c || rest

-- the point m lies on the curve
abbrev pub passes : Point → Point → List Point → Bool
passes m a [] = false
passes m a (b ∷ r) = let rest = passes m b r in on_segment m a b || rest

-- ---- points that two segments share

-- one of the points lies on both segments
abbrev pub shares : List Point → Point → Point → Point → Point → Bool
shares [] a b c d = false
shares (q ∷ l) a b c d = let rest = shares l a b c d in on_segment q a b && on_segment q c d || rest

-- two segments share a point that is none of the list
unfoldable pub seg_wrong : List Point → Point → Point → Point → Point → Bool
seg_wrong l a b c d = let apart = not (shares l a b c d) in meets a b c d && (stretches a b c d || apart)

-- p before l, where p may be shared
abbrev pub may_share : Bool → Point → List Point → List Point
may_share true p l = p ∷ l
may_share false p l = l

-- ---- how segments meet

-- two segments that share a point that is none of the list
unfoldable pub seg_meeting : List Point → Point → Point → Point → Point → Contact
seg_meeting l a b c d = let found = contact a b c d in cond (seg_wrong l a b c d) found None

-- a stretch is reported before a crossing, and a crossing before a touch
abbrev pub graver : Contact → Contact → Contact
graver None k = k
graver Touch None = Touch
graver Touch Touch = Touch
graver Touch Crossing = Crossing
graver Touch Stretch = Stretch
graver Crossing None = Crossing
graver Crossing Touch = Crossing
graver Crossing Crossing = Crossing
graver Crossing Stretch = Stretch
graver Stretch k = Stretch

-- for several segments or edges
abbrev pub gravest : List Contact → Contact
gravest [] = None
gravest (k ∷ ks) = graver k (gravest ks)

-- ---- simple curves

-- the list at the last segment, no point at the others
abbrev pub lastly : List Point → List Point → List Point
lastly l [] = l
lastly l (b ∷ r) = []

-- the segment a b and the segments of c ∷ r share nothing, but the last of those may share a point of the list
abbrev pub free : List Point → Point → Point → Point → List Point → Bool
free l a b c [] = true
free l a b c (d ∷ r) = let rest = free l a b d r in not (seg_wrong (lastly l r) a b c d) && rest

-- the segment a b and the segments of b ∷ r, of which the first is its neighbour
abbrev pub free_after : List Point → Point → Point → List Point → Bool
free_after l a b [] = true
free_after l a b (c ∷ r) = let rest = free l a b c r in not (seg_wrong (b ∷ []) a b b c) && rest

-- neighbouring segments share their common point only, and others share none
abbrev pub arc : Point → List Point → Bool
arc a [] = true
arc a (b ∷ r) = let rest = arc b r in free_after [] a b r && rest

-- the same, but the first and last of a closed curve share its end alone
unfoldable pub simple : Point → List Point → Bool
simple a [] = true
simple a (b ∷ r) = let rest = arc b r in free_after (may_share (same_point (last_of b r) a) a []) a b r && rest

-- ---- the same of curves

abbrev pub neighbours_differ : Curve → Bool
neighbours_differ c = differs c.first c.rest

abbrev pub straight_inside : Curve → Bool
straight_inside c = straight_in c.first c.rest

abbrev pub on_curve : Curve → Point → Bool
on_curve c p = passes p c.first c.rest

-- the first place along the curve: the segment, counted from 0
abbrev pub first_place : Curve → Point → Option ℕ
first_place c p = place (λ s. on_segment p s.from s.to) 0 (segments c)

abbrev pub is_simple : Curve → Bool
is_simple c = simple c.first c.rest

-- ---- two curves

-- the ends of the one that are ends of the other
abbrev pub common_ends : Curve → Curve → List Point
common_ends c d =
    let a = c.first in
    let z = last_point c in
    let b = d.first in
    let y = last_point d in
    may_share (same_point a b || same_point a y) a (may_share (same_point z b || same_point z y) z [])

-- how two curves meet but in common ends: the gravest that a segment of each do
unfoldable pub meeting : Curve → Curve → Contact
meeting c d =
    let l = common_ends c d in
    gravest (map (λ s. gravest (map (λ t. seg_meeting l s.from s.to t.from t.to) (segments d))) (segments c))

abbrev pub is_met : Contact → Bool
is_met None = false
is_met Touch = true
is_met Crossing = true
is_met Stretch = true

-- two curves meet wrongly when they share a point that is not an end of both
abbrev pub meet_wrongly : Curve → Curve → Bool
meet_wrongly c d = is_met (meeting c d)
