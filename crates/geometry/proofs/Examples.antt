-- The definitions at small cases. Assumes nothing.
use mathlib.Core.Path.{◌≡◌, refl}
use mathlib.Core.Bool.{Bool, true, false}
use mathlib.Core.List.{List, [], ◌∷◌}
use Prim.Native.Nat.{ℕ}
use Rattle.lists.specs.Tests.{same}
use Rattle.plane.specs.declared.Point.{Point}
use Rattle.plane.specs.declared.Contact.{Contact}
use Rattle.plane.specs.declared.Contact.TheVariants.{None, Touch, Crossing, Stretch}
use Rattle.plane.specs.Points.{same_point}
use Rattle.plane.specs.Areas.{area, turn}
use Rattle.plane.specs.Segments.{overlap, straddle, meets, overlap_more, straight_between, stretches, ended, contact}
use Rattle.curves.specs.Curves.{Curve}
use Rattle.curves.specs.Tests.{seg_wrong, seg_meeting, meeting, simple}
use Rattle.curves.specs.Edits.{cut, join, turned}

abbrev at : ℕ → ℕ → Point
at x y = record { x = x; y = y }

contacts : ◌≡◌ {A = List Contact}
    (contact (at 0 0) (at 1 1) (at 1 0) (at 0 1) ∷ contact (at 0 2) (at 1 1) (at 0 0) (at 2 3)
    ∷ contact (at 2 2) (at 0 0) (at 1 1) (at 0 0) ∷ contact (at 0 0) (at 0 1) (at 0 1) (at 0 0)
    ∷ contact (at 1 1) (at 0 1) (at 0 0) (at 0 1) ∷ contact (at 1 2) (at 1 1) (at 0 2) (at 2 0)
    ∷ contact (at 1 1) (at 0 0) (at 0 0) (at 0 0)
    ∷ contact (at 2 1) (at 1 2) (at 2 0) (at 0 2) ∷ contact (at 0 0) (at 0 0) (at 1 1) (at 2 2) ∷ [])
    (Crossing ∷ Crossing ∷ Stretch ∷ Stretch ∷ Touch ∷ Touch ∷ Touch ∷ None ∷ None ∷ [])
unfolding meets overlap straddle turn area overlap_more stretches ended contact
contacts = refl

abbrev drawn : Point → List Point → Curve
drawn a r = record { first = a; rest = r }

meetings : ◌≡◌ {A = List Contact}
    (meeting (drawn (at 2 3) (at 3 3 ∷ at 3 0 ∷ [])) (drawn (at 0 2) (at 0 3 ∷ at 0 1 ∷ at 0 3 ∷ []))
    ∷ meeting (drawn (at 1 0) (at 3 3 ∷ at 1 3 ∷ [])) (drawn (at 1 0) (at 0 1 ∷ at 1 3 ∷ []))
    ∷ meeting (drawn (at 1 1) (at 3 1 ∷ at 2 1 ∷ [])) (drawn (at 1 3) (at 2 1 ∷ []))
    ∷ meeting (drawn (at 1 3) (at 0 2 ∷ [])) (drawn (at 2 0) (at 0 2 ∷ at 1 3 ∷ []))
    ∷ meeting (drawn (at 2 2) (at 2 0 ∷ [])) (drawn (at 3 0) (at 1 0 ∷ at 3 0 ∷ []))
    ∷ meeting (drawn (at 0 0) (at 3 2 ∷ [])) (drawn (at 1 0) (at 1 3 ∷ []))
    ∷ meeting (drawn (at 0 0) (at 1 1 ∷ at 2 0 ∷ at 4 2 ∷ [])) (drawn (at 0 1) (at 5 1 ∷ []))
    ∷ meeting (drawn (at 0 1) (at 3 1 ∷ at 3 3 ∷ [])) (drawn (at 1 0) (at 1 2 ∷ at 3 2 ∷ at 3 4 ∷ [])) ∷ [])
    (None ∷ None ∷ None ∷ Stretch ∷ Touch ∷ Crossing ∷ Crossing ∷ Stretch ∷ [])
unfolding meets overlap straddle turn area same same_point overlap_more stretches ended contact seg_wrong seg_meeting
    meeting
meetings = refl

simples : ◌≡◌ {A = List Bool}
    (simple (at 1 1) (at 1 0 ∷ []) ∷ simple (at 5 1) (at 5 4 ∷ at 3 0 ∷ at 5 1 ∷ [])
    ∷ simple (at 4 5) (at 2 2 ∷ at 5 5 ∷ at 4 5 ∷ [])
    ∷ simple (at 5 2) (at 1 4 ∷ at 3 0 ∷ at 3 5 ∷ []) ∷ simple (at 1 1) (at 0 1 ∷ at 1 1 ∷ [])
    ∷ simple (at 0 4) (at 3 0 ∷ at 1 0 ∷ at 2 0 ∷ []) ∷ [])
    (true ∷ true ∷ true ∷ false ∷ false ∷ false ∷ [])
unfolding meets overlap straddle turn area same same_point overlap_more stretches seg_wrong simple
simples = refl

edits : ◌≡◌ {A = List (List Point)}
    ((cut (at 0 3) (at 3 1) (at 4 1 ∷ at 0 4 ∷ at 0 2 ∷ [])).front
    ∷ (cut (at 0 3) (at 3 1) (at 4 1 ∷ at 0 4 ∷ at 0 2 ∷ [])).back
    ∷ (cut (at 2 4) (at 4 3) (at 4 2 ∷ at 2 4 ∷ at 2 3 ∷ [])).front
    ∷ (cut (at 2 4) (at 4 3) (at 4 2 ∷ at 2 4 ∷ at 2 3 ∷ [])).back
    ∷ join (at 2 3) (at 2 1 ∷ at 3 1 ∷ []) (at 0 2 ∷ []) ∷ join (at 1 2) (at 3 1 ∷ at 1 1 ∷ []) (at 0 1 ∷ [])
    ∷ join (at 2 0) (at 3 0 ∷ []) (at 1 0 ∷ at 3 1 ∷ [])
    ∷ turned (at 1 2) (at 1 1 ∷ at 2 1 ∷ at 0 3 ∷ []) ∷ [])
    ((at 4 1 ∷ at 0 4 ∷ at 0 3 ∷ []) ∷ (at 0 2 ∷ []) ∷ (at 4 2 ∷ at 2 4 ∷ []) ∷ (at 2 3 ∷ [])
    ∷ (at 2 1 ∷ at 3 1 ∷ at 0 2 ∷ []) ∷ (at 3 1 ∷ at 0 1 ∷ []) ∷ (at 3 0 ∷ at 1 0 ∷ at 3 1 ∷ [])
    ∷ (at 2 1 ∷ at 1 1 ∷ at 1 2 ∷ []) ∷ [])
unfolding meets overlap straddle turn area same same_point straight_between
edits = refl
