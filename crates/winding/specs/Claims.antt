-- What is claimed of closed curves and what they wind around. Proved in proofs/Steps.antt (`left_windings`) and
-- proofs/Past.antt (`same_winding`).
use Rattle.std.specs.Prelude.{◌≡◌, Bool, false, ◌+ℤ◌}
use mathlib.Core.List.{List, map, Memᴰ}
use Rattle.plane.specs.declared.Point.{Point}
use Rattle.plane.specs.Segments.{meets}
use Rattle.plane.specs.Below.{Segment}
use Rattle.curves.specs.Curves.{Curve, last_point, start_way}
use Rattle.rotation.specs.Law.{Tells, lawful_next}
use Rattle.winding.specs.Winding.{winding_of, all_segments, Closed}
use Rattle.winding.specs.Directed.{Directed, Departing, left_of, times_taken}

-- l are some of the directed curves `all`
pub record LeftLaws {A : Type 0} (course : A → Curve) (rev : A → A) (is : A → A → Bool) (all l : List A) : Type 0 where
  -- left of a directed curve they wind as often as left of its reverse, and once more for each time that they take it
  pub edge : (d : A) → Memᴰ d all → left_of course l d ≡ left_of course l (rev d) +ℤ times_taken is rev l d
  -- and as often as left of the next one: of the departures from its end, the first met clockwise from its reverse
  pub step :
      (d : A) → Memᴰ d all → (ds : List A) → Departing course all (last_point (course d)) ds
      → left_of course l (lawful_next (λ x. start_way (course x)) is (rev d) ds) ≡ left_of course l d

-- for all directed curves, and all closed lists of them
abbrev pub LeftWindings : Type 1
LeftWindings =
    (A : Type 0) (course : A → Curve) (rev : A → A) (is : A → A → Bool) (all l : List A)
    → Directed course rev all → Tells is → ((d : A) → Memᴰ d l → Memᴰ d all)
    → Closed (all_segments (map course l)) → LeftLaws course rev is all l

-- closed segments wind as often around one point as around another, if none of them meets the straight way between
abbrev pub SameWinding : Type 0
SameWinding =
    (p q : Point) (l : List Segment) → Closed l
    → ((s : Segment) → Memᴰ s l → meets s.from s.to p q ≡ false) → winding_of p l ≡ winding_of q l
