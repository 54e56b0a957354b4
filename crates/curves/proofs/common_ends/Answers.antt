-- `curves::common_ends` meets its contract. Assumes nothing.
use native.Mathlib.Omega.{arith}
use Rattle.curves.proofs.Runs.{two-points}
use mathlib.Core.Path.{◌≡◌, ◌∙◌}
use mathlib.Core.Bool.{◌||◌}
use Rattle.plane.specs.Points.{same_point}
use Rattle.plane.proofs.Laws.{point_eq}
use Rattle.curves.proofs.Turns.{common_ends_are, end_in_range}
use Rattle.curves.proofs.common_ends.Goals as goal
use Rattle.curves.proofs.common_ends.Goals.{then-eq, else-eq, then-eq-2, else-eq-2}

pub point_at-a-requires : goal.point_at-a-requires
point_at-a-requires c = (c.requires.0, omega (arith, two-points c.requires.0))

pub point_at-b-requires : goal.point_at-b-requires
point_at-b-requires c = (
  c.requires.1,
  omega (arith, two-points c.requires.1),
)

pub returns : goal.returns
unfolding same_point
returns c =
    let a = c.point_at-a.result in
    let b = c.point_at-b.result in
    let y = c.point_at-y.result in
    let z = c.point_at-z.result in
    let first : c.if-eq.end_of ≡ same_point a b || same_point a y = elim c.if-eq.branch [
      | then-eq w ↦ let e = c.eq.ensures ∙ point_eq a b in cc
      | else-eq w ↦ let e = c.eq.ensures ∙ point_eq a b in let f = w.eq-else-eq.ensures ∙ point_eq a y in cc
    ] in
    let last : c.if-eq-2.end_of ≡ same_point z b || same_point z y = elim c.if-eq-2.branch [
      | then-eq-2 w ↦ let e = c.eq-2.ensures ∙ point_eq z b in cc
      | else-eq-2 w ↦ let e = c.eq-2.ensures ∙ point_eq z b in let f = w.eq-else-eq-2.ensures ∙ point_eq z y in cc
    ] in (
      common_ends_are _ _ c.requires.0 c.requires.1
          c.segment_count.ensures.0
          c.segment_count-2.ensures.0
          c.point_at-a.ensures.0
          c.point_at-z.ensures.0
          c.point_at-b.ensures.0
          c.point_at-y.ensures.0
          first last c.end_of.ensures c.end_of-2.ensures,
      record {
        first = end_in_range _ _ c.end_of.ensures c.point_at-a.ensures.1;
        last = end_in_range _ _ c.end_of-2.ensures c.point_at-z.ensures.1;
      },
    )
