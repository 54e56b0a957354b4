-- `curve_edits::without_surplus` meets its contract: what is left of the points before point i is in the line. Assumes
-- nothing.
use mathlib.Core.Path.{◌≡◌, ap, ◌∙◌}
use mathlib.Core.Bool.{Bool}
use mathlib.Core.List.{[], ◌∷◌}
use Prim.Native.Nat.{◌+◌, ◌-◌, ◌/◌, ◌<◌}
use native.Mathlib.Omega.{arith}
use lib.ListN.{length}
use Rattle.plane.specs.Segments.{straight_between}
use Rattle.curves.specs.Curves.{point_at}
use Rattle.curves.proofs.Runs.{two-points, few_points}
use Rattle.curves.proofs.Turns.{asked₃}
use Rattle.curve_edits.specs.Lines.{line_of}
use Rattle.curve_edits.proofs.Lines.{empty_count}
use Rattle.curve_edits.proofs.Curves.{thinned_start, thinned-dropped, thinned_kept}
use Rattle.curve_edits.proofs.without_surplus.Goals as goal
use Rattle.curve_edits.proofs.without_surplus.Goals.{then-not-straight_between, else-not-straight_between}

pub loop-i-init : goal.loop-i-init
loop-i-init c =
    let s = c in
    let none = c.empty in (
      omega arith,
      omega (arith, two-points s.requires),
      thinned_start s.requires
          (omega (arith, c.with_point-out.ensures.1, empty_count none.result none.ensures))
          (c.with_point-out.ensures.0 [] none.ensures
          ∙ ap (λ p. line_of (p ∷ [])) c.point_at.ensures.0),
    )

pub loop-i-preserved : goal.loop-i-preserved
loop-i-preserved c =
    let s = c in
    let l = s.args.c.now in
    let t = s.loop-i.invariant.2 in
    let f = point_at l in
    -- what the test of point i answered
    let told : (v : Bool) → c.straight_between.result ≡ v
    → straight_between (f (s.loop-i.i - 1)) (f s.loop-i.i) (f (s.loop-i.i + 1)) ≡ v = λ v e.
    asked₃ straight_between c.point_at-in-loop-i.ensures.0 c.point_at-p.ensures.0
    c.point_at-in-loop-i-2.ensures.0 c.straight_between.ensures e in
    let h : s.loop-i.i + 1 < length l / 2 = omega arith in (
      omega arith,
      omega arith,
      elim c.if-not-straight_between.branch [
        | then-not-straight_between w ↦ thinned_kept l _ t h (told _ w.if-not-straight_between.true)
            c.point_at-p.ensures.0 (rw w.out-is w.with_point-out-then-not-straight_between.ensures.1)
            (w.out-is ∙ w.with_point-out-then-not-straight_between.ensures.0 _ t.line)
        | else-not-straight_between w ↦
            thinned-dropped l _ t h (told _ w.if-not-straight_between.false) w.out-is
      ],
    )

pub overflow_sub-last : goal.overflow_sub-last
overflow_sub-last c = omega (arith, two-points c.requires)

pub point_at-requires : goal.point_at-requires
point_at-requires c = (c.requires, omega (arith, two-points c.requires))

pub with_point-out-requires : goal.with_point-out-requires
with_point-out-requires c = (
  c.point_at.ensures.1,
  omega (arith, empty_count c.empty.result c.empty.ensures),
)

pub with_point-out-requires-then-not-straight_between : goal.with_point-out-requires-then-not-straight_between
with_point-out-requires-then-not-straight_between c = let s = c in (
  c.point_at-p.ensures.1,
  omega (arith, s.loop-i.invariant.2.few, few_points s.requires),
)

pub with_point-requires : goal.with_point-requires
with_point-requires c = let s = c in (
  c.point_at-2.ensures.1,
  omega (arith, s.loop-i.invariant.2.few, few_points s.requires),
)
