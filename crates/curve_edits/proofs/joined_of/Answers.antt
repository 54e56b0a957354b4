-- `curve_edits::joined_of` meets its contract. Assumes nothing.
use mathlib.Core.Path.{sym, ap, ◌∙◌}
use mathlib.Core.List.{[], ◌∷◌, ◌++◌}
use Prim.Native.Nat.{◌-◌}
use native.Mathlib.Omega.{arith}
use Rattle.lists.specs.Tables.{table}
use Rattle.plane.specs.Segments.{straight_between}
use Rattle.curves.specs.Curves.{point_at}
use Rattle.curves.proofs.Runs.{two-points, few_points}
use Rattle.curves.proofs.Turns.{asked₃}
use Rattle.curve_edits.specs.Lines.{line_of}
use Rattle.curve_edits.proofs.Lines.{empty_count}
use Rattle.curve_edits.proofs.Curves.{joined-dropped, joined_kept}
use Rattle.curve_edits.proofs.joined_of.Goals as goal

pub with_points-begin-requires : goal.with_points-begin-requires
with_points-begin-requires c = (
  c.requires.0,
  omega arith,
  omega arith,
  omega (arith, empty_count c.empty.result c.empty.ensures),
)

pub with_points-requires : goal.with_points-requires
with_points-requires c =
    let s = c in (
      s.requires.1,
      omega (arith, two-points s.requires.1),
      omega arith,
      omega (
        arith,
        few_points s.requires.0,
        empty_count c.empty.result
            c.empty.ensures,
        c.with_points-begin.ensures.1,
      ),
    )

pub with_point-requires : goal.with_point-requires
with_point-requires c =
    let s = c in (
      c.point_at-joint.ensures.1,
      omega (
        arith,
        few_points s.requires.0,
        empty_count c.empty.result
            c.empty.ensures,
        c.with_points-begin.ensures.1,
      ),
    )

pub with_points-requires-else-straight_between : goal.with_points-requires-else-straight_between
with_points-requires-else-straight_between c =
    let s = c in (
      s.requires.1,
      omega (arith, two-points s.requires.1),
      omega arith,
      omega (
        arith,
        few_points s.requires.0,
        empty_count c.empty.result
            c.empty.ensures,
        c.with_points-begin.ensures.1,
        c.with_point.ensures.1,
      ),
    )

pub returns-then-straight_between : goal.returns-then-straight_between
returns-then-straight_between c =
    let s = c in
    let t = asked₃ straight_between c.point_at.ensures.0
    c.point_at-joint.ensures.0
    c.point_at-2.ensures.0 c.straight_between.ensures
    c.if-straight_between.true in
    c.with_points.ensures.0 _ (c.with_points-begin.ensures.0 []
    c.empty.ensures)
    ∙ ap line_of (sym (joined-dropped s.requires.0 s.requires.1
    c.point_count-n.ensures
    c.point_count-k.ensures t))

pub returns-else-straight_between : goal.returns-else-straight_between
returns-else-straight_between c =
    let s = c in
    let n = c.point_count-n.result in
    let t = asked₃ straight_between c.point_at.ensures.0
    c.point_at-joint.ensures.0
    c.point_at-2.ensures.0 c.straight_between.ensures
    c.if-straight_between.false in
    c.with_points-else-straight_between.ensures.0 _ (c.with_point.ensures.0 _
    (c.with_points-begin.ensures.0 []
    c.empty.ensures))
    ∙ ap (λ p. line_of (table (point_at s.args.c.now) 0 (n - 1 - 0) ++ p ∷ []
    ++ table (point_at s.args.d.now) 1
    (c.point_count-k.result - 1)))
    c.point_at-joint.ensures.0
    ∙ ap line_of (sym (joined_kept s.requires.0 s.requires.1
    c.point_count-n.ensures
    c.point_count-k.ensures t))

pub overflow_sub-n : goal.overflow_sub-n
overflow_sub-n c = omega (arith, two-points c.requires.0)

pub point_at-joint-requires : goal.point_at-joint-requires
point_at-joint-requires c = (c.requires.0, omega (arith, two-points c.requires.0))

pub overflow_sub-n-2 : goal.overflow_sub-n-2
overflow_sub-n-2 c = omega (arith, two-points c.requires.0)

pub overflow_sub-n-3 : goal.overflow_sub-n-3
overflow_sub-n-3 c = omega (arith, two-points c.requires.0)

pub point_at-requires : goal.point_at-requires
point_at-requires c = (
  c.requires.0,
  omega (arith, two-points c.requires.0),
)

pub point_at-requires-2 : goal.point_at-requires-2
point_at-requires-2 c = (
  c.requires.1,
  omega (arith, two-points c.requires.1),
)
