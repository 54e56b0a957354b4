-- `curve_edits::back_of` meets its contract. Assumes nothing.
use mathlib.Core.Path.{sym, ap, ◌∙◌}
use mathlib.Core.List.{[]}
use native.Mathlib.Omega.{arith}
use Rattle.plane.specs.Points.{same_point}
use Rattle.curves.proofs.Runs.{few_points}
use Rattle.curve_edits.specs.Lines.{line_of}
use Rattle.curve_edits.proofs.Lines.{empty_count}
use Rattle.curve_edits.proofs.Curves.{found_below, back_vertex, back_inside, back_missing}
use Rattle.plane.proofs.Laws.{point_eq}
use Rattle.curve_edits.proofs.back_of.Goals as goal

pub with_point-start-requires : goal.with_point-start-requires
with_point-start-requires c = (c.requires.1, omega (arith, empty_count c.empty.result c.empty.ensures))

pub returns-in_default : goal.returns-in_default
returns-in_default c =
    let s = c in
    let e = sym c.first_place.ensures ∙ c.in_default.is in
    c.with_point-start.ensures.0 [] c.empty.ensures
    ∙ ap line_of (sym (back_missing s.requires.0 s.args.m e))

pub overflow_add-i : goal.overflow_add-i
overflow_add-i c =
    let s = c in
    let e = sym c.first_place.ensures ∙ c.in-Some.is in
    omega (arith, found_below s.requires.0 s.args.m _ e, few_points s.requires.0)

pub point_at-requires : goal.point_at-requires
point_at-requires c =
    let s = c in
    let e = sym c.first_place.ensures ∙ c.in-Some.is in
    (s.requires.0, found_below s.requires.0 s.args.m _ e)

pub overflow_add-i-then-eq : goal.overflow_add-i-then-eq
overflow_add-i-then-eq c =
    let s = c in
    let e = sym c.first_place.ensures
    ∙ c.in-Some.is in
    omega (arith, found_below s.requires.0 s.args.m _ e, few_points s.requires.0)

pub with_points-requires : goal.with_points-requires
with_points-requires c =
    let s = c in
    let e = sym c.first_place.ensures
    ∙ c.in-Some.is in
    let h = found_below s.requires.0 s.args.m _ e in (
      s.requires.0,
      omega arith,
      omega arith,
      omega (
        arith,
        empty_count c.empty.result
            c.empty.ensures,
      ),
    )

pub overflow_add-i-else-eq : goal.overflow_add-i-else-eq
overflow_add-i-else-eq c =
    let s = c in
    let e = sym c.first_place.ensures
    ∙ c.in-Some.is in
    omega (arith, found_below s.requires.0 s.args.m _ e, few_points s.requires.0)

pub with_points-requires-else-eq : goal.with_points-requires-else-eq
with_points-requires-else-eq c =
    let s = c in
    let e = sym c.first_place.ensures
    ∙ c.in-Some.is in
    let h = found_below s.requires.0 s.args.m _ e in (
      s.requires.0,
      omega arith,
      omega arith,
      omega (
        arith,
        empty_count c.empty.result
            c.empty.ensures,
      ),
    )

pub returns-then-eq : goal.returns-then-eq
returns-then-eq c =
    let s = c in
    let e = sym c.first_place.ensures
    ∙ c.in-Some.is in
    let t = sym (ap (same_point s.args.m) c.point_at.ensures.0)
    ∙ sym (c.eq.ensures ∙ point_eq _ _) ∙ c.if-eq.true in
    c.with_points.ensures.0 _
    (c.with_point-start.ensures.0 []
    c.empty.ensures)
    ∙ ap line_of (rw c.point_count-n.ensures
    (sym (back_vertex s.requires.0 s.args.m _ e t)))

pub returns-else-eq : goal.returns-else-eq
returns-else-eq c =
    let s = c in
    let e = sym c.first_place.ensures
    ∙ c.in-Some.is in
    let t = sym (ap (same_point s.args.m) c.point_at.ensures.0)
    ∙ sym (c.eq.ensures ∙ point_eq _ _) ∙ c.if-eq.false in
    c.with_points-else-eq.ensures.0 _
    (c.with_point-start.ensures.0 []
    c.empty.ensures)
    ∙ ap line_of (rw c.point_count-n.ensures
    (sym (back_inside s.requires.0 s.args.m _ e t)))
