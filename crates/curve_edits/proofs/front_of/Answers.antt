-- `curve_edits::front_of` meets its contract. Assumes nothing.
use mathlib.Core.Path.{sym, ap, ◌∙◌}
use mathlib.Core.List.{[]}
use native.Mathlib.Omega.{arith}
use Rattle.curves.proofs.Runs.{few_points}
use Rattle.curve_edits.specs.Lines.{line_of}
use Rattle.curve_edits.proofs.Lines.{empty_count}
use Rattle.curve_edits.proofs.Curves.{found_below, front_found, front_missing, whole-points}
use Rattle.curve_edits.proofs.front_of.Goals as goal

pub returns-in_default : goal.returns-in_default
returns-in_default c =
    let s = c in
    let e = sym c.first_place.ensures
    ∙ c.in_default.is in
    c.whole_of.ensures
    ∙ ap line_of (whole-points s.requires.0 ∙ sym (front_missing s.requires.0 s.args.m e))

pub overflow_add-i : goal.overflow_add-i
overflow_add-i c =
    let s = c in
    let e = sym c.first_place.ensures ∙ c.in-Some.is in
    omega (arith, found_below s.requires.0 s.args.m _ e, few_points s.requires.0)

pub with_points-requires : goal.with_points-requires
with_points-requires c =
    let s = c in
    let e = sym c.first_place.ensures ∙ c.in-Some.is in (
      s.requires.0,
      omega arith,
      omega (arith, found_below s.requires.0 s.args.m _ e),
      omega (arith, empty_count c.empty.result c.empty.ensures),
    )

pub with_point-requires : goal.with_point-requires
with_point-requires c =
    let s = c in
    let e = sym c.first_place.ensures
    ∙ c.in-Some.is in (
      s.requires.1,
      omega (
        arith,
        found_below s.requires.0 s.args.m _ e,
        few_points s.requires.0,
        c.with_points.ensures.1,
        empty_count c.empty.result c.empty.ensures,
      ),
    )

pub returns : goal.returns
returns c =
    let s = c in
    let e = sym c.first_place.ensures
    ∙ c.in-Some.is in
    c.with_point.ensures.0 _ (c.with_points.ensures.0 [] c.empty.ensures)
    ∙ ap line_of (sym (front_found s.requires.0 s.args.m _ e))
