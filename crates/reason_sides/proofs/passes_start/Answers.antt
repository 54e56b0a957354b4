-- `reason_sides::passes_start` meets its contract: an edge starts at the first point of its curve. Assumes nothing.
use mathlib.Core.Path.{sym, ap, ap₂, ◌∙◌}
use native.Mathlib.Omega.{arith}
use Rattle.plane.specs.declared.Point.{Point}
use Rattle.curves.specs.Curves.{Curve, curve_of}
use Rattle.curves.proofs.Runs.{two-points, curve_is}
use Rattle.reason_sides.specs.Passing.{passes_over}
use Rattle.reason_sides.proofs.passes_start.Goals as goal

pub returns : goal.returns
returns c =
    let p = c.point_at-q in
    let row = c.curve_of in
    let own = c.curve_of-2 in
    let new = curve_of c.args.c.now in
    c.passes_over.ensures
    ∙ ap₂ (λ (k : Curve) (q : Point). passes_over k new q) own.ensures.1
    (p.ensures.0 ∙ sym (ap (λ (k : Curve). k.first) (curve_is row.ensures.0))
    ∙ ap (λ (k : Curve). k.first) row.ensures.1)

pub point_at-q-requires : goal.point_at-q-requires
point_at-q-requires c = (c.curve_of.ensures.0, omega (arith, two-points c.curve_of.ensures.0))
