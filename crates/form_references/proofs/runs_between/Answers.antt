-- `form_references::runs_between` meets its contract. Assumes nothing.
use mathlib.Core.Bool.{◌&&◌}
use mathlib.Core.Path.{◌≡◌, refl, ap, ap₂, ◌∙◌}
use Prim.Native.Nat.{◌+◌, ◌-◌, ◌/◌}
use native.Mathlib.Omega.{arith}
use lib.ListN.{length}
use Rattle.plane.specs.declared.Point.{Point}
use Rattle.plane.specs.Points.{same_point}
use Rattle.plane.proofs.Laws.{point_eq}
use Rattle.curves.proofs.Runs.{two-points}
use Rattle.form_references.proofs.Names.{curve_first, curve_last}
use Rattle.form_references.proofs.runs_between.Goals as goal

pub point_at-requires : goal.point_at-requires
point_at-requires c = (c.requires.0, omega (arith, two-points c.requires.0))

pub overflow_sub-k : goal.overflow_sub-k
overflow_sub-k c = let s = c in omega (arith, s.requires.1, two-points s.requires.0)

pub point_at-requires-2 : goal.point_at-requires-2
point_at-requires-2 c = let s = c in (s.requires.0, omega (arith, s.requires.1, two-points s.requires.0))

pub returns : goal.returns
returns c =
    let z = c in
    let y = z in
    let s = y in
    let run = s.requires.0 in
    let e : s.args.k - 1 + 1 ≡ length s.args.c.now / 2 = omega (arith, s.requires.1, two-points run) in
    ap₂ ◌&&◌
    (ap₂ ◌&&◌
    (y.eq-first.ensures ∙ point_eq _ _ ∙ ap (λ (p : Point). same_point p s.args.u)
    (y.point_at.ensures.0 ∙ curve_first run refl))
    (z.eq-last.ensures ∙ point_eq _ _ ∙ ap (λ (p : Point). same_point p s.args.v)
    (z.point_at-2.ensures.0 ∙ curve_last run refl (s.args.k - 1) e)))
    c.neighbours_differ.ensures
