-- `darts::first_step` meets its contract. Assumes nothing.
use mathlib.Core.Path.{sym, ap, ◌∙◌}
use mathlib.Core.Bool.{Bool}
use native.Mathlib.Omega.{arith}
use Rattle.curves.specs.Curves.{curve_of}
use Rattle.curves.specs.Edits.{course}
use Rattle.curves.proofs.Runs.{two-points}
use Rattle.darts.specs.Positions.{step_of}
use Rattle.darts.proofs.Steps.{step_forward, step_back, along}
use Rattle.darts.proofs.first_step.Goals as goal

-- the points are within the run
pub point_at-requires : goal.point_at-requires
point_at-requires c = (c.requires, omega (arith, two-points c.requires))

pub point_at-requires-then-n-eq2 : goal.point_at-requires-then-n-eq2
point_at-requires-then-n-eq2 c = (
  c.requires,
  omega (arith, two-points c.requires),
)

-- two points, back
pub returns-then-n-eq2 : goal.returns-then-n-eq2
returns-then-n-eq2 c =
    let t = c in
    let s = t in
    let l = s.args.c.now in
    along c.point_at.ensures c.point_at-then-n-eq2.ensures
    (ap (λ (b : Bool). step_of (course b (curve_of l))) t.if-back.true
    ∙ step_back s.requires 2 (sym t.if-n-eq2.true ∙ s.point_count-n.ensures))

pub overflow_sub-n : goal.overflow_sub-n
overflow_sub-n c = omega (arith, two-points c.requires, c.point_count-n.ensures)

pub point_at-requires-then-back : goal.point_at-requires-then-back
point_at-requires-then-back c = (
  c.requires,
  omega (arith, two-points c.requires, c.point_count-n.ensures),
)

pub overflow_sub-n-then-back : goal.overflow_sub-n-then-back
overflow_sub-n-then-back c = omega (
  arith,
  two-points c.requires,
  c.point_count-n.ensures,
)

pub point_at-requires-then-back-2 : goal.point_at-requires-then-back-2
point_at-requires-then-back-2 c = (
  c.requires,
  omega (arith, two-points c.requires, c.point_count-n.ensures),
)

pub returns-else-n-eq2 : goal.returns-else-n-eq2
returns-else-n-eq2 c =
    let t = c in
    let s = t in
    let l = s.args.c.now in
    along c.point_at-then-back.ensures c.point_at-then-back-2.ensures
    (ap (λ (b : Bool). step_of (course b (curve_of l))) t.if-back.true
    ∙ step_back s.requires s.point_count-n.result s.point_count-n.ensures)

pub point_at-requires-else-back : goal.point_at-requires-else-back
point_at-requires-else-back c = (c.requires, omega (arith, two-points c.requires))

pub point_at-requires-else-back-2 : goal.point_at-requires-else-back-2
point_at-requires-else-back-2 c = (c.requires, omega (arith, two-points c.requires))

pub returns-else-back : goal.returns-else-back
returns-else-back c =
    let s = c in
    let l = s.args.c.now in
    along c.point_at-else-back.ensures c.point_at-else-back-2.ensures
    (ap (λ (b : Bool). step_of (course b (curve_of l))) c.if-back.false ∙ step_forward s.requires)
