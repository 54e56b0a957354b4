-- `reason_curves::last_point` meets its contract. Assumes nothing.
use mathlib.Core.Path.{◌∙◌}
use native.Mathlib.Omega.{arith}
use Rattle.curves.proofs.Runs.{two-points}
use Rattle.reason_curves.proofs.Points.{last_at}
use Rattle.reason_curves.proofs.last_point.Goals as goal

pub returns : goal.returns
returns c = (
  c.point_at.ensures.0 ∙ last_at c.requires _ c.point_count.ensures,
  c.point_at.ensures.1,
)

pub overflow_sub-point_count : goal.overflow_sub-point_count
overflow_sub-point_count c = omega (arith, two-points c.requires, c.point_count.ensures)

pub point_at-requires : goal.point_at-requires
point_at-requires c = (c.requires, omega (arith, two-points c.requires, c.point_count.ensures))
