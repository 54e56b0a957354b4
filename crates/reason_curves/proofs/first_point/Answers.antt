-- `reason_curves::first_point` meets its contract. Assumes nothing.
use mathlib.Core.Path.{◌∙◌}
use native.Mathlib.Omega.{arith}
use Rattle.curves.proofs.Runs.{two-points}
use Rattle.reason_curves.proofs.Points.{first_is}
use Rattle.reason_curves.proofs.first_point.Goals as goal

pub returns : goal.returns
returns c = (c.point_at.ensures.0 ∙ first_is c.requires, c.point_at.ensures.1)

pub point_at-requires : goal.point_at-requires
point_at-requires c = (c.requires, omega (arith, two-points c.requires))
