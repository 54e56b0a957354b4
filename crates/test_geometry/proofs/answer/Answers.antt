-- A run has two points at least.
use Rattle.std.proofs.Common.{arith}
use Rattle.curves.proofs.Runs.{two-points}
use Rattle.test_geometry.proofs.answer.Goals as goal

pub point_at-c0-requires : goal.point_at-c0-requires
point_at-c0-requires g c = (c.requires.0, omega (arith, two-points c.requires.0))

pub point_at-c1-requires : goal.point_at-c1-requires
point_at-c1-requires g c = (c.requires.0, omega (arith, two-points c.requires.0))

pub point_at-d0-requires : goal.point_at-d0-requires
point_at-d0-requires g c = (c.requires.1, omega (arith, two-points c.requires.1))

pub point_at-d1-requires : goal.point_at-d1-requires
point_at-d1-requires g c = (c.requires.1, omega (arith, two-points c.requires.1))
