-- `reason_curves::ends_on` meets its contract: the points that are compared are those of the curve's ends and of the
-- nodes. Assumes nothing.
use mathlib.Core.Path.{refl}
use Rattle.reason_curves.proofs.Points.{met}
use Rattle.reason_curves.proofs.ends_on.Goals as goal

pub returns-then-eq : goal.returns-then-eq
returns-then-eq c =
    rw (
      met c.eq.ensures c.first_point.ensures.0 c.node_point.ensures.0 c.if-eq.true,
      met c.eq-then-eq.ensures c.last_point.ensures.0 c.node_point-then-eq.ensures.0 refl,
    )

pub returns-else-eq : goal.returns-else-eq
returns-else-eq c =
    rw (c.if-eq.false, met c.eq.ensures c.first_point.ensures.0 c.node_point.ensures.0 c.if-eq.false)

pub first_point-requires : goal.first_point-requires
first_point-requires c = c.requires.2

pub node_point-requires : goal.node_point-requires
node_point-requires c = c.requires.0

pub last_point-requires : goal.last_point-requires
last_point-requires c = c.requires.2

pub node_point-requires-then-eq : goal.node_point-requires-then-eq
node_point-requires-then-eq c = c.requires.1
