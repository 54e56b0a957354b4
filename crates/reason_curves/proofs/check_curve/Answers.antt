-- `reason_curves::check_curve` meets its contract: each test answers its reason, in order. Assumes nothing.
use Rattle.map.specs.Reasons.{first_reason}
use Rattle.reason_curves.proofs.check_curve.Goals as goal

pub returns-then-not-is_simple : goal.returns-then-not-is_simple
unfolding first_reason
returns-then-not-is_simple c = rw (← c.is_simple.ensures, c.if-not-is_simple.true)

pub returns-then-not-ends_on : goal.returns-then-not-ends_on
unfolding first_reason
returns-then-not-ends_on c = rw (
  ← c.is_simple.ensures,
  c.if-not-is_simple.false,
  ← c.ends_on.ensures,
  c.if-not-ends_on.true,
)

pub returns : goal.returns
unfolding first_reason
returns c = rw (
  ← c.is_simple.ensures,
  c.if-not-is_simple.false,
  ← c.ends_on.ensures,
  c.if-not-ends_on.false,
)

pub is_simple-requires : goal.is_simple-requires
is_simple-requires c = c.requires.2

pub ends_on-requires : goal.ends_on-requires
ends_on-requires c = c.requires
