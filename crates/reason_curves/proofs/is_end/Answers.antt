-- `reason_curves::is_end` meets its contract. Assumes nothing.
use mathlib.Core.Path.{refl}
use Rattle.reason_curves.proofs.Points.{met}
use Rattle.reason_curves.proofs.is_end.Goals as goal

pub returns-then-eq : goal.returns-then-eq
returns-then-eq c =
    rw (c.if-eq.true, met {p = c.args.p} {q = c.first_point.result} c.eq.ensures refl c.first_point.ensures.0 c.if-eq.true)

pub returns-else-eq : goal.returns-else-eq
returns-else-eq c =
    rw (
      met {p = c.args.p} {q = c.first_point.result} c.eq.ensures refl c.first_point.ensures.0 c.if-eq.false,
      met {p = c.args.p} {q = c.last_point.result} c.eq-else-eq.ensures refl c.last_point.ensures.0 refl,
    )
