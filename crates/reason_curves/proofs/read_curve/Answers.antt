-- `reason_curves::read_curve` meets its contract: each test answers its reason, in order. Assumes nothing.
use mathlib.Core.Path.{sym, ◌∙◌}
use Rattle.map.specs.Reasons.{first_reason}
use Rattle.curves.proofs.Runs.{run_wider}
use Rattle.reason_curves.proofs.read_curve.Goals as goal

pub returns-then-not-is_run-clause-refused : goal.returns-then-not-is_run-clause-refused
unfolding first_reason
returns-then-not-is_run-clause-refused c = rw (← c.is_run.ensures, c.if-not-is_run.true)

pub returns-then-not-neighbours_differ-clause-refused : goal.returns-then-not-neighbours_differ-clause-refused
unfolding first_reason
returns-then-not-neighbours_differ-clause-refused c =
    rw (
      ← c.is_run.ensures,
      c.if-not-is_run.false,
      ← c.neighbours_differ.ensures,
      c.if-not-neighbours_differ.true,
    )

pub returns-clause-refused : goal.returns-clause-refused
unfolding first_reason
returns-clause-refused c =
    rw (
      ← c.is_run.ensures,
      c.if-not-is_run.false,
      ← c.neighbours_differ.ensures,
      c.if-not-neighbours_differ.false,
    )

pub neighbours_differ-requires : goal.neighbours_differ-requires
neighbours_differ-requires c = record {
  is = run_wider c.requires c.args.sent.now
      (sym c.is_run.ensures ∙ c.if-not-is_run.false);
}

pub without_surplus-requires : goal.without_surplus-requires
without_surplus-requires c = let r = c.is_run in
    record {
      is = run_wider c.requires
          c.args.sent.now
          (sym r.ensures ∙ c.if-not-is_run.false);
    }
