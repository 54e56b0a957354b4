-- Each turn serves the bytes that it read, at least one.
use Rattle.std.proofs.Common.{◌≤◌, length}
use Rattle.console.specs.Desks.{desk_now, SameLoans}
use Rattle.console.specs.Printed.{Took}
use Rattle.console.proofs.Desk.serve_input.Given as goal

abbrev pub invariant-loop : goal.invariant-loop
invariant-loop g l =
    SameLoans l.initial.self l.self
    × ((took : Took g.R.Read.remaining g.W.Write.contents l.rows l.initial.streams l.streams
    (desk_now l.initial.self) (desk_now l.self))
    × (l.counter ≤ length took.bytes))
