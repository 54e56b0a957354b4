-- The bytes from b on are still to come.
use Rattle.std.proofs.Common.{◌≡◌, List, ℕ, ◌++◌, drop}
use Rattle.lists.specs.Scans.{fold}
use Rattle.console.specs.Desks.{desk_now, SameLoans}
use Rattle.console.specs.Lines.{served}
use Rattle.console.specs.Wrote.{Wrote}
use Rattle.console.specs.Printed.{printed}
use Rattle.console.proofs.Desk.serve_bytes.Given as goal

abbrev pub invariant-loop-b : goal.invariant-loop-b
invariant-loop-b g l =
    let start = desk_now l.initial.self in
    let now = desk_now l.self in
    let rest = drop l.b-index l.bytes in
    SameLoans l.initial.self l.self
    × (fold served start l.bytes ≡ fold served now rest)
    × ((text : List ℕ) × Wrote g.W.Write.contents l.initial.streams l.streams text
    × (printed l.rows start l.bytes ≡ text ++ printed l.rows now rest))
