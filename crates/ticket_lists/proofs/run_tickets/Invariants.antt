-- What the tickets left give, with what is written so far, is what all give.
use lib.ListN.{drop}
use Rattle.map.specs.Rows.{lent}
use Rattle.map.specs.Grow.{after}
use Rattle.ticket_lists.specs.Runs.{tickets_of}
use Rattle.ticket_lists.proofs.Turns.{Left}
use Rattle.ticket_lists.proofs.run_tickets.Given as goal

abbrev pub invariant-loop-i : goal.invariant-loop-i
invariant-loop-i l =
    Left (after (lent l.fn.nodes l.fn.edges l.fn.faces l.fn.h) (tickets_of l.fn.numbers l.fn.lengths))
    (after (lent l.nodes l.edges l.faces l.head) (tickets_of l.left (drop l.i l.fn.lengths)))
    l.i l.fn.refusals l.refusals l.fn.values l.values
