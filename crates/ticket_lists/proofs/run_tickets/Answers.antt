-- `ticket_lists::run_tickets` meets its contract. Assumes nothing.
use borrow.Author.Rules.{rules}
use mathlib.Core.Path.{◌≡◌, ap, ◌∙◌}
use Prim.Native.Nat.{◌+◌}
use native.Mathlib.Omega.{arith}
use lib.ListN.{drop}
use mir.Syntax.{w64}
use mir.Val.{SFits}
use mir.Facts.{to_z-of_z}
use Rattle.map.specs.Rows.{lent}
use Rattle.map.specs.Ticket.{ticket}
use Rattle.map.specs.Grow.{after}
use Rattle.outcomes.specs.Outcomes.{outcome}
use Rattle.ticket_lists.specs.Runs.{tickets_of}
use Rattle.ticket_lists.proofs.Turns.{Left, left_all, left-next, left_none}
use Rattle.ticket_lists.proofs.run_tickets.Goals as goal

pub loop-i-init : goal.loop-i-init
loop-i-init c = left_all _ _ _

pub loop-i-preserved : goal.loop-i-preserved
loop-i-preserved c =
    let b = c.loop-i in
    let a = c.args in
    let t = c.ticket-done in
    let fits : SFits w64 t.result.answer.value = search rules in
    let l = lent b.nodes b.edges b.faces b.head in
    let next = left-next l b.left.now a.lengths.now b.i c.min.result (outcome t.new.nodes t.new.edges t.new.faces t.result)
    b.invariant (omega arith) (omega arith) (omega arith) c.min.ensures
    (t.ensures ∙ ap (ticket l) c.split_at.ensures.front) in
    rw (c.split_at.ensures.back, to_z-of_z {w = w64} fits) next

pub returns : goal.returns
returns c g e =
    let b = c.loop-i in
    rw e (left_none (lent b.nodes b.edges b.faces b.head) b.left.now c.args.lengths.now b.i b.invariant
    (omega arith) (omega arith) (omega arith))
