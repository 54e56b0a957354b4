-- The numbers at the front of the list are the line's ticket.
use Rattle.std.proofs.Common.{◌≡◌, ◌≤◌, ap, ◌∙◌, length, take}
use Rattle.std.specs.Prelude.{pos, replicate}
use Rattle.map.specs.Rows.{lent}
use Rattle.map.specs.Ticket.{ticket}
use Rattle.text.specs.Lines.{line_numbers}
use Rattle.console.specs.Lines.{line_ticket, line_answered}
use Rattle.console.proofs.Lines.{parsed_numbers}
use Rattle.console.proofs.answer_line.Goals as goal

pub returns : goal.returns
unfolding line_answered
returns c =
    let a = c.args in
    let line = a.line.now in
    let list = c.parse.new.list in
    let numbers : (c.unwrap_or-n.result ≤ length list) × (take c.unwrap_or-n.result list ≡ line_ticket line) =
    rw c.unwrap_or-n.ensures
    (parsed_numbers (line_numbers line) (replicate 500 (pos 0)) c.parse.result list c.parse.ensures) in
    c.ticket.ensures ∙ ap (ticket (lent a.nodes.now a.edges.now a.faces.now a.h)) numbers.1
