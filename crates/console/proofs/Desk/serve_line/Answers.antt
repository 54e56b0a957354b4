use Rattle.std.proofs.Common.{◌≡◌, List, ℕ, ap, ◌∙◌, subst}
use Rattle.map.specs.Rows.{lent}
use Rattle.map.specs.Ticket.{Outcome}
use Rattle.console.specs.Lines.{line_answered}
use Rattle.console.specs.Texts.{done_text}
use Rattle.console.specs.Wrote.{Wrote}
use Rattle.console.proofs.Lines.{same_desk}
use Rattle.console.proofs.Desk.serve_line.Goals as goal

pub returns-clause-leaves : goal.returns-clause-leaves
returns-clause-leaves g c =
    let d = c.args.self.now in
    let before = lent d.nodes.now d.edges.now d.faces.now d.head in
    let answered : _ ≡ line_answered before d.line.items = c.answer_line-done.ensures ∙ ap (line_answered before) c.as_slice.ensures.value in
    same_desk (ap (λ (o : Outcome). o.lent) answered) c.clear.ensures

pub returns-clause-writes : goal.returns-clause-writes
returns-clause-writes g c =
    let a = c.args in
    let d = a.self.now in
    let w = c.write_done in
    let before = lent d.nodes.now d.edges.now d.faces.now d.head in
    let answered : _ ≡ line_answered before d.line.items = c.answer_line-done.ensures ∙ ap (line_answered before) c.as_slice.ensures.value in
    subst (λ (o : Outcome). Wrote g.W.Write.contents a.streams.now w.new.streams (done_text a.rows o)) answered w.ensures
