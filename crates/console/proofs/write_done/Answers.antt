use Rattle.std.proofs.Common.{append-nil}
use Rattle.map.specs.Rows.{lent}
use Rattle.console.specs.Texts.{answer_text, sheet_text, done_text}
use Rattle.console.proofs.Wrote.{wrote_more}
use Rattle.console.proofs.write_done.Goals as goal

pub returns-then-rows : goal.returns-then-rows
unfolding done_text
returns-then-rows g c =
    let a = c.args in
    let d = a.done in
    let first = answer_text d.answer.refusal d.answer.value in
    let sheet = sheet_text (lent a.nodes.now a.edges.now a.faces.now d.head) in
    let w = c.write_answer in
    rw c.if-rows.true
    (wrote_more g.W.Write.contents a.streams.now w.new.streams c.write_sheet.new.streams first sheet w.ensures
    c.write_sheet.ensures)

pub returns-else-rows : goal.returns-else-rows
unfolding done_text
returns-else-rows g c =
    let a = c.args in
    let d = a.done in
    let first = answer_text d.answer.refusal d.answer.value in
    let w = c.write_answer in
    rw (c.if-rows.false, append-nil first) w.ensures
