-- The ticket on the table is the one on the nodes: packed, the first numbers are the nodes'; unpacked, the nodes are the
-- first numbers.
use Rattle.std.proofs.Common.{ℤ, List, ◌*◌, ◌≤◌, length, take, arith, ap, ◌∙◌}
use Rattle.map.specs.Rows.{lent}
use Rattle.map.specs.Ticket.{ticket}
use Rattle.outcomes.specs.Outcomes.{outcome}
use Rattle.records.specs.Records.{node_table}
use Rattle.records.proofs.Packing.{packed, unpacked}
use Rattle.records.proofs.ticket_by.Goals as goal

pub returns : goal.returns
returns c =
    let a = c.args in
    let t = c.ticket_front-done in
    let n = length a.nodes.now in
    let room : n * 4 ≤ length t.new.flat =
    (let k = c.requires in let p = c.pack.auto.flat in let q = t.auto.flat in omega arith) in
    (λ j. record {
      lent = lent (node_table (c.unpack.ensures j)) t.new.edges t.new.faces t.result.head;
      answer = t.result.answer;
    })
    ∙ ap (λ (v : List ℤ). outcome v t.new.edges t.new.faces t.result) (unpacked t.new.flat n room)
    ∙ t.ensures
    ∙ ap (λ (v : List ℤ). ticket (lent v a.edges.now a.faces.now a.head.now) a.t.now)
    (ap (take (n * 4)) c.pack.ensures ∙ packed a.flat.now a.nodes.now c.requires)
