-- More nodes than a map may have are turned down.
use Rattle.std.proofs.Common.{refl, sym}
use Rattle.map.specs.Rows.{lent}
use Rattle.records.specs.Records.{node_table}
use Rattle.records.proofs.Refused.{crowded}
use Rattle.records.proofs.ticket_on.Goals as goal

pub returns-then-nodes-gt-NODES : goal.returns-then-nodes-gt-NODES
returns-then-nodes-gt-NODES c =
    let a = c.args in
    rw c.from.ensures (sym (crowded (lent (node_table a.nodes.now) a.edges.now a.faces.now a.head.now) a.t.now a.nodes.now refl
    c.if-nodes-gt-NODES.true))
