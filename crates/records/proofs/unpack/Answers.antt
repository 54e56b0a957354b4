-- Row i is the table's after the rows before it, and with the last all are.
use Rattle.std.proofs.Common.{List, ◌<◌, ◌≤◌, length, ap, ◌∙◌, slice_set, arith}
use Rattle.records.specs.declared.Node.{Node}
use Rattle.records.specs.Records.{row_node}
use Rattle.records.proofs.Packing.{unpack-turn, unpack-end}
use Rattle.records.proofs.unpack.Goals as goal

pub loop-i-preserved : goal.loop-i-preserved
loop-i-preserved c =
    let l = c.args.flat.now in
    let i = c.loop-i.i in
    let within : i < length c.args.nodes.now = (let h = c.loop-i-test.true in let k = c.loop-i.auto.nodes in omega arith) in
    ap (slice_set c.loop-i.nodes i) c.row_at.ensures
    ∙ ap (λ (zs : List Node). slice_set zs i (row_node l i)) c.loop-i.invariant
    ∙ unpack-turn l c.args.nodes.now i within

pub returns : goal.returns
returns c =
    let l = c.args.flat.now in
    let i = c.loop-i.i in
    let past : length c.args.nodes.now ≤ i = (let h = c.loop-i-test.false in let k = c.loop-i.auto.nodes in omega arith) in
    c.loop-i.invariant ∙ unpack-end l c.args.nodes.now i past
