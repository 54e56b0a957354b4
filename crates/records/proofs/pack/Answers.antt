-- Row i goes after the rows before it.
use Rattle.std.proofs.Common.{List, ℤ, ◌*◌, get_or, arith, ap, ◌∙◌}
use Rattle.std.proofs.Math.Seq.{paste}
use Rattle.records.specs.Records.{record_cells}
use Rattle.records.proofs.Packing.{no_node, pack-turn}
use Rattle.records.proofs.pack.Goals as goal

pub loop-i-preserved : goal.loop-i-preserved
loop-i-preserved c =
    let ys = c.args.nodes.now in
    let i = c.loop-i.i in
    c.put_row.ensures
    ∙ ap (λ (l : List ℤ). paste l (i * 4) (record_cells (get_or ys i no_node)) 4) c.loop-i.invariant
    ∙ pack-turn c.args.flat.now ys i c.loop-i-test.true c.requires
