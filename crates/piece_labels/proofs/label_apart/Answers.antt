-- `piece_labels::label_apart` meets its contract: the rows that are passed lead to themselves. Assumes nothing.
use native.Mathlib.Omega.{arith}
use Rattle.piece_labels.proofs.Flats.{apart, apart_more}
use Rattle.piece_labels.proofs.label_apart.Goals as goal

pub loop-i-preserved : goal.loop-i-preserved
loop-i-preserved c = apart_more c.loop-i.labels c.loop-i.i (omega arith) c.loop-i.invariant

pub returns : goal.returns
returns c =
    let l = c.loop-i in
    apart c.args.nodes.now c.args.n l.labels (omega (arith, l.auto.labels, c.requires.1))
    (λ j t. l.invariant j (omega (arith, c.loop-i-test.false, c.requires.1)))

pub overflow_cast-label : goal.overflow_cast-label
overflow_cast-label c = omega (arith, c.loop-i-test.true, c.requires.0, c.requires.1)
