-- `piece_labels::flatten` meets its contract: the rows that are passed have the label of their root. Assumes nothing.
use native.Mathlib.Omega.{arith}
use Rattle.piece_labels.proofs.Flats.{flat_end, flat_more}
use Rattle.piece_labels.proofs.flatten.Goals as goal

pub loop-i-preserved : goal.loop-i-preserved
loop-i-preserved c = (omega arith, flat_more c.loop-i.invariant.1 c.loop-i-test.true)

pub returns : goal.returns
returns c = flat_end c.loop-i-test.false c.loop-i.invariant.1
