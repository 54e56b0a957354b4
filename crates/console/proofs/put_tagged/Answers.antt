-- A letter, the numbers of a row and a line end fit the buffer.
use Rattle.std.proofs.Common.{arith}
use Rattle.std.proofs.Math.ListN.{length-set}
use Rattle.console.proofs.Texts.{tagged_put}
use Rattle.console.proofs.put_tagged.Goals as goal

pub returns : goal.returns
returns c =
    let a = c.args in
    let w = c.write_row in
    tagged_put a.out.now w.new.out a.tag w.result a.row.now w.ensures.0 w.ensures.1 c.requires
    (omega (arith, length-set a.out.now 0 a.tag))
