-- `piece_faces::relate` meets its contract. Assumes nothing.
use native.Mathlib.Omega.{arith}
use Rattle.piece_faces.proofs.Matrix.{joined}
use Rattle.piece_faces.proofs.relate.Goals as goal

pub returns : goal.returns
returns c =
    let a = c.args in
    joined a.graph.now c.set_bit.new.graph c.set_bit-2.new.graph a.p a.f (omega arith)
    c.set_bit.ensures c.set_bit-2.ensures
