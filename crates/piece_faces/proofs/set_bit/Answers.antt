-- `piece_faces::set_bit` meets its contract. Assumes nothing.
use Prim.Native.Nat.{◌%◌}
use native.Mathlib.Omega.{arith}
use Rattle.piece_faces.proofs.Words.{shifted}
use Rattle.piece_faces.proofs.Matrix.{bit-set}
use Rattle.piece_faces.proofs.set_bit.Goals as goal

pub returns : goal.returns
returns c =
    let a = c.args in
    λ w z h. rw (shifted (a.y % 64) (omega arith))
    (bit-set a.graph.now a.v a.y (omega arith) (omega arith) w z h)
