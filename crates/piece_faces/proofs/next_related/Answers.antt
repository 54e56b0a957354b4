-- `piece_faces::next_related` meets its contract. Assumes nothing.
use mathlib.Core.Path.{sym, ap, ◌∙◌}
use Prim.Native.Nat.{◌+◌, ◌*◌, ◌/◌}
use native.Mathlib.Omega.{arith}
use Rattle.piece_faces.specs.Bits.{first_of, words}
use Rattle.piece_faces.proofs.Rows.{row_word, row_end, low_hit, low_miss}
use Rattle.piece_faces.proofs.next_related.Goals as goal

pub loop-y-preserved-then-rest-eq0 : goal.loop-y-preserved-then-rest-eq0
loop-y-preserved-then-rest-eq0 c =
    let a = c.args in
    c.loop-y.invariant ∙ row_word a.graph.now a.v a.but c.loop-y.y (omega arith) c.if-rest-eq0.true

pub returns-then-y-but : goal.returns-then-y-but
returns-then-y-but c =
    let a = c.args in
    let y = c.loop-y.y in
    let word = c.type_inv.graph (a.v * words + y / 64) in
    sym (ap first_of (c.loop-y.invariant
    ∙ low_hit a.graph.now a.v a.but y (omega arith) (omega (arith, word)) c.if-rest-eq0.false c.if-y-but.true))

pub loop-y-preserved : goal.loop-y-preserved
loop-y-preserved c =
    let a = c.args in
    let y = c.loop-y.y in
    let word = c.type_inv.graph (a.v * words + y / 64) in
    c.loop-y.invariant
    ∙ low_miss a.graph.now a.v a.but y (omega arith) (omega (arith, word)) c.if-rest-eq0.false c.if-y-but.false

pub returns : goal.returns
returns c =
    let a = c.args in
    sym (ap first_of (c.loop-y.invariant ∙ row_end a.graph.now a.v a.but c.loop-y.y (omega arith)))
