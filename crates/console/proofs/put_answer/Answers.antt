-- Digits, a blank, a sign, digits and a line end fit the buffer.
use Rattle.std.proofs.Common.{rules, arith, ◌≡◌}
use mir.Syntax.{w64}
use mir.Val.{of_z, to_z}
use Rattle.integers.specs.Signs.{sent}
use Rattle.printing.proofs.Rows.{natural_few}
use Rattle.console.proofs.Texts.{answer-put}
use Rattle.console.proofs.put_answer.Goals as goal

pub write_row-requires : goal.write_row-requires
write_row-requires c =
    let w = c.write_natural-at in
    omega (arith, w.ensures.1, w.auto.out, natural_few c.args.answer.refusal)

pub returns : goal.returns
returns c =
    let a = c.args in
    let n = c.write_natural-at in
    let w = c.write_row in
    let z = a.answer.value in
    let read : to_z w64 (of_z w64 z) ≡ z = search (rules, sent) in
    answer-put a.out.now n.new.out w.new.out a.answer.refusal n.result w.result z
    n.ensures.0 n.ensures.1
    (rw read at w.ensures.0) (rw read at w.ensures.1) (omega arith)
