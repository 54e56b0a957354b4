use Rattle.std.proofs.Common.{List, ℕ, subst}
use Rattle.console.specs.Texts.{answer_text}
use Rattle.console.specs.Wrote.{Wrote}
use Rattle.console.proofs.Texts.{text_taken}
use Rattle.console.proofs.write_answer.Goals as goal

pub returns : goal.returns
returns g c =
    let w = c.write in
    let p = c.put_answer-end in
    let text = answer_text c.args.answer.refusal c.args.answer.value in
    subst (λ (t : List ℕ). Wrote g.W.Write.contents c.args.streams.now w.new.self t)
    (text_taken _ text p.new.out p.result p.ensures) w.ensures
