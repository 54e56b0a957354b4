use Rattle.std.proofs.Common.{List, ℕ, subst}
use Rattle.console.specs.Texts.{tagged_text}
use Rattle.console.specs.Wrote.{Wrote}
use Rattle.console.proofs.Texts.{text_taken}
use Rattle.console.proofs.write_tagged.Goals as goal

pub returns : goal.returns
returns g c =
    let w = c.write in
    let p = c.put_tagged-end in
    let text = tagged_text c.args.tag c.args.row.now in
    subst (λ (t : List ℕ). Wrote g.W.Write.contents c.args.streams.now w.new.self t)
    (text_taken _ text p.new.out p.result p.ensures) w.ensures
