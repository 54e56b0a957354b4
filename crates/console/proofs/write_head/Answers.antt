-- The numbers that are put are read as the head.
use Rattle.std.proofs.Common.{arith, ◌≡◌, List, ap, ◌∙◌, subst}
use Rattle.std.specs.Prelude.{ℤ}
use Rattle.console.specs.Texts.{tagged_text, head_numbers}
use Rattle.console.specs.Wrote.{Wrote}
use Rattle.console.proofs.Texts.{head_numbers_lem}
use Rattle.console.proofs.write_head.Goals as goal

pub returns : goal.returns
returns g c =
    let w = c.write_tagged in
    let n = c.put_numbers in
    let is : n.new.l ≡ head_numbers c.args.h = head_numbers_lem n.new.l (omega arith) ∙ ap head_numbers n.ensures in
    subst (λ (l : List ℤ). Wrote g.W.Write.contents c.args.streams.now w.new.streams (tagged_text 72 l)) is w.ensures
