use borrow.Author.Rules.{sfits_of}
use Rattle.std.proofs.Common.{to_z-of_z, ◌≡◌, ◌/◌, ◌∙◌, rules, ℕ, ap, subst}
use Rattle.std.specs.Prelude.{ℤ}
use mir.Syntax.{w64}
use mir.Val.{of_z, to_z}
use Rattle.map.specs.Ticket.{Listed}
use Rattle.console.specs.Texts.{clamp_len}
use Rattle.console.specs.Wrote.{Wrote}
use Rattle.outline.specs.Lines.{lines_text, contents_text}
use Rattle.outline.proofs.write_contents.Goals as goal

pub returns-clause-writes : goal.returns-clause-writes
unfolding contents_text
returns-clause-writes g c =
    let a = c.contents-answer in
    let w = c.write_lines in
    let value = a.result.value in
    let read : to_z w64 (of_z w64 value) ≡ value = search (rules, to_z-of_z {w = w64}, sfits_of) in
    let count = c.clamp.ensures.0 ∙ ap (λ (z : ℤ). clamp_len z 1200) read in
    subst (λ (l : Listed). Wrote g.W.Write.contents c.args.streams.now w.new.streams (contents_text l)) a.ensures
    (subst (λ (n : ℕ). Wrote g.W.Write.contents c.args.streams.now w.new.streams (lines_text a.new.list (n / 3))) count
    w.ensures)
