use borrow.Author.Rules.{sfits_of}
use Rattle.std.proofs.Common.{rules, to_z-of_z, ◌≡◌, ◌+◌, ◌*◌, ◌∙◌, List, ℕ, get_or, subst}
use Rattle.std.specs.Prelude.{ℤ, pos}
use mir.Syntax.{w64}
use mir.Val.{of_z, to_z}
use Rattle.console.specs.Wrote.{Wrote}
use Rattle.console.proofs.Texts.{text_taken}
use Rattle.outline.specs.Lines.{line_text}
use Rattle.outline.proofs.write_line.Goals as goal

-- the three numbers are handed on as they are
pub returns : goal.returns
returns g c =
    let list = c.args.list.now in
    let at = c.args.i * 3 in
    let p = c.put_line-end in
    let w = c.write in
    let depth : to_z w64 (of_z w64 (get_or list at (pos 0))) ≡ get_or list at (pos 0) = search (rules, to_z-of_z {w = w64}, sfits_of) in
    let kind : to_z w64 (of_z w64 (get_or list (at + 1) (pos 0))) ≡ get_or list (at + 1) (pos 0) = search (rules, to_z-of_z {w = w64}, sfits_of) in
    let number : to_z w64 (of_z w64 (get_or list (at + 2) (pos 0))) ≡ get_or list (at + 2) (pos 0) = search (rules, to_z-of_z {w = w64}, sfits_of) in
    subst (λ (t : List ℕ). Wrote g.W.Write.contents c.args.streams.now w.new.self t)
    (text_taken _ _ p.new.out p.result p.ensures ∙ (λ i. line_text (depth i) (kind i) (number i))) w.ensures
