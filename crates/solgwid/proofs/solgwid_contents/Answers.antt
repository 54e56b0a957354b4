-- `solgwid::solgwid_contents` meets its contract. Assumes nothing.
use borrow.Author.Rules.{rules, sfits_of}
use mathlib.Core.Path.{ap, ◌∙◌}
use lib.IntN.{ℤ}
use mir.Syntax.{w64}
use mir.Facts.{to_z-of_z}
use Rattle.map.specs.declared.Head.{Head}
use Rattle.map.specs.Rows.{lent}
use Rattle.nesting.specs.Contents.{contents_of}
use Rattle.solgwid.proofs.solgwid_contents.Goals as goal

pub returns : goal.returns
returns c =
    let k = c in
    let a = k.args in
    ap (λ (z : ℤ). record {
      list = k.contents-answer.new.list;
      answer = record { refusal = k.contents-answer.result.refusal; value = z };
    }) (to_z-of_z {w = w64} (sfits_of c.struct_told-1.given.1.0.1))
    ∙ k.contents-answer.ensures
    ∙ ap (λ (h : Head). contents_of (lent a.nodes.now a.edges.now a.faces.now h) a.list.now)
    k.from_numbers.ensures
