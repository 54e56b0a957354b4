-- `solgwid::solgwid_edges_of_face` meets its contract. Assumes nothing.
use borrow.Author.Rules.{rules, sfits_of}
use mathlib.Core.Path.{ap, ◌∙◌}
use lib.IntN.{ℤ}
use mir.Syntax.{w64}
use mir.Val.{to_z, of_z}
use mir.Facts.{to_z-of_z}
use Rattle.map.specs.declared.Head.{Head}
use Rattle.map.specs.Rows.{Lent, lent}
use Rattle.map.specs.Ticket.{edges_of_face}
use Rattle.head.specs.Heads.{head_in}
use Rattle.solgwid.proofs.solgwid_edges_of_face.Goals as goal

pub returns : goal.returns
returns c =
    let k = c in
    let a = k.args in
    let l : Head → Lent = lent a.nodes.now a.edges.now a.faces.now in
    ap (λ (z : ℤ). record {
      list = k.edges_of_face-answer.new.list;
      answer = record { refusal = k.edges_of_face-answer.result.refusal; value = z };
    }) (to_z-of_z {w = w64} (sfits_of c.struct_told-1.given.1.0.1))
    ∙ k.edges_of_face-answer.ensures
    ∙ ap (λ (h : Head). edges_of_face (l h) (to_z w64 (of_z w64 a.face)) a.list.now)
    k.from_numbers.ensures
    ∙ ap (λ (z : ℤ). edges_of_face (l (head_in a.head.now)) z a.list.now)
    (to_z-of_z {w = w64} k.ranges.face)
