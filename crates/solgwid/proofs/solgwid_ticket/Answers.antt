-- `solgwid::solgwid_ticket` meets its contract: the head is read and put back. Assumes nothing.
use borrow.Author.Rules.{rules, sfits_of}
use mathlib.Core.Path.{ap, ◌∙◌}
use lib.IntN.{ℤ}
use mir.Syntax.{w64}
use mir.Val.{to_z, of_z}
use mir.Facts.{to_z-of_z}
use Rattle.map.specs.declared.Head.{Head}
use Rattle.map.specs.Rows.{Lent, lent}
use Rattle.map.specs.Ticket.{ticket}
use Rattle.solgwid.proofs.solgwid_ticket.Goals as goal

pub returns : goal.returns
returns c =
    let k = c in
    let a = k.args in
    let l : Head → Lent = lent a.nodes.now a.edges.now a.faces.now in
    let after : Head → Lent = lent k.ticket-done.new.nodes k.ticket-done.new.edges k.ticket-done.new.faces in
    ap (λ (h : Head). record {
      lent = after h;
      answer =
          record {
            refusal = k.ticket-done.result.answer.refusal;
            value = to_z w64 (of_z w64 k.ticket-done.result.answer.value);
          };
    }) c.put_numbers.ensures
    ∙ ap (λ (z : ℤ). record {
      lent = after k.ticket-done.result.head;
      answer = record { refusal = k.ticket-done.result.answer.refusal; value = z };
    }) (to_z-of_z {w = w64} (sfits_of c.struct_told-1.given.1.0.1.1.1.0.1))
    ∙ k.ticket-done.ensures
    ∙ ap (λ (h : Head). ticket (l h) a.numbers.now) k.from_numbers.ensures
