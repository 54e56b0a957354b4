-- `solgwid::solgwid_empty_map` meets its contract: the value is 0. Assumes nothing.
use borrow.Author.Rules.{rules}
use mathlib.Core.Path.{ap, ap₂, ◌∙◌}
use lib.IntN.{ℤ, pos}
use mir.Syntax.{w64}
use mir.Facts.{to_z-of_z}
use Rattle.map.specs.declared.Head.{Head}
use Rattle.map.specs.Rows.{Lent, lent}
use Rattle.map.specs.Ticket.{emptied}
use Rattle.solgwid.proofs.Values.{emptied_told}
use Rattle.solgwid.proofs.solgwid_empty_map.Goals as goal

pub returns : goal.returns
returns c =
    let k = c in
    let s = k in
    let a = s.args in
    let l : Head → Lent = lent a.nodes.now a.edges.now a.faces.now in
    let after : Head → Lent = lent k.empty_map-done.new.nodes k.empty_map-done.new.edges k.empty_map-done.new.faces in
    ap (λ (h : Head). record {
      lent = after h;
      answer = record { refusal = k.empty_map-done.result.answer.refusal; value = pos 0 };
    }) c.put_numbers.ensures
    ∙ emptied_told (l k.from_numbers.result) _ (after k.empty_map-done.result.head)
    k.empty_map-done.result.answer
    k.empty_map-done.ensures
    ∙ ap₂ (λ (h : Head) (z : ℤ). emptied (l h) z) k.from_numbers.ensures
    (to_z-of_z {w = w64} s.ranges.points)
