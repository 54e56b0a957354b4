-- `edit_remove::remove_edge` meets its contract: the first reason turns it down, and else the edge goes. Assumes
-- nothing.
use borrow.Author.Rules.{rules}
use mathlib.Core.Path.{refl, sym, ap, ◌∙◌}
use mathlib.Core.Bool.{cond}
use native.Mathlib.Omega.{arith}
use lib.IntN.{ℤ, pos}
use mir.Syntax.{w64}
use mir.Val.{to_z, of_z}
use mir.Facts.{to_z-of_z}
use Rattle.integers.specs.Signs.{sent}
use Rattle.map.specs.Edits.{is_new}
use Rattle.outcomes.proofs.Formed.{edited-carried}
use Rattle.outcomes.proofs.Results.{edited-handed}
use Rattle.outcomes.specs.Variants.{remove_ticket}
use Rattle.edit_remove.proofs.Removal.{removable, removed_lent, removed_value}
use Rattle.edit_remove.proofs.remove_edge.Goals as goal

pub returns-in_err-judged : goal.returns-in_err-judged
returns-in_err-judged c =
    let a = c.args in
    edited-handed a.nodes.now a.edges.now a.faces.now a.h _ _ c.from_residual.ensures.1 (remove_ticket a.how a.edge)
    (sym (rw (to_z-of_z {w = w64} c.ranges.edge) at c.in_err-judged.ensures).refused)

pub remove_and_heal-removed-requires : goal.remove_and_heal-removed-requires
remove_and_heal-removed-requires c =
    let k = rw (to_z-of_z {w = w64} c.ranges.edge) at c.in_ok-judged.ensures in
    removable c.requires c.args.how _ c.args.edge _ k.judged.0 k.judged.1 (sym k.refused)

pub returns : goal.returns
returns c =
    let a = c.args in
    let k = rw (to_z-of_z {w = w64} c.ranges.edge) at c.in_ok-judged.ensures in
    let l = c.remove_and_heal-removed.new in
    let v = c.value_of in
    let face = sent {z = c.remove_and_heal-removed.result.value} (search rules) ∙ c.remove_and_heal-removed.ensures.value in
    edited-carried a.nodes.now a.edges.now a.faces.now a.h (remove_ticket a.how a.edge) l.nodes
    l.edges l.faces c.remove_and_heal-removed.result.head (to_z w64 (of_z w64 v.result))
    refl
    (sym k.refused)
    (removed_lent c.requires a.how _ a.edge _ k.judged.0 k.judged.1 c.remove_and_heal-removed.ensures)
    (removed_value c.requires a.how _ a.edge _ k.judged.0 k.judged.1
    ∙ sym (sent v.type_inv ∙ v.ensures ∙ ap (λ (z : ℤ). cond (is_new a.how) z (pos 0)) face))
