-- `head::counts_of` meets its contract. Assumes nothing.
use borrow.Author.Rules.{rules}
use mathlib.Core.Path.{◌≡◌, ap, ◌∙◌}
use lib.IntN.{nat_abs}
use mir.Syntax.{w64}
use mir.Val.{to_z, of_z}
use Rattle.head.proofs.counts_of.Goals as goal

pub returns : goal.returns
returns c =
    let h = c.args.h in
    let e₁ : to_z w64 (of_z w64 h.nodes) ≡ h.nodes = search rules in
    let e₂ : to_z w64 (of_z w64 h.edges) ≡ h.edges = search rules in
    let e₃ : to_z w64 (of_z w64 h.faces) ≡ h.faces = search rules in
    let d₁ = c.to_usize.ensures ∙ ap nat_abs e₁ in
    let d₂ = c.to_usize-2.ensures ∙ ap nat_abs e₂ in
    let d₃ = c.to_usize-3.ensures ∙ ap nat_abs e₃ in
    rw (d₁, d₂, d₃)
