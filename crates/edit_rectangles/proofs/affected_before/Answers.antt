-- `edit_rectangles::affected_before` meets its contract. Assumes nothing.
use borrow.Author.Rules.{rules}
use mathlib.Core.Path.{◌≡◌, refl, sym, ap, ap₂, ◌∙◌}
use mathlib.Core.List.{List}
use Prim.Native.Nat.{ℕ, zero, suc}
use lib.IntN.{ℤ, pos}
use lib.ListN.{get_or}
use Rattle.integers.specs.Signs.{sent}
use Rattle.edit_rectangles.specs.FacePairs.{both, no_pair, pair_named, affected_before}
use Rattle.edit_rectangles.specs.declared.FacePair.{FacePair}
use Rattle.edit_rectangles.proofs.affected_before.Lts as lts
use Rattle.edit_rectangles.proofs.affected_before.Tie as tie
use Rattle.edit_rectangles.proofs.affected_before.Reads as reads
use Rattle.edit_rectangles.proofs.affected_before.Goals as goal

-- places in the code, by their names in what is generated
abbrev After-pair_of-s : Type 0
After-pair_of-s = lts.After-pair_of tie.the-claims reads.Pre reads.Post

-- two edges or more
two-named : (k : ℕ) (l : List ℤ) (n : ℕ) (t : List ℤ) → (k ≡ 0 → ⊥) → (k ≡ 1 → ⊥)
    → both (pair_named l n (get_or t 1 (pos 0))) (pair_named l n (get_or t 2 (pos 0))) ≡ affected_before k l n t
two-named zero l n t h g = absurd (h refl)
two-named (suc zero) l n t h g = absurd (g refl)
two-named (suc (suc k)) l n t h g = refl

pub returns-then-named-eq0 : goal.returns-then-named-eq0
returns-then-named-eq0 c = let a = c.args in
    c.both.ensures
    ∙ sym (ap (λ (k : ℕ). affected_before k a.edges.now a.count a.t.now) c.if-named-eq0.true)

first : (c : After-pair_of-s) → let a = c.args in
    c.pair_of-s.result ≡ pair_named a.edges.now a.count (get_or a.t.now 1 (pos 0))
first c = let a = c.args in
    c.pair_of-s.ensures ∙ ap (pair_named a.edges.now a.count)
    (sent {z = get_or a.t.now 1 (pos 0)} c.pair_of-arg-1.given)

pub returns-then-named-eq1 : goal.returns-then-named-eq1
returns-then-named-eq1 c =
    let d = c.before.before in
    let a = d.args in
    c.both-then-named-eq1.ensures ∙ ap (λ (u : FacePair). both u no_pair) (first d)
    ∙ sym (ap (λ (k : ℕ). affected_before k a.edges.now a.count a.t.now) c.if-named-eq1.true)

pub returns : goal.returns
returns c =
    let e = c in
    let d = c.before.before.before.before in
    let s = d in
    let a = s.args in
    c.both-2.ensures
    ∙ ap₂ both (first d) (c.pair_of.ensures
    ∙ ap (pair_named a.edges.now a.count) (sent {z = get_or a.t.now 2 (pos 0)} e.pair_of-arg-2-1.given))
    ∙ two-named a.named a.edges.now a.count a.t.now s.if-named-eq0.false e.if-named-eq1.false
