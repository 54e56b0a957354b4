-- `form_links::joins_alike` meets its contract. Assumes nothing.
use mathlib.Core.Path.{◌≡◌, refl, sym, ap, ◌∙◌}
use mathlib.Core.Bool.{Bool}
use Prim.Native.Nat.{ℕ, ◌+◌, ◌*◌}
use native.Mathlib.Omega.{arith}
use lib.ListN.{get_or, set, length-set}
use lib.Seq.{get_or-set_same, get_or-set_other}
use Rattle.lists.specs.Tests.{same}
use Rattle.form_links.specs.Chains.{latest}
use Rattle.form_links.proofs.Chains.{latest_again, below_latest, chained_leads, last_is, back_is, chained_on}
use Rattle.form_links.proofs.joins_alike.Goals as goal

pub returns-then-c-eq0 : goal.returns-then-c-eq0
returns-then-c-eq0 c =
    let b = c in
    let s = b in
    let p = s.args.p in
    λ f e w.
    let j = e ∙ ap (λ (k : ℕ). s.args.i * 9 + k) (sym b.signs_at.ensures.0) in
    let none = sym (last_is w j) ∙ c.if-c-eq0.true in (
      sym (sym (below_latest (λ q. same (f q) (f p)) _ p) ∙ rw none),
      chained_on w j (omega (arith, c.requires.3, c.requires.1, c.signs_at.ensures)) s.args.back.now
          (w.clear p (omega arith) ∙ sym c.if-c-eq0.true) (λ q d. refl),
    )

pub chain_has_way-requires : goal.chain_has_way-requires
chain_has_way-requires c =
    let d = c in
    let s = d in
    let last = get_or s.args.last.now (s.args.i * 9 + d.signs_at.result) 0 in (
      s.requires.0,
      omega (arith, length-set s.args.back.now s.args.p last, s.requires.2, s.requires.4),
      s.requires.5.lasts (s.args.i * 9 + d.signs_at.result),
      (λ q h. rw (get_or-set_other s.args.back.now s.args.p q last 0 (λ e. omega arith)) (s.requires.5.backs q h)),
    )

pub returns : goal.returns
returns c =
    let d = c in
    let b = d in
    let s = b in
    let p = s.args.p in
    λ f e w.
    let j = e ∙ ap (λ (k : ℕ). s.args.i * 9 + k) (sym b.signs_at.ensures.0) in
    let link = get_or s.args.last.now (s.args.i * 9 + b.signs_at.result) 0 in
    let is = last_is w j in
    let from : ℕ → Bool = λ q. same (f q) (f p) in
    let others : (q : ℕ) → (q ≡ p → ⊥) → get_or (set s.args.back.now p link) q 0 ≡ get_or s.args.back.now q 0 =
    λ q d. get_or-set_other s.args.back.now p q link 0 d in
    let le = (chained_leads w).lasts (s.args.i * 9 + b.signs_at.result) in (
      c.chain_has_way.ensures from (is ∙ sym (latest_again from p) ∙ ap (latest from) (sym is))
          (λ q h g. others q (λ e. omega arith) ∙ back_is w q (omega arith) g)
          ∙ rw is (below_latest from _ p),
      chained_on w j (omega (arith, c.requires.3, c.requires.1, c.signs_at.ensures)) (set s.args.back.now p link)
          (get_or-set_same s.args.back.now p link 0 (omega (arith, s.requires.2, s.requires.4))) others,
    )

pub signs_at-requires : goal.signs_at-requires
signs_at-requires c = c.requires.0 c.args.p (omega arith)
