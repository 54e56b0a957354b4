-- `form_links::chain_has_way`, which calls itself, meets its contract. The measure is the link where it stands. Assumes
-- nothing.
use mathlib.Core.Path.{sym, ap, ap₂, ◌∙◌}
use Prim.Native.Nat.{◌-◌, ◌<◌}
use native.Mathlib.Omega.{arith}
use Rattle.plane.specs.Directions.{same_way}
use Rattle.form_links.specs.Chains.{latest}
use Rattle.form_links.proofs.Chains.{latest_again, latest-taken, chain_met, chain_on}
use Rattle.form_links.proofs.+chain_has_way.Goals as goal

pub returns-then-same_way : goal.returns-then-same_way
returns-then-same_way t c =
    -- the test of a link
    let way-is = c.same_way.ensures ∙ ap₂ same_way c.step_at.ensures.way c.step_at-2.ensures.way in
    λ f e backs. sym (chain_met f _ c.args.last c.if-last-eq0.false e (sym way-is ∙ c.if-same_way.true))

pub returns : goal.returns
returns t c =
    let way-is = c.same_way.ensures ∙ ap₂ same_way c.step_at.ensures.way c.step_at-2.ensures.way in
    let last = c.args.last in
    let q = last - 1 in
    let some = c.if-last-eq0.false in
    let h : q < last = omega (arith, some) in
    let below = c.requires.3 q (omega (arith, c.requires.2)) in
    λ f e backs.
    let is = backs q h (latest-taken f last some e) in
    c.chain_has_way.ensures f (is ∙ sym (latest_again f q) ∙ ap (latest f) (sym is)) (λ r k. backs r (omega arith))
    ∙ chain_on f _ last some (sym way-is ∙ c.if-same_way.false) _ is
