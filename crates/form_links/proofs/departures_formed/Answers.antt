-- `form_links::departures_formed` meets its contract. Assumes nothing.
use mathlib.Core.Path.{◌≡◌, sym, ap, ◌∙◌}
use mathlib.Core.Bool.{Bool, true, false, cond, ◌&&◌}
use Prim.Native.Nat.{ℕ, ◌*◌}
use native.Mathlib.Omega.{arith}
use lib.ListN.{length-replicate}
use Rattle.lists.specs.Tests.{same}
use Rattle.lists.proofs.Bools.{same_eq, same_false}
use Rattle.map.specs.Form.{bare_marked}
use Rattle.form_links.specs.Chains.{starts_in}
use Rattle.form_links.specs.Drawn.{drawn_map}
use Rattle.form_links.proofs.Links.{zeros}
use Rattle.form_links.proofs.Departures.{bare_is}
use Rattle.form_links.proofs.departures_formed.Goals as goal

-- a mark tells its test
mark-is : (b : Bool) (x : ℕ) → x ≡ cond b 1 0 → same x 1 ≡ b
mark-is true x e = same_eq x 1 e
mark-is false x e = same_false x 1 (λ f. omega arith)

pub departures_differ-requires : goal.departures_differ-requires
departures_differ-requires c = let s = c in
    (s.requires.1, s.requires.3, s.requires.4, (λ p h. omega (arith, s.requires.2, (s.requires.5 p h).0)))

pub returns-then-not-departures_differ : goal.returns-then-not-departures_differ
returns-then-not-departures_differ c =
    let d = c.departures_differ in
    let s = c in
    let m = drawn_map s.args.nodes.now s.args.n s.args.edges.now s.args.count in
    sym (ap (λ (b : Bool). b && bare_marked m)
    (sym (d.ensures s.args.nodes.now s.args.n s.requires.0 s.requires.5)
    ∙ c.if-not-departures_differ.true))

pub mark_starts-requires : goal.mark_starts-requires
mark_starts-requires c = let s = c in
    (s.requires.3, s.requires.4, (λ p h. omega (arith, s.requires.2, (s.requires.5 p h).0, length-replicate {A = ℕ} 1000 0)))

pub returns : goal.returns
returns c =
    let k = c.mark_starts in
    let d = c.departures_differ in
    let s = c in
    let m = drawn_map s.args.nodes.now s.args.n s.args.edges.now s.args.count in
    c.bare_marked.ensures
    ∙ bare_is s.args.starts.now s.requires.0 s.requires.1 s.requires.5 k.new.marks
    (λ i h. mark-is _ _ (k.ensures i ∙ ap (cond (starts_in s.args.starts.now (s.args.count * 2) i) 1)
    (zeros 1000 i)))
    ∙ sym (ap (λ (b : Bool). b && bare_marked m)
    (sym (d.ensures s.args.nodes.now s.args.n s.requires.0 s.requires.5)
    ∙ c.if-not-departures_differ.false))
