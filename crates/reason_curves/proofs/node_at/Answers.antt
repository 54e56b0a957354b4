-- `reason_curves::node_at` meets its contract: a row from i on holds another node at the point if and only if one does.
-- Assumes nothing.
use mathlib.Core.Path.{◌≡◌, refl, sym, ◌∙◌}
use mathlib.Core.Bool.{true, false}
use native.Mathlib.Nat.{sub-zero}
use native.Mathlib.Omega.{arith}
use Rattle.lists.proofs.Bools.{same_eq, same_false}
use Rattle.reason_curves.proofs.Points.{met}
use Rattle.lists.proofs.Scans.{any_hit, any_miss, any_end}
use Rattle.map_rows.proofs.Rows.{node-row_of}
use Rattle.reason_curves.proofs.node_at.Invariants.{other}
use Rattle.reason_curves.proofs.node_at.Goals as goal
use Rattle.reason_curves.proofs.node_at.Goals.{else-i-own-via-then-i-own+else-eq, else-i-own-via-else-i-own}

pub returns-then-eq : goal.returns-then-eq
returns-then-eq c =
    let a = c.args in
    let e : other a.nodes.rows.now a.own a.p c.loop-i.i ≡ true = rw (
      same_false _ _ c.if-i-own.true,
      met c.eq.ensures c.node_point.ensures.0 refl c.if-eq.true,
    ) in
    sym (any_hit (λ i. i) _ _ (other a.nodes.rows.now a.own a.p) c.loop-i-test.true e)
    ∙ c.loop-i.invariant.1

pub loop-i-preserved : goal.loop-i-preserved
loop-i-preserved c =
    let a = c.args in
    let e : other a.nodes.rows.now a.own a.p c.loop-i.i ≡ false =
    elim c.else-i-own.branch [
      | else-i-own-via-then-i-own+else-eq w ↦
          rw (same_false _ _ w.if-i-own.true, met w.eq.ensures w.node_point.ensures.0 refl w.if-eq.false)
      | else-i-own-via-else-i-own w ↦ rw (same_eq _ _ w.if-i-own.false)
    ] in (
      omega arith,
      sym (any_miss (λ i. i) _ _ (other a.nodes.rows.now a.own a.p)
          c.loop-i-test.true e) ∙ c.loop-i.invariant.1,
    )

pub returns : goal.returns
returns c =
    let a = c.args in
    sym (any_end (λ i. i) _ _ (other a.nodes.rows.now a.own a.p) c.loop-i-test.false) ∙ c.loop-i.invariant.1

pub loop-i-init : goal.loop-i-init
loop-i-init c = (omega arith, rw sub-zero)

pub node_point-requires : goal.node_point-requires
node_point-requires c = node-row_of c.args.nodes.ranged _ c.loop-i-test.true
