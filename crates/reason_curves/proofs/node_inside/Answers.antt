-- `reason_curves::node_inside` meets its contract: a node from row i on lies inside the curve if and only if one does.
-- Assumes nothing.
use mathlib.Core.Path.{◌≡◌, sym, ap, ◌∙◌}
use mathlib.Core.Bool.{Bool, false, not, ◌&&◌}
use native.Mathlib.Nat.{sub-zero}
use native.Mathlib.Omega.{arith}
use Rattle.lists.specs.Scans.{any_of}
use Rattle.lists.proofs.Scans.{any_hit, any_miss, any_end}
use Rattle.plane.specs.declared.Point.{Point}
use Rattle.curves.specs.Curves.{Curve, curve_of}
use Rattle.curves.specs.Tests.{on_curve}
use Rattle.map.specs.Rows.{Node}
use Rattle.map.specs.Reasons.{node_inside, is_end}
use Rattle.map_rows.specs.Rows.{node_at}
use Rattle.map_rows.proofs.Rows.{nodes_table, node-row_of}
use Rattle.reason_curves.proofs.node_inside.Invariants.{inner}
use Rattle.reason_curves.proofs.node_inside.Goals as goal
use Rattle.reason_curves.proofs.node_inside.Goals.{else-on_curve-via-then-on_curve+else-not-is_end, else-on_curve-via-else-on_curve}

-- what the tests of a point answered
told : (c : Curve) {p q : Point} {r s v : Bool} → p ≡ q → r ≡ on_curve c p → s ≡ is_end c p → r && not s ≡ v → inner c q
    ≡ v
told c ep er es e = rw (← ep, ← er, ← es) e

pub loop-i-init : goal.loop-i-init
unfolding node_inside
loop-i-init c = (
  omega arith,
  rw sub-zero
      (ap (any_of (λ (d : Node). inner (curve_of c.args.c.now) d.at))
      (sym (nodes_table c.args.nodes.rows.now c.args.nodes.count))),
)

pub returns-then-not-is_end : goal.returns-then-not-is_end
returns-then-not-is_end c =
    let a = c.args in
    let e = told (curve_of a.c.now) c.node_point-p.ensures.0 c.on_curve.ensures c.is_end.ensures
    (rw (c.if-on_curve.true) c.if-not-is_end.true-raw) in
    sym (any_hit (node_at a.nodes.rows.now) _ _ (λ (d : Node). inner (curve_of a.c.now) d.at)
    c.loop-i-test.true e) ∙ c.loop-i.invariant.1

pub loop-i-preserved : goal.loop-i-preserved
loop-i-preserved c =
    let a = c.args in
    let e : inner (curve_of a.c.now) (node_at a.nodes.rows.now c.loop-i.i).at ≡ false =
    elim c.else-on_curve.branch [
      | else-on_curve-via-then-on_curve+else-not-is_end w ↦
          told (curve_of a.c.now) c.node_point-p.ensures.0 c.on_curve.ensures w.is_end.ensures
          (rw (w.if-on_curve.true) w.if-not-is_end.false-raw)
      | else-on_curve-via-else-on_curve w ↦
          rw (← c.node_point-p.ensures.0, ← c.on_curve.ensures, w.if-on_curve.false)
    ] in (
      omega arith,
      sym (any_miss (node_at a.nodes.rows.now) _ _ (λ (d : Node). inner (curve_of a.c.now) d.at)
          c.loop-i-test.true e)
          ∙ c.loop-i.invariant.1,
    )

pub returns : goal.returns
returns c =
    let a = c.args in
    sym (any_end (node_at a.nodes.rows.now) _ _ (λ (d : Node). inner (curve_of a.c.now) d.at) c.loop-i-test.false)
    ∙ c.loop-i.invariant.1

pub node_point-p-requires : goal.node_point-p-requires
node_point-p-requires c = node-row_of c.args.nodes.ranged _ c.loop-i-test.true
