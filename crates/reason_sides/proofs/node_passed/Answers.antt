-- `reason_sides::node_passed` meets its contract: an isolated node from row k on is passed over if and only if one is.
-- Assumes nothing.
use mathlib.Core.Path.{◌≡◌, sym, ap, ap₂, ◌∙◌}
use mathlib.Core.Bool.{Bool, true, false, ◌&&◌}
use native.Mathlib.Nat.{sub-zero}
use native.Mathlib.Omega.{arith}
use Rattle.lists.specs.Scans.{any_of, is_some}
use Rattle.lists.proofs.Scans.{any_hit, any_miss, any_end}
use Rattle.lists.proofs.Keeps.{any_kept}
use Rattle.plane.specs.declared.Point.{Point}
use Rattle.curves.specs.Curves.{Curve, curve_of}
use Rattle.map.specs.Rows.{Node}
use Rattle.map.specs.Reasons.{isolated_points}
use Rattle.map_rows.specs.Rows.{node_at, nodes_of}
use Rattle.map_rows.proofs.Rows.{nodes_table, node-row_of}
use Rattle.reason_sides.specs.Passing.{passes_over}
use Rattle.reason_sides.proofs.node_passed.Invariants.{passed}
use Rattle.reason_sides.proofs.node_passed.Goals as goal
use Rattle.reason_sides.proofs.node_passed.Goals.{else-is_isolated-via-then-is_isolated+else-passes_over}
use Rattle.reason_sides.proofs.node_passed.Goals.{else-is_isolated-via-else-is_isolated}

-- what the tests of row k answered
told : (a b : Curve) (d : Node) {x y v : Bool} {p : Point} → x ≡ is_some d.face → x ≡ true → p ≡ d.at
    → y ≡ passes_over a b p → y ≡ v → passed a b d ≡ v
told a b d ex e ep ey v = ap₂ ◌&&◌ (sym ex ∙ e) (sym (ey ∙ ap (passes_over a b) ep)) ∙ v

pub loop-k-init : goal.loop-k-init
unfolding isolated_points
loop-k-init c =
    let a = c.args in (
      omega arith,
      rw sub-zero
          (ap (any_of (passed (curve_of a.a.now) (curve_of a.b.now))) (sym (nodes_table a.nodes.rows.now a.nodes.count))
          ∙ sym (any_kept (passes_over (curve_of a.a.now) (curve_of a.b.now)) (λ (d : Node). d.at)
          (λ (d : Node). is_some d.face) (nodes_of a.nodes.rows.now a.nodes.count))),
    )

pub returns-then-passes_over : goal.returns-then-passes_over
returns-then-passes_over c =
    let k = c in
    let b = k in
    let a = b.args in
    let old = curve_of a.a.now in
    let new = curve_of a.b.now in
    sym (any_hit (node_at a.nodes.rows.now) _ _ (passed old new) b.loop-k-test.true
    (told old new (node_at a.nodes.rows.now b.loop-k.k) k.is_isolated.ensures
    c.if-is_isolated.true c.node_point.ensures.0
    c.passes_over.ensures c.if-passes_over.true)) ∙ b.loop-k.invariant.1

pub loop-k-preserved : goal.loop-k-preserved
loop-k-preserved c =
    let a = c.args in
    let d = node_at a.nodes.rows.now c.loop-k.k in
    let old = curve_of a.a.now in
    let new = curve_of a.b.now in
    let e : passed old new d ≡ false =
    elim c.else-is_isolated.branch [
      | else-is_isolated-via-then-is_isolated+else-passes_over w ↦ told old new d c.is_isolated.ensures
          w.if-is_isolated.true w.node_point.ensures.0 w.passes_over.ensures w.if-passes_over.false
      | else-is_isolated-via-else-is_isolated w ↦ ap (λ (x : Bool). x && passes_over old new d.at)
          (sym c.is_isolated.ensures ∙ w.if-is_isolated.false)
    ] in (
      omega arith,
      sym (any_miss (node_at a.nodes.rows.now) _ _ (passed old new) c.loop-k-test.true e) ∙ c.loop-k.invariant.1,
    )

pub returns : goal.returns
returns c =
    let a = c.args in
    sym (any_end (node_at a.nodes.rows.now) _ _ (passed (curve_of a.a.now) (curve_of a.b.now))
    c.loop-k-test.false) ∙ c.loop-k.invariant.1

pub is_isolated-requires : goal.is_isolated-requires
is_isolated-requires c = node-row_of c.args.nodes.ranged _ c.loop-k-test.true

pub node_point-requires : goal.node_point-requires
node_point-requires c = node-row_of c.args.nodes.ranged _ c.loop-k-test.true

pub passes_over-requires : goal.passes_over-requires
passes_over-requires c = let s = c in
    (s.requires.0, s.requires.1, c.node_point.ensures.1)
