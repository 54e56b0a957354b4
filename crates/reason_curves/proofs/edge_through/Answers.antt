-- `reason_curves::edge_through` meets its contract: an edge from row i on passes through the point if and only if one
-- does. Assumes nothing.
use mathlib.Core.Path.{sym, ap, ◌∙◌}
use native.Mathlib.Nat.{sub-zero}
use native.Mathlib.Omega.{arith}
use Rattle.lists.specs.Scans.{any_of}
use Rattle.lists.proofs.Scans.{any_hit, any_miss, any_end}
use Rattle.curves.specs.Curves.{Curve}
use Rattle.curves.specs.Tests.{on_curve}
use Rattle.map.specs.Reasons.{edge_through}
use Rattle.map_rows.specs.Rows.{edge_at}
use Rattle.map_rows.proofs.Rows.{edges_table, edge-row_of}
use Rattle.reason_curves.proofs.edge_through.Invariants.{through}
use Rattle.reason_curves.proofs.edge_through.Goals as goal

pub loop-i-init : goal.loop-i-init
unfolding edge_through
loop-i-init c = (
  omega arith,
  rw sub-zero
      (ap (any_of (through c.args.p)) (sym (edges_table c.args.edges.rows.now c.args.edges.count))),
)

pub returns-then-on_curve : goal.returns-then-on_curve
returns-then-on_curve c =
    let a = c.args in
    let e = sym (c.on_curve.ensures
    ∙ ap (λ (d : Curve). on_curve d a.p) c.curve_of.ensures.1) ∙ c.if-on_curve.true in
    sym (any_hit (edge_at a.edges.rows.now) _ _ (through a.p) c.loop-i-test.true e)
    ∙ c.loop-i.invariant.1

pub loop-i-preserved : goal.loop-i-preserved
loop-i-preserved c =
    let a = c.args in
    let e = sym (c.on_curve.ensures
    ∙ ap (λ (d : Curve). on_curve d a.p) c.curve_of.ensures.1) ∙ c.if-on_curve.false in (
      omega arith,
      sym (any_miss (edge_at a.edges.rows.now) _ _ (through a.p)
          c.loop-i-test.true e) ∙ c.loop-i.invariant.1,
    )

pub returns : goal.returns
returns c =
    let a = c.args in
    sym (any_end (edge_at a.edges.rows.now) _ _ (through a.p) c.loop-i-test.false) ∙ c.loop-i.invariant.1

pub curve_of-requires : goal.curve_of-requires
curve_of-requires c = edge-row_of c.args.edges.ranged _ c.loop-i-test.true
