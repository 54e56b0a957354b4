-- `edit_curve::check_change` meets its contract: the curve's own reasons first. Assumes nothing.
use mathlib.Core.Path.{sym, ap₂, ◌∙◌}
use Prim.Native.Nat.{ℕ}
use native.Mathlib.Omega.{arith}
use Rattle.map.specs.Reasons.{first_reason}
use Rattle.map_rows.proofs.Rows.{node-row_of}
use Rattle.outcomes.proofs.Results.{number_some, handed_number}
use Rattle.head.proofs.Words.{nodes_read, edges_read}
use Rattle.edit_curve.specs.Change.{turn_reasons}
use Rattle.edit_curve.proofs.ChangeReasons.{change_ends, change_turns}
use Rattle.edit_curve.proofs.check_change.Goals as goal

pub check_curve-requires : goal.check_curve-requires
check_curve-requires c =
    let p = c.requires in
    let t = p.0.node_table_lem.rows in
    (node-row_of t c.args.u p.2, node-row_of t c.args.v p.3, p.4)

pub returns-in_err-check_curve : goal.returns-in_err-check_curve
returns-in_err-check_curve c =
    let a = c.args in
    handed_number _ _ c.from_residual.ensures.1
    ∙ change_ends a.nodes.now a.edges.now a.h a.i a.u a.v a.c.now
    c.in_err-check_curve.ensures (number_some c.in_err-check_curve.field-0.0)

pub check_turns-requires : goal.check_turns-requires
check_turns-requires c =
    let p = c.requires in
    let j = edges_read p.0.counted c.to_usize-e.ensures in (
      omega (arith, j, p.0.counted.edges.most),
      rw j p.1,
      p.4,
    )

pub returns : goal.returns
returns c =
    let a = c.args in
    let p = c.requires in
    let n = nodes_read p.0.counted c.to_usize-n.ensures in
    let j = edges_read p.0.counted c.to_usize-e.ensures in
    change_turns a.nodes.now a.edges.now a.h a.i a.u a.v a.c.now
    (sym c.in_ok-check_curve.ensures)
    (c.check_turns.ensures ∙ ap₂ (λ (x y : ℕ). first_reason
    (turn_reasons a.nodes.now x a.edges.now y a.i a.c.now)) n j)

pub invariant_of-placed : goal.invariant_of-placed
invariant_of-placed c = record {
  ranged = rw (nodes_read c.requires.0.counted c.to_usize-n.ensures) c.requires.0.node_table_lem.rows;
}

pub invariant_of-drawn : goal.invariant_of-drawn
invariant_of-drawn c = record {
  ranged = rw (edges_read c.requires.0.counted c.to_usize-e.ensures) c.requires.0.edge-table.rows;
}
