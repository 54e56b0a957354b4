-- `form_ranges::nodes_ranged` meets its contract: the node rows from row i on are in range if and only if all are.
-- Assumes nothing.
use mathlib.Core.Path.{sym, ap, ◌∙◌}
use native.Mathlib.Omega.{arith}
use lib.ListN.{length}
use Rattle.map.specs.Form.{node_ranges}
use Rattle.tables.proofs.Scans.{row_part, row_length, rows_start, rows_hit, rows_miss, rows_end}
use Rattle.form_ranges.proofs.nodes_ranged.Goals as goal

pub loop-i-init : goal.loop-i-init
loop-i-init c = (omega arith, rows_start 4 c.args.nodes.now node_ranges c.args.n)

pub node_ranges-requires : goal.node_ranges-requires
node_ranges-requires c =
    let s = c in
    let i = c.loop-i.i in
    ap length (row_part 4 s.args.nodes.now i)
    ∙ row_length 4 s.args.nodes.now s.args.n i s.requires c.loop-i-test.true

pub returns-then-not-node_ranges : goal.returns-then-not-node_ranges
returns-then-not-node_ranges c =
    let a = c.args in
    let l = c.loop-i in
    sym (rows_miss 4 a.nodes.now node_ranges a.n l.i c.loop-i-test.true
    c.node_ranges.ensures (row_part 4 a.nodes.now l.i) (c.if-not-node_ranges.true)) ∙ l.invariant.1

pub loop-i-preserved : goal.loop-i-preserved
loop-i-preserved c =
    let a = c.args in
    let l = c.loop-i in (
      omega arith,
      sym (rows_hit 4 a.nodes.now node_ranges a.n l.i
          c.loop-i-test.true c.node_ranges.ensures
          (row_part 4 a.nodes.now l.i) (c.if-not-node_ranges.false)) ∙ l.invariant.1,
    )

pub returns : goal.returns
returns c = let a = c.args in
    sym (rows_end 4 a.nodes.now node_ranges a.n c.loop-i.i c.loop-i-test.false)
    ∙ c.loop-i.invariant.1
