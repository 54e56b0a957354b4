-- `form_ranges::is_whole` meets its contract. Assumes nothing.
use mathlib.Core.Path.{◌≡◌, refl}
use mathlib.Core.Bool.{◌&&◌}
use Rattle.tables.specs.Tables.{whole_rows}
use Rattle.map.specs.Limits.{node_width, edge_width, max_nodes, max_edges}
use Rattle.map.specs.Rows.{whole}
use Rattle.form_ranges.proofs.Chains.{second_told, first_told}
use Rattle.form_ranges.proofs.is_whole.Goals.{then-whole_rows, else-whole_rows}
use Rattle.form_ranges.proofs.is_whole.Goals as goal

pub returns-then-whole_rows-2 : goal.returns-then-whole_rows-2
unfolding whole
returns-then-whole_rows-2 c h =
    let two : c.if-whole_rows.value
    ≡ whole_rows node_width 0 max_nodes c.args.nodes.now && whole_rows edge_width 0 max_edges c.args.edges.now =
    elim c.if-whole_rows.branch [
      | then-whole_rows w ↦ second_told w.if-whole_rows.true w.value-is c.whole_rows.ensures w.whole_rows-then-whole_rows.ensures
      | else-whole_rows w ↦ first_told _ w.if-whole_rows.false w.value-is c.whole_rows.ensures
    ] in
    second_told c.if-whole_rows-2.true refl two c.whole_rows-then-whole_rows-2.ensures

pub returns-else-whole_rows-2 : goal.returns-else-whole_rows-2
unfolding whole
returns-else-whole_rows-2 c h =
    let two : c.if-whole_rows.value
    ≡ whole_rows node_width 0 max_nodes c.args.nodes.now && whole_rows edge_width 0 max_edges c.args.edges.now =
    elim c.if-whole_rows.branch [
      | then-whole_rows w ↦ second_told w.if-whole_rows.true w.value-is c.whole_rows.ensures w.whole_rows-then-whole_rows.ensures
      | else-whole_rows w ↦ first_told _ w.if-whole_rows.false w.value-is c.whole_rows.ensures
    ] in
    first_told _ c.if-whole_rows-2.false refl two
