-- A row that is found is there.
use Rattle.std.proofs.Common.{rules, sym, ◌∙◌}
use Rattle.records.proofs.Finding.{found_below}
use Rattle.records.proofs.change_node.Goals as goal

pub offset_bounds-nodes-i : goal.offset_bounds-nodes-i
offset_bounds-nodes-i c =
    let a = c.args in
    let w = found_below a.nodes.now a.count _ c.in-Some.i (sym c.find_node.ensures ∙ c.in-Some.is) in
    search rules

pub bounds-nodes-i : goal.bounds-nodes-i
bounds-nodes-i c =
    let a = c.args in
    found_below a.nodes.now a.count _ c.in-Some.i (sym c.find_node.ensures ∙ c.in-Some.is)
