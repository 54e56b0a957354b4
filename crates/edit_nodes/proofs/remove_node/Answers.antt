-- `edit_nodes::remove_node` meets its contract: a missing row is turned down, and a row that is found is worked on.
-- Assumes nothing.
use mathlib.Core.Path.{refl, sym, ap, ◌∙◌}
use lib.Dec.{lit<}
use lib.IntN.{ℤ}
use mir.Syntax.{w64}
use mir.Facts.{to_z-of_z}
use Rattle.map.specs.Limits.{node_width}
use Rattle.map.specs.Rows.{lent}
use Rattle.map.specs.Tickets.{RemoveIsoNode}
use Rattle.map_rows.proofs.Rows.{node_rows_rising}
use Rattle.outcomes.specs.Outcomes.{decided}
use Rattle.outcomes.proofs.Formed.{node_rows_lem, counted, decided-refused}
use Rattle.head.proofs.Words.{nodes_natural, nodes_read}
use Rattle.outcomes.proofs.Words.{place_told}
use Rattle.outcomes.proofs.FoundRows.{node_in, node-number}
use Rattle.edit_nodes.proofs.Rows.{remove_missing}
use Rattle.edit_nodes.proofs.remove_node.Goals as goal

pub returns-in_default : goal.returns-in_default
returns-in_default c =
    let m = c in
    let s = m in
    decided-refused _ _ _ _ _ 4 (lit< tt) refl
    (remove_missing s.requires s.args.node (place_told node_width s.args.nodes.now
    (nodes_read (counted s.requires) m.to_usize-n.ensures) (to_z-of_z {w = w64} s.ranges.node)
    m.find_row.ensures c.in_default.is))

pub returns : goal.returns
returns c =
    let d = c in
    let s = d in
    let a = s.args in
    let at = place_told node_width s.args.nodes.now (nodes_read (counted s.requires) d.to_usize-n.ensures)
    (to_z-of_z {w = w64} s.ranges.node) d.find_row.ensures d.in-Some.is in
    c.remove_at_row.ensures
    ∙ ap (λ (z : ℤ). decided (lent a.nodes.now a.edges.now a.faces.now a.h) (RemoveIsoNode z))
    (sym (node-number s.requires a.node d.in-Some.i at))

pub to_usize-n-requires : goal.to_usize-n-requires
to_usize-n-requires c = nodes_natural (counted c.requires)

pub find_row-requires : goal.find_row-requires
find_row-requires c = let s = c in
    rw (nodes_read (counted s.requires) c.to_usize-n.ensures) (node_rows_rising (node_rows_lem s.requires))

pub remove_at_row-requires : goal.remove_at_row-requires
remove_at_row-requires c =
    let d = c in
    let s = d in
    let at = place_told node_width s.args.nodes.now (nodes_read (counted s.requires) d.to_usize-n.ensures)
    (to_z-of_z {w = w64} s.ranges.node) d.find_row.ensures d.in-Some.is in
    (s.requires, node_in s.requires s.args.node d.in-Some.i at)
