-- `edit_nodes::move_node` meets its contract: a missing row is turned down, and a row that is found is worked on.
-- Assumes nothing.
use mathlib.Core.Path.{refl, sym, ◌∙◌}
use lib.Dec.{lit<}
use mir.Syntax.{w64}
use mir.Facts.{to_z-of_z}
use Rattle.map.specs.Limits.{node_width}
use Rattle.map.specs.Rows.{lent}
use Rattle.map.specs.Tickets.{MoveIsoNode}
use Rattle.map_rows.proofs.Rows.{node_rows_rising}
use Rattle.outcomes.specs.Outcomes.{decided}
use Rattle.outcomes.proofs.Formed.{node_rows_lem, counted, decided-refused}
use Rattle.head.proofs.Words.{nodes_natural, nodes_read}
use Rattle.outcomes.proofs.Words.{place_told}
use Rattle.outcomes.proofs.FoundRows.{node_in, node-number}
use Rattle.edit_nodes.proofs.Rows.{move_missing}
use Rattle.edit_nodes.proofs.move_node.Goals as goal

pub returns-in_default : goal.returns-in_default
returns-in_default c =
    let m = c in
    let s = m in
    let a = s.args in
    decided-refused _ _ _ _ _ 4 (lit< tt) refl
    (move_missing s.requires a.node (place_told node_width a.nodes.now
    (nodes_read (counted s.requires) m.to_usize-n.ensures) (to_z-of_z {w = w64} s.ranges.node)
    m.find_row.ensures c.in_default.is) a.x a.y)

pub returns : goal.returns
returns c =
    let d = c in
    let s = d in
    let a = s.args in
    let at = place_told node_width s.args.nodes.now (nodes_read (counted s.requires) d.to_usize-n.ensures)
    (to_z-of_z {w = w64} s.ranges.node) d.find_row.ensures d.in-Some.is in
    let number = sym (node-number s.requires a.node d.in-Some.i at) in
    let x = to_z-of_z {w = w64} s.ranges.x in
    let y = to_z-of_z {w = w64} s.ranges.y in
    c.move_at_row.ensures
    ∙ (λ j. decided (lent a.nodes.now a.edges.now a.faces.now a.h) (MoveIsoNode (number j) (x j) (y j)))

pub to_usize-n-requires : goal.to_usize-n-requires
to_usize-n-requires c = nodes_natural (counted c.requires)

pub find_row-requires : goal.find_row-requires
find_row-requires c = let s = c in
    rw (nodes_read (counted s.requires) c.to_usize-n.ensures) (node_rows_rising (node_rows_lem s.requires))

pub move_at_row-requires : goal.move_at_row-requires
move_at_row-requires c =
    let d = c in
    let s = d in
    let at = place_told node_width s.args.nodes.now (nodes_read (counted s.requires) d.to_usize-n.ensures)
    (to_z-of_z {w = w64} s.ranges.node) d.find_row.ensures d.in-Some.is in
    (s.requires, node_in s.requires s.args.node d.in-Some.i at)
