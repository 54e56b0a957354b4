use Rattle.std.proofs.Common.{rules, ◌≡◌, ◌++◌}
use mir.Syntax.{w64}
use mir.Val.{of_z, to_z}
use Rattle.integers.specs.Signs.{sent}
use Rattle.map.specs.Limits.{node_width, edge_width, face_width}
use Rattle.console.specs.Texts.{tagged_text, head_numbers, used_text, sheet_text}
use Rattle.console.proofs.Wrote.{wrote_more}
use Rattle.console.proofs.write_sheet.Goals as goal

pub returns : goal.returns
unfolding sheet_text
returns g c =
    let a = c.args in
    let h = a.h in
    let held = g.W.Write.contents in
    let first = c.write_head in
    let second = c.write_rows in
    let third = c.write_rows-2 in
    let nodes : to_z w64 (of_z w64 h.nodes) ≡ h.nodes = search (rules, sent) in
    let edges : to_z w64 (of_z w64 h.edges) ≡ h.edges = search (rules, sent) in
    let faces : to_z w64 (of_z w64 h.faces) ≡ h.faces = search (rules, sent) in
    let head_text = tagged_text 72 (head_numbers h) in
    let nodes_text = used_text 78 node_width a.nodes.now h.nodes in
    let edges_text = used_text 69 edge_width a.edges.now h.edges in
    let faces_text = used_text 70 face_width a.faces.now h.faces in
    wrote_more held a.streams.now third.new.streams c.write_rows-3.new.streams
    (head_text ++ nodes_text ++ edges_text) faces_text
    (wrote_more held a.streams.now second.new.streams third.new.streams (head_text ++ nodes_text) edges_text
    (wrote_more held a.streams.now first.new.streams second.new.streams head_text nodes_text first.ensures
    (rw nodes at second.ensures))
    (rw edges at third.ensures))
    (rw faces at c.write_rows-3.ensures)
