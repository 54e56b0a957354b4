-- `face_relabel::is_inside` meets its contract: the start node is found. Assumes nothing.
use borrow.Author.Rules.{rules}
use mathlib.Core.Path.{sym, ap, ◌∙◌}
use Prim.Native.Nat.{◌+◌, ◌*◌}
use lib.IntN.{pos}
use lib.ListN.{get_or}
use Rattle.integers.specs.Signs.{sent}
use Rattle.map_rows.proofs.Rows.{node-row_of, node_rows_rising}
use Rattle.face_relabel.specs.Sharing.{ring_encloses}
use Rattle.face_relabel.proofs.Faces.{start_found, start_there}
use Rattle.face_relabel.proofs.is_inside.Goals as goal

pub find_row-requires : goal.find_row-requires
find_row-requires c = node_rows_rising c.requires.0.nodes

pub returns-in_default : goal.returns-in_default
returns-in_default c =
    let a = c.args in
    let start = sent {z = get_or a.edges.rows.now (a.i * 32 + 1) (pos 0)} (search rules) in
    absurd (start_there a.nodes.rows.now a.nodes.count a.edges.rows.now a.edges.count a.s c.requires.0 a.i c.requires.1
    (sym (rw start at c.in_default.ensures)))

pub node_point-requires : goal.node_point-requires
node_point-requires c =
    let a = c.args in
    let start = sent {z = get_or a.edges.rows.now (a.i * 32 + 1) (pos 0)} (search rules) in
    let row = start_found a.nodes.rows.now a.nodes.count a.edges.rows.now a.edges.count a.s c.requires.0 a.i
    c.requires.1 c.in-Some.k
    (sym (rw start at c.in-Some.ensures)) in
    node-row_of c.requires.0.nodes c.in-Some.k row.0

pub returns : goal.returns
returns c =
    let a = c.args in
    let start = sent {z = get_or a.edges.rows.now (a.i * 32 + 1) (pos 0)} (search rules) in
    let row = start_found a.nodes.rows.now a.nodes.count a.edges.rows.now a.edges.count a.s c.requires.0 a.i
    c.requires.1 c.in-Some.k
    (sym (rw start at c.in-Some.ensures)) in
    c.encloses.ensures
    ∙ ap (ring_encloses a.edges.rows.now a.edges.count a.s.ring) (c.node_point.ensures.0 ∙ sym row.1)
