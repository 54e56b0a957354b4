-- `edge_rows::undraw` meets its contract: the row unlinked and closed up, and the nodes left isolated with their face,
-- are the edge undrawn. Assumes nothing.
use borrow.Author.Rules.{rules}
use mathlib.Core.Path.{◌≡◌, refl, ap, ◌∙◌}
use Prim.Native.Nat.{ℕ}
use lib.IntN.{pos, nat_abs}
use mir.Syntax.{w64}
use mir.Facts.{to_z-of_z}
use Rattle.integers.specs.Signs.{sent}
use Rattle.tables.specs.Tables.{closed}
use Rattle.map_rows.specs.Rows.{edge_at}
use Rattle.links.specs.Linking.{unlinked_edge}
use Rattle.edge_rows.specs.Holds.{isolated_without, faced_if}
use Rattle.head.proofs.Words.{nodes_natural, nodes_read, edges_natural, edges_read}
use Rattle.edge_rows.proofs.Undrawn.{undrawn_as, start_cell, end-cell, start_rows, faced_alike, isolated_alike}
use Rattle.edge_rows.proofs.undraw.Lts as lts
use Rattle.edge_rows.proofs.undraw.Tie as tie
use Rattle.edge_rows.proofs.undraw.Reads as reads
use Rattle.edge_rows.proofs.undraw.Goals as goal

-- places in the code, by their names in what is generated
abbrev After-give_face : Type 0
After-give_face = lts.After-give_face tie.the-claims reads.Pre reads.Post

abbrev After-undraw_edge : Type 0
After-undraw_edge = lts.After-undraw_edge tie.the-claims reads.Pre reads.Post

pub undraw_edge-start-requires : goal.undraw_edge-start-requires
undraw_edge-start-requires c =
    let s = c in
    let n = edges_read s.requires.held.counted c.to_usize-e.ensures in
    (rw n s.requires.held.edge-table.rows, rw n s.requires.row)

-- the edges without the row, and whether its nodes are isolated then
gone : (c : After-undraw_edge)
    → let a = c.args in
    let l = a.edges.now in
    let n = nat_abs a.h.edges in
    let t = unlinked_edge l n a.i in
    (c.undraw_edge-start.new.edges ≡ closed 32 t n a.i)
    × (c.undraw_edge-start.result.0 ≡ isolated_without t n a.i (pos (edge_at l a.i).start))
    × (c.undraw_edge-start.result.1 ≡ isolated_without t n a.i (pos (edge_at l a.i).end))
gone c =
    let s = c in
    let a = s.args in
    let l = a.edges.now in
    let g = c.undraw_edge-start.ensures in
    let n = edges_read s.requires.held.counted c.to_usize-e.ensures in (
      g.0 ∙ ap (λ (j : ℕ). closed 32 (unlinked_edge l j a.i) j a.i) n,
      g.1 ∙ isolated_alike l a.i n (sent c.u-1.given ∙ start_cell s.requires),
      g.2 ∙ isolated_alike l a.i n (sent c.v-1.given ∙ end-cell s.requires),
    )

pub give_face-requires : goal.give_face-requires
give_face-requires c =
    let s = c in
    let n = nodes_read s.requires.held.counted
    c.to_usize-n.ensures in
    rw n s.requires.held.node_table_lem.rows

-- the nodes with the face for the start
start-faced : (c : After-give_face)
    → let a = c.args in
    let l = a.edges.now in
    let n = nat_abs a.h.edges in
    c.give_face.new.nodes ≡ faced_if a.nodes.now (nat_abs a.h.nodes) (pos (edge_at l a.i).start) a.face
    (isolated_without (unlinked_edge l n a.i) n a.i (pos (edge_at l a.i).start))
start-faced c =
    let g = c.before.before.before in
    let s = g in
    let l = s.args.nodes.now in
    c.give_face.ensures
    ∙ faced_alike {l = l} {l' = l} refl
    (nodes_read s.requires.held.counted g.to_usize-n.ensures)
    (sent g.u-1.given ∙ start_cell s.requires) (to_z-of_z {w = w64} s.ranges.face) (gone g).1

pub give_face-requires-2 : goal.give_face-requires-2
give_face-requires-2 c =
    let f = c.before.before.before in
    let g = f in
    let s = g in
    let n = nodes_read s.requires.held.counted g.to_usize-n.ensures in
    rw (start-faced f, n) (start_rows s.requires)

pub returns : goal.returns
returns c =
    let f = c.before.before.before.before.before in
    let g = f.before.before.before in
    let s = g in
    let n = nodes_read s.requires.held.counted g.to_usize-n.ensures in
    undrawn_as s.requires
    (c.give_face-2.ensures
    ∙ faced_alike (start-faced f) n (sent g.v-1.given ∙ end-cell s.requires)
    (to_z-of_z {w = w64} s.ranges.face) (gone g).2)
    (gone g).0
    c.changed.ensures

pub to_usize-n-requires : goal.to_usize-n-requires
to_usize-n-requires c = nodes_natural c.requires.held.counted

pub to_usize-e-requires : goal.to_usize-e-requires
to_usize-e-requires c = edges_natural c.requires.held.counted

pub changed-requires : goal.changed-requires
changed-requires c = let s =
    c in let r = s.requires.row in search rules
