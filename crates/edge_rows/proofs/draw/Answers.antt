-- `edge_rows::draw` meets its contract: the row written last and linked in, and its nodes without a face, are the edge
-- drawn. Assumes nothing.
use mathlib.Core.Path.{◌≡◌, ap, ap₂, ◌∙◌}
use mathlib.Core.List.{List}
use Prim.Native.Nat.{ℕ, ◌+◌, ◌*◌}
use native.Mathlib.Omega.{arith}
use lib.IntN.{ℤ, negsuc, nat_abs}
use lib.ListN.{set, length-set}
use lib.Seq.{paste}
use mir.Syntax.{w64}
use mir.Facts.{to_z-of_z}
use Rattle.map.specs.Rows.{edge_cells}
use Rattle.links.specs.Linking.{linked_edge}
use Rattle.edge_rows.specs.Holds.{new_row}
use Rattle.head.proofs.Words.{edges_natural, edges_read}
use Rattle.edge_rows.proofs.Drawn.{drawn_as, pushed_held, start_fits, end_fits}
use Rattle.edge_rows.proofs.draw.Lts as lts
use Rattle.edge_rows.proofs.draw.Tie as tie
use Rattle.edge_rows.proofs.draw.Reads as reads
use Rattle.edge_rows.proofs.draw.Goals as goal

-- places in the code, by their names in what is generated
abbrev After-write_last : Type 0
After-write_last = lts.After-write_last tie.the-claims reads.Pre reads.Post

-- the edges with the row written last
written : (c : After-write_last)
    → let a = c.args in
    c.write_last.new.edges ≡ paste a.edges.now (nat_abs a.h.edges * 32)
    (edge_cells (new_row a.nodes.now a.h a.u a.v a.c.now a.face)) 32
written c =
    let s = c in
    let a = s.args in
    c.write_last.ensures
    ∙ ap (λ (z : ℤ). paste a.edges.now (nat_abs a.h.edges * 32)
    (edge_cells (new_row a.nodes.now a.h a.u a.v a.c.now z)) 32)
    (to_z-of_z {w = w64} {z = a.face} s.ranges.face)

pub overflow_add-e : goal.overflow_add-e
overflow_add-e c =
    let s = c in
    let n = edges_read s.requires.held.counted c.to_usize-e.ensures in
    omega (arith, s.requires.held.counted.edges.most)

pub link_edge-requires : goal.link_edge-requires
link_edge-requires c =
    let w = c.before.before.before.before.before in
    let s = w in
    let n = edges_read s.requires.held.counted c.to_usize-e.ensures in
    (rw (n, written w) (pushed_held s.requires).rows, omega arith, omega (arith, s.requires.held.counted.edges.most))

pub returns : goal.returns
returns c =
    let k = c in
    let w = c.before.before.before.before.before.before.before.before.before.before.before.before.before in
    let s = w in
    drawn_as s.requires
    (c.set_face-2.ensures
    ∙ ap (λ (l : List ℤ). set l (s.args.v * 4 + 3) (negsuc 0))
    c.set_face.ensures)
    (k.link_edge.ensures ∙ ap₂ (λ (l : List ℤ) (j : ℕ). linked_edge l (j + 1)) (written w)
    (edges_read s.requires.held.counted k.to_usize-e.ensures))
    c.changed.ensures

pub to_usize-e-requires : goal.to_usize-e-requires
to_usize-e-requires c = edges_natural c.requires.held.counted

pub set_face-requires : goal.set_face-requires
set_face-requires c = start_fits c.requires

pub set_face-requires-2 : goal.set_face-requires-2
set_face-requires-2 c = let s =
    c in
    rw (c.set_face.ensures, length-set) (end_fits s.requires)
