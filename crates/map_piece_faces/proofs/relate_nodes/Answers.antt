-- `map_piece_faces::relate_nodes` meets its contract: the matrix has what the nodes that are passed relate.
-- Assumes nothing.
use mathlib.Core.Path.{◌≡◌, refl, sym}
use native.Mathlib.Omega.{arith}
use Rattle.map_piece_faces.specs.InFaces.{node_relates}
use Rattle.map_piece_faces.proofs.Passed.{passed_none, passed_more}
use Rattle.map_piece_faces.proofs.relate_nodes.Goals as goal

pub loop-i-init : goal.loop-i-init
loop-i-init c =
    let a = c.args in
    (omega arith, omega arith, passed_none (node_relates a.nodes.now a.faces.now a.count) a.graph.now)

pub relate_node-requires : goal.relate_node-requires
relate_node-requires c =
    let l = c in
    let s = l in
    (omega arith, omega arith, s.requires.2, s.requires.3, l.index_rows.ensures.1, l.loop-i.invariant.1)

pub loop-i-preserved : goal.loop-i-preserved
loop-i-preserved c =
    let l = c in
    let a = l.args in
    let t = c.relate_node in (
      omega arith,
      omega arith,
      passed_more (node_relates a.nodes.now a.faces.now a.count) l.loop-i.i a.graph.now l.loop-i.graph
          t.new.graph l.loop-i.invariant.2 t.ensures,
    )

pub returns : goal.returns
returns c =
    let l = c in
    let a = l.args in
    let all : l.loop-i.i ≡ a.n = omega arith in
    rw all at l.loop-i.invariant.2

pub slice_bounds-index_rows-end : goal.slice_bounds-index_rows-end
slice_bounds-index_rows-end c = refl

pub index_rows-requires : goal.index_rows-requires
index_rows-requires c = (omega arith, c.requires.2.fits, refl)

pub slice_bounds-relate_node-end : goal.slice_bounds-relate_node-end
slice_bounds-relate_node-end c = sym c.index_rows.ensures.1
