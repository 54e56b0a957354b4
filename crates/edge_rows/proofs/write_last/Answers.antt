-- `edge_rows::write_last` meets its contract: the numbers written are those of the new row. Assumes nothing.
use mathlib.Core.Path.{ap, ap₂, ◌∙◌}
use mathlib.Core.List.{List}
use Prim.Native.Nat.{ℕ, ◌*◌}
use native.Mathlib.Omega.{arith}
use lib.IntN.{ℤ, nat_abs}
use lib.Seq.{paste}
use mir.Syntax.{w64}
use mir.Facts.{to_z-of_z}
use Rattle.curves.specs.Curves.{points, curve_of}
use Rattle.curve_edits.specs.declared.Line.{Line}
use Rattle.map_rows.specs.Rows.{node_at}
use Rattle.map_rows.proofs.Cells.{line_count}
use Rattle.outcomes.proofs.Words.{count_natural, count_read, small_read}
use Rattle.edge_rows.specs.Holds.{new_row}
use Rattle.edge_rows.proofs.Reverse.{back_read}
use Rattle.head.proofs.Words.{edges_natural, edges_read}
use Rattle.edge_rows.proofs.Drawn.{points_few, row_written, start_number, end_number_lem, start_small, end_small}
use Rattle.edge_rows.proofs.Drawn.{face_is, new_fits}
use Rattle.edge_rows.proofs.write_last.Goals as goal

pub to_usize-e-requires : goal.to_usize-e-requires
to_usize-e-requires c = edges_natural c.requires.held.counted

pub negated-back-requires : goal.negated-back-requires
negated-back-requires c =
    let s = c in
    let k = s.requires.held.counted in
    count_natural s.args.h.next_edge k.next_edge.natural k.next_edge.most

pub write_edge-requires : goal.write_edge-requires
write_edge-requires c =
    let s = c in
    let n = edges_read s.requires.held.counted c.to_usize-e.ensures in
    let f = new_fits s.requires in
    let e = ap (λ (l : Line). l.count) c.whole_of.ensures ∙ line_count (points (curve_of s.args.c.now)) in
    (rw n f, omega (arith, points_few s.requires.run))

pub returns : goal.returns
returns c =
    let s = c in
    let a = s.args in
    let d = s.requires in
    let k = d.held.counted in
    let n = edges_read k c.to_usize-e.ensures in
    let row = new_row a.nodes.now a.h a.u a.v a.c.now a.face in
    let number = count_read a.h.next_edge k.next_edge.natural k.next_edge.most in
    let start = small_read (node_at a.nodes.now a.u).number (start_number d) (omega (arith, start_small d)) in
    let end = small_read (node_at a.nodes.now a.v).number (end_number_lem d) (omega (arith, end_small d)) in
    let back = back_read (nat_abs a.h.next_edge) c.negated-back.ensures number
    k.next_edge.most in
    let face = to_z-of_z {w = w64} {z = a.face} s.ranges.face ∙ face_is d in
    let cells = row_written c.whole_of.result row
    c.whole_of.ensures number start end back number face face (points_few d.run) in
    c.write_edge.ensures ∙ ap₂ (λ (j : ℕ) (r : List ℤ). paste a.edges.now (j * 32) r 32) n cells
