-- `edit_curve::write_curve` meets its contract: the numbers written are those of the row with the other curve. Assumes
-- nothing.
use mathlib.Core.Path.{sym, ap, ◌∙◌}
use mathlib.Core.List.{List}
use Prim.Native.Nat.{◌*◌, ◌+◌}
use native.Mathlib.Omega.{arith}
use lib.IntN.{ℤ, pos}
use lib.ListN.{get_or}
use lib.Seq.{paste}
use Rattle.integers.specs.Signs.{sent}
use Rattle.curves.specs.Curves.{points, curve_of}
use Rattle.curve_edits.specs.declared.Line.{Line}
use Rattle.map.specs.Rows.{dart_cell}
use Rattle.map.specs.Edits.{with_curve}
use Rattle.map_rows.specs.Rows.{edge_at}
use Rattle.map_rows.proofs.Rows.{edge_cells_lem}
use Rattle.map.proofs.RoundTrip.{dart_cell-back}
use Rattle.map_rows.proofs.Cells.{line_count}
use Rattle.edge_rows.proofs.Drawn.{points_few, row_written}
use Rattle.edit_curve.proofs.write_curve.Goals as goal

pub write_edge-requires : goal.write_edge-requires
write_edge-requires c =
    let s = c in
    let e = ap (λ (l : Line). l.count) c.whole_of.ensures ∙ line_count (points (curve_of s.args.c.now)) in
    (s.requires.0.fits, omega (arith, points_few s.requires.1))

pub returns : goal.returns
returns c =
    let s = c in
    let a = s.args in
    let l = a.edges.now in
    let i = a.i in
    let k = edge_cells_lem l i s.requires.0.ranges in
    let row = with_curve (curve_of a.c.now) (edge_at l i) in
    let number =
    sent c.number-1.given
    ∙ k.number in
    let start = sent c.start-1.given
    ∙ k.start in
    let end = sent c.end-1.given ∙ k.end in
    let next-left = sent c.next_left-1.given
    ∙ sym (dart_cell-back (get_or l (i * 32 + 3) (pos 0))) ∙ ap dart_cell k.next_left in
    let next_right_lem = sent c.next_right-1.given
    ∙ sym (dart_cell-back (get_or l (i * 32 + 4) (pos 0))) ∙ ap dart_cell k.next_right in
    let left = sent c.left-1.given ∙ k.left in
    let right = sent c.right-1.given ∙ k.right in
    let cells = row_written c.whole_of.result row
    c.whole_of.ensures number start end next-left next_right_lem left right (points_few s.requires.1) in
    c.write_edge.ensures ∙ ap (λ (r : List ℤ). paste l (i * 32) r 32) cells
