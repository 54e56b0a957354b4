-- `edit_split::cut_row` meets its contract. Assumes nothing.
use mathlib.Core.Path.{◌≡◌, ◌∙◌}
use Prim.Native.Nat.{◌*◌, ◌≤◌}
use native.Mathlib.Omega.{arith}
use lib.Seq.{paste}
use mir.Syntax.{w64}
use mir.Facts.{to_z-of_z}
use Rattle.curves.specs.Curves.{max_points}
use Rattle.map.specs.Limits.{edge_width}
use Rattle.map_rows.specs.Cells.{cells_of}
use Rattle.map_rows.proofs.Cells.{line_count}
use Rattle.edit_split.specs.Cuts.{led_to_halves, start_incidence, end_incidence, start_half_written}
use Rattle.edit_split.proofs.Halves.{front_few, back_few}
use Rattle.edit_split.proofs.cut_row.Goals as goal

pub write_start_half-requires : goal.write_start_half-requires
write_start_half-requires c =
    let p = c.requires in
    let few : c.start_line-front.result.count ≤ max_points =
    rw (c.start_line-front.ensures, line_count) (front_few p.row c.args.p) in
    (omega (arith, p.below), omega (arith, c.lead_to_halves.auto.edges, p.room), few)

pub write_edge-requires : goal.write_edge-requires
write_edge-requires c =
    let p = c.requires in
    let few : c.end_line-back.result.count ≤ max_points =
    rw (c.end_line-back.ensures, line_count) (back_few p.row c.args.p) in
    (omega (arith, c.lead_to_halves.auto.edges, c.write_start_half.auto.edges, p.room), omega (arith, few))

pub returns : goal.returns
returns c =
    let a = c.args in
    let zn = to_z-of_z {w = w64} c.ranges.node in
    let za = to_z-of_z {w = w64} c.ranges.a in
    let zb = to_z-of_z {w = w64} c.ranges.b in
    let t : c.lead_to_halves.new.edges ≡ led_to_halves a.edges.now a.e a.i a.a a.b =
    c.lead_to_halves.ensures ∙ (λ j. led_to_halves a.edges.now a.e a.i (za j) (zb j)) in
    let start = c.start_half-first.ensures ∙ (λ j. start_incidence (t j) a.i (zn j) (za j) (zb j)) in
    let end = c.end_half-second.ensures ∙ (λ j. end_incidence (t j) a.i (zn j) (za j) (zb j)) in
    let put = c.write_start_half.ensures
    ∙ (λ j. start_half_written a.how (t j) a.e a.i (cells_of (start j) (c.start_line-front.ensures j))) in
    c.write_edge.ensures
    ∙ (λ j. paste (put j) (a.e * edge_width) (cells_of (end j) (c.end_line-back.ensures j)) edge_width)
