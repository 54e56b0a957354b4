-- `edge_rows::give_face` meets its contract: the row that is found has its face stored. Assumes nothing.
use mathlib.Core.Path.{sym, ap, ◌∙◌}
use Prim.Native.Nat.{◌+◌, ◌*◌}
use native.Mathlib.Omega.{arith}
use lib.IntN.{ℤ}
use lib.ListN.{set}
use mir.Syntax.{w64}
use mir.Val.{to_z, of_z}
use mir.Facts.{to_z-of_z}
use Rattle.lists.specs.Tables.{place}
use Rattle.map.specs.Limits.{node_width}
use Rattle.tables.specs.Tables.{same_z, column}
use Rattle.map_rows.proofs.Rows.{node_rows_rising}
use Rattle.map_rows.proofs.Lookups.{node_found}
use Rattle.tables.proofs.Cells.{row_room}
use Rattle.edge_rows.specs.Holds.{faced_where, faced_if}
use Rattle.edge_rows.proofs.give_face.Goals as goal

pub find_row-requires : goal.find_row-requires
find_row-requires c = node_rows_rising c.requires

pub set_face-requires : goal.set_face-requires
set_face-requires c =
    let f = c in
    let m = f in
    let s = m in
    let a = s.args in
    let i = f.in-Some.i in
    let b = (node_found a.nodes.now a.count s.requires.ranges (to_z w64 (of_z w64 a.node)) i
    (sym m.find_row.ensures ∙ f.in-Some.is)).0 in
    let r = row_room node_width a.count i b in
    let k = s.requires.fits in
    omega arith

pub returns-in-Some : goal.returns-in-Some
returns-in-Some c =
    let f = c in
    let m = f in
    let s = m in
    let a = s.args in
    let l = a.nodes.now in
    let i = f.in-Some.i in
    let e = ap (λ (z : ℤ). place (same_z z) 0 (column node_width l a.count)) (sym (to_z-of_z {w = w64} s.ranges.node))
    ∙ sym m.find_row.ensures ∙ f.in-Some.is in
    c.set_face.ensures ∙ ap (set l (i * 4 + 3)) (to_z-of_z {w = w64} s.ranges.face)
    ∙ sym (ap (faced_where l a.face) e)
    ∙ sym (ap (faced_if l a.count a.node a.face) m.if-isolated.true)

pub returns-in_default : goal.returns-in_default
returns-in_default c =
    let m = c in
    let s = m in
    let a = s.args in
    let l = a.nodes.now in
    let e = ap (λ (z : ℤ). place (same_z z) 0 (column node_width l a.count)) (sym (to_z-of_z {w = w64} s.ranges.node))
    ∙ sym m.find_row.ensures ∙ c.in_default.is in
    sym (ap (faced_if l a.count a.node a.face) m.if-isolated.true ∙ ap (faced_where l a.face) e)
