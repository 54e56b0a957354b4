-- `edit_rectangles::pair_of` meets its contract: the row with the number is found, or there is none. Assumes nothing.
use Rattle.std.specs.Prelude.{Some}
use borrow.Author.Rules.{rules}
use mathlib.Core.Path.{◌≡◌, refl, sym, ap, ◌∙◌}
use mir.Syntax.{w64}
use mir.Facts.{to_z-of_z}
use Rattle.lists.specs.Tables.{place}
use Rattle.map.specs.Limits.{edge_width}
use Rattle.tables.specs.Tables.{same_z, column}
use Rattle.map_rows.proofs.Rows.{edge_rows_rising, edge-row_of}
use Rattle.map_rows.proofs.Lookups.{edge_found}
use Rattle.outcomes.proofs.Words.{place_told}
use Rattle.edit_rectangles.specs.FacePairs.{pair_found}
use Rattle.edit_rectangles.proofs.pair_of.Goals as goal

pub returns-in_default : goal.returns-in_default
returns-in_default c =
    let m = c in
    let s = m in
    let a = s.args in
    sym (ap (pair_found a.edges.now) (place_told edge_width a.edges.now {n = a.count} refl
    (to_z-of_z {w = w64} s.ranges.edge) m.find_row.ensures c.in_default.is))

placed : (c : goal.In-Some)
    → let a = c.args in
    place (same_z a.edge) 0 (column edge_width a.edges.now a.count) ≡ Some c.in-Some.i
placed c =
    let m = c in
    let s = m in
    place_told edge_width s.args.edges.now {n = s.args.count} refl (to_z-of_z {w = w64} s.ranges.edge)
    m.find_row.ensures c.in-Some.is

pub pair_at-requires : goal.pair_at-requires
pair_at-requires c =
    let d = c in
    let s = d in
    let a = s.args in
    let i = d.in-Some.i in
    edge-row_of s.requires i (edge_found a.edges.now a.count s.requires.ranges a.edge i (placed d)).0

pub returns : goal.returns
returns c =
    let d = c.before in
    c.pair_at.ensures ∙ sym (ap (pair_found d.args.edges.now) (placed d))

pub find_row-requires : goal.find_row-requires
find_row-requires c = edge_rows_rising c.requires
