-- `piece_labels::label_of` meets its contract. Assumes nothing.
use Rattle.std.specs.Prelude.{Some}
use mathlib.Core.Path.{◌≡◌, sym, ap}
use native.Mathlib.Omega.{arith}
use Prim.Native.Nat.{◌<◌}
use Rattle.lists.specs.Tables.{place}
use Rattle.tables.specs.Tables.{same_z, column}
use Rattle.map.specs.Limits.{node_width}
use Rattle.map_rows.proofs.Rows.{node_rows_rising}
use Rattle.map_rows.proofs.Lookups.{node_found}
use Rattle.piece_labels.specs.Labels.{label_of}
use Rattle.piece_labels.proofs.Places.{told}
use Rattle.piece_labels.proofs.label_of.Lts as lts
use Rattle.piece_labels.proofs.label_of.Tie as tie
use Rattle.piece_labels.proofs.label_of.Reads as reads
use Rattle.piece_labels.proofs.label_of.Goals as goal

-- places in the code, by their names in what is generated
abbrev In-Some : Type 0
In-Some = lts.Past-After-known_told tie.the-claims reads.Pre reads.Post

pub returns-in_default : goal.returns-in_default
returns-in_default c =
    let m = c in
    let s = m in
    let a = s.args in
    sym (ap (label_of a.labels.now)
    (told a.nodes.now a.n a.node s.ranges.node m.find_row.ensures c.in_default.is))

-- the row that is found
row : (c : In-Some) →
    let a = c.args in
    let r = c.in-Some.i in
    (r < a.n) × (place (same_z a.node) 0 (column node_width a.nodes.now a.n) ≡ Some r)
row c =
    let m = c in
    let s = m in
    let l = s.args.nodes.now in
    let n = s.args.n in
    let e = told l n s.args.node s.ranges.node m.find_row.ensures c.in-Some.is in
    ((node_found l n s.requires.0.ranges s.args.node c.in-Some.i e).0, e)

pub offset_bounds-labels-i : goal.offset_bounds-labels-i
offset_bounds-labels-i c = omega (arith, (row c.before).0, c.requires.1)

pub bounds-labels-i : goal.bounds-labels-i
bounds-labels-i c = omega (arith, (row c.before.before).0, c.requires.1)

pub returns : goal.returns
returns c = let a = c.args in
    sym (ap (label_of a.labels.now) (row c.before.before).1)

pub find_row-requires : goal.find_row-requires
find_row-requires c = node_rows_rising c.requires.0
