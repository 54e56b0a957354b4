-- `piece_labels::row_of` meets its contract: a node that is there is found. Assumes nothing.
use mathlib.Core.Path.{◌≡◌}
use native.Mathlib.Omega.{arith}
use Prim.Native.Nat.{◌<◌}
use lib.IntN.{pos}
use Rattle.map_rows.specs.Rows.{node_at}
use Rattle.map_rows.proofs.Rows.{node_rows_rising}
use Rattle.map_rows.proofs.Lookups.{node_found}
use Rattle.piece_labels.proofs.Places.{told, not_missing}
use Rattle.piece_labels.proofs.row_of.Lts as lts
use Rattle.piece_labels.proofs.row_of.Tie as tie
use Rattle.piece_labels.proofs.row_of.Reads as reads
use Rattle.piece_labels.proofs.row_of.Goals as goal

-- places in the code, by their names in what is generated
abbrev In-Some : Type 0
In-Some = lts.Past-After-known_told tie.the-claims reads.Pre reads.Post

pub returns-in_default : goal.returns-in_default
returns-in_default c =
    let m = c in
    let s = m in
    let l = s.args.nodes.now in
    let n = s.args.n in
    absurd (not_missing l n s.args.node s.requires.0 s.requires.2 s.requires.3
    (told l n s.args.node s.ranges.node m.find_indexed.ensures c.in_default.is))

-- the row that is found
row : (c : In-Some) →
    let a = c.args in
    let r = c.in-Some.i in
    (r < a.n) × (a.node ≡ pos (node_at a.nodes.now r).number)
row c =
    let m = c in
    let s = m in
    let l = s.args.nodes.now in
    let n = s.args.n in
    let h = node_found l n s.requires.0.ranges s.args.node c.in-Some.i
    (told l n s.args.node s.ranges.node m.find_indexed.ensures c.in-Some.is) in
    (h.0, h.1)

pub find_indexed-requires : goal.find_indexed-requires
find_indexed-requires c = (node_rows_rising c.requires.0, c.requires.4)

pub overflow_cast-result : goal.overflow_cast-result
overflow_cast-result c = omega (arith, (row c.before).0, c.requires.1)

pub returns : goal.returns
returns c = row c.before
