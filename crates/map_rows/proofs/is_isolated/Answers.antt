-- `map_rows::is_isolated` meets its contract: only -1 is below 0 in a row in range. Assumes nothing.
use borrow.Author.Rules.{sfits_of}
use mathlib.Core.Path.{◌≡◌, ap, ◌∙◌, subst}
use mathlib.Core.Bool.{true, not, ◌&&◌}
use Prim.Native.Nat.{◌+◌, ◌*◌}
use lib.Dec.{lit<}
use lib.IntN.{ℤ, pos, negsuc}
use lib.ListN.{get_or}
use lib.Signed.{le_z, non_neg}
use Rattle.lists.specs.Scans.{is_some}
use Rattle.curves.specs.Curves.{coordinate}
use Rattle.lists.proofs.Bools.{and_right}
use Rattle.map.specs.Limits.{node_width}
use Rattle.tables.specs.Tables.{row_at, cell}
use Rattle.tables.proofs.Rows.{row_cell}
use Rattle.map_rows.proofs.Rows.{node_cells_lem}
use Rattle.tables.proofs.Order.{word_test}
use Rattle.map_rows.proofs.Points.{isolated_is}
use Rattle.map_rows.proofs.is_isolated.Goals as goal

pub returns : goal.returns
returns c =
    let l = c.args.nodes.now in
    let i = c.args.i in
    let row = c.requires in
    let z = get_or l (i * 4 + 3) (pos 0) in
    let r = row_at node_width l i in
    let least = subst (λ (k : ℤ). le_z (negsuc 0) k ≡ true) (row_cell node_width l i 3 (lit< tt))
    (and_right (non_neg (cell r 0) && coordinate (cell r 1) && coordinate (cell r 2)) (le_z (negsuc 0) (cell r 3))
    row.ranges) in
    ap not (word_test {a = z} {b = negsuc 0} (sfits_of c.result-1.given) (sfits_of (lit< tt))) ∙ isolated_is z least
    ∙ ap is_some (node_cells_lem l i row.ranges).face
