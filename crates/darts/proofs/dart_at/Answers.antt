-- `darts::dart_at` meets its contract: the number of an edge row is not negative. Assumes nothing.
use borrow.Author.Rules.{sfits_of}
use mathlib.Core.Path.{◌≡◌, ap, ◌∙◌}
use Prim.Native.Nat.{◌*◌, ◌/◌}
use native.Mathlib.Omega.{arith}
use lib.IntN.{pos, neg_ℤ}
use lib.ListN.{get_or}
use mir.Syntax.{w64}
use mir.Val.{to_z, of_z}
use mir.Facts.{to_z-of_z}
use Rattle.map_rows.specs.Rows.{edge_at}
use Rattle.map_rows.proofs.Rows.{edge_cells_lem}
use Rattle.darts.proofs.Positions.{even_of, odd_of}
use Rattle.darts.proofs.Steps.{negative_is, minus_fits}
use Rattle.darts.proofs.dart_at.Lts as lts
use Rattle.darts.proofs.dart_at.Reads as reads
use Rattle.darts.proofs.dart_at.Goals as goal

-- places in the code, by their names in what is generated
abbrev After-e-1 : Type 0
After-e-1 = lts.After-e reads.Pre reads.Post

-- the number as it is read
read : (c : After-e-1)
    → to_z w64 (of_z w64 (get_or c.args.edges.now (c.args.p / 2 * 32) (pos 0)))
    ≡ pos (edge_at c.args.edges.now (c.args.p / 2)).number
read c = to_z-of_z {w = w64} (sfits_of c.e-1.given)
    ∙ (edge_cells_lem c.args.edges.now (c.args.p / 2) c.requires.ranges).number

pub overflow_sub-result : goal.overflow_sub-result
overflow_sub-result c =
    let b = c.before in
    let z = get_or b.args.edges.now (b.args.p / 2 * 32) (pos 0) in
    minus_fits (to_z w64 (of_z w64 z)) (edge_at b.args.edges.now (b.args.p / 2)).number (read b)
    (rw (to_z-of_z {w = w64} {z = z} (sfits_of b.e-1.given)) (sfits_of b.e-1.given))

pub returns-then-p-eq0 : goal.returns-then-p-eq0
returns-then-p-eq0 c = rw (even_of c.args.p c.if-p-eq0.true).test (read c.before)

pub returns-else-p-eq0 : goal.returns-else-p-eq0
returns-else-p-eq0 c = rw (
  to_z-of_z (overflow_sub-result c),
  (odd_of c.args.p (let h = c.if-p-eq0.false in omega arith)).test,
  negative_is,
) (ap neg_ℤ (read c.before))
