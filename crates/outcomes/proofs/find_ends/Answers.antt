-- `outcomes::find_ends` meets its contract: the answer is that of both lookups. Assumes nothing.
use Rattle.std.specs.Prelude.{ℕ}
use Rattle.std.specs.Prelude.{Option}
use mathlib.Core.Path.{◌≡◌}
use lib.IntN.{ℤ, nat_abs}
use mir.Syntax.{w64}
use mir.Val.{of_z, to_z, SFits}
use mir.Facts.{to_z-of_z}
use Rattle.lists.specs.Tables.{place}
use Rattle.map.specs.Limits.{node_width}
use Rattle.tables.specs.Tables.{Rising, same_z, column}
use Rattle.map_rows.proofs.Rows.{node_rows_rising}
use Rattle.head.proofs.Words.{nodes_natural, nodes_read}
use Rattle.outcomes.proofs.Formed.{counted, node_rows_lem}
use Rattle.outcomes.proofs.Words.{place_told}
use Rattle.outcomes.proofs.find_ends.Goals as goal
use Rattle.outcomes.proofs.find_ends.Goals.{After-to_usize-n}

module _ (c : After-to_usize-n) where
  rows : c.to_usize-n.result ≡ nat_abs c.args.h.nodes
  rows = nodes_read (counted c.requires) c.to_usize-n.ensures

  rising : Rising node_width c.args.nodes.now c.to_usize-n.result
  rising = rw rows (node_rows_rising (node_rows_lem c.requires))

  looked-up : {z : ℤ} {r v : Option ℕ} → SFits w64 z
      → r ≡ place (same_z (to_z w64 (of_z w64 z))) 0
      (column node_width c.args.nodes.now c.to_usize-n.result) → r ≡ v
      → place (same_z z) 0
      (column node_width c.args.nodes.now (nat_abs c.args.h.nodes)) ≡ v
  looked-up k = place_told node_width c.args.nodes.now rows (to_z-of_z {w = w64} k)

pub returns : goal.returns
returns c =
    let n = c.before.before.before.before.before.before in
    rw (
      looked-up n n.ranges.start c.find_row.ensures c.in_ok-u.was,
      looked-up n n.ranges.end c.find_row-2.ensures c.in_ok-v.was,
    )

pub returns-in_err-u : goal.returns-in_err-u
returns-in_err-u c =
    let n = c.before.before.before.before in
    rw (c.from_residual.ensures, looked-up n n.ranges.start c.find_row.ensures c.in_err-u.was)

pub returns-in_err-v : goal.returns-in_err-v
returns-in_err-v c =
    let n = c.before.before.before.before.before.before.before in
    rw (
      c.from_residual-in_err-v.ensures,
      looked-up n n.ranges.start c.find_row.ensures c.in_ok-u.was,
      looked-up n n.ranges.end c.find_row-2.ensures c.in_err-v.was,
    )

pub to_usize-n-requires : goal.to_usize-n-requires
to_usize-n-requires c = nodes_natural (counted c.requires)

pub find_row-requires : goal.find_row-requires
find_row-requires c = rising c

pub find_row-requires-2 : goal.find_row-requires-2
find_row-requires-2 c = rising c.before.before.before
