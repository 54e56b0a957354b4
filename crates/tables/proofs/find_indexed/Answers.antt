-- `tables::find_indexed` meets its contract: the row that the index names is the one where its number is, and otherwise
-- the search answers. Assumes nothing.
use borrow.Author.Rules.{sfits_of}
use Rattle.tables.proofs.Order.{word_is}
use Rattle.tables.proofs.Lookups.{row_met}
use Rattle.tables.proofs.find_indexed.Goals as goal

pub returns-then-t-row : goal.returns-then-t-row
returns-then-t-row c =
    let s = c in
    row_met s.requires.0 _ c.if-row-count.true
    (word_is (sfits_of c.t15-1.given) s.ranges.number c.if-t-row.true)
