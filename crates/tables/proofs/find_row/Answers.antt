-- `tables::find_row` meets its contract: the row that the first look meets is the one, and otherwise the search
-- answers. Assumes nothing.
use Prim.Native.Nat.{◌<◌}
use native.Mathlib.Omega.{arith}
use borrow.Author.Rules.{rules}
use Rattle.tables.proofs.Order.{word_is}
use Rattle.tables.proofs.Lookups.{row_met}
use Rattle.tables.proofs.find_row.Goals as goal

pub returns-then-t-i : goal.returns-then-t-i
returns-then-t-i c =
    let l = c in
    let s = l in
    let h : l.min-i.result < s.args.count = omega arith in
    row_met s.requires l.min-i.result h
    (word_is (search rules) s.ranges.number c.if-t-i.true)
