-- `head::is_record` meets its contract. Assumes nothing.
use mathlib.Core.Path.{ap₂}
use mathlib.Core.Bool.{◌||◌}
use lib.Dec.{lit<}
use lib.IntN.{pos}
use borrow.Author.Rules.{sfits_of}
use Rattle.tables.proofs.Order.{word_test}
use Rattle.head.proofs.is_record.Goals as goal

pub returns : goal.returns
returns c = ap₂ ◌||◌ (word_test {b = pos 6} c.ranges.points (sfits_of (lit< tt)))
    (word_test {b = pos 12} c.ranges.points (sfits_of (lit< tt)))
