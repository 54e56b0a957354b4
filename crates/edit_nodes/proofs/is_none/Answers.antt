-- `edit_nodes::is_none` meets its contract. Assumes nothing.
use mathlib.Core.Path.{◌∙◌}
use lib.Dec.{lit<}
use lib.IntN.{negsuc}
use borrow.Author.Rules.{sfits_of}
use Rattle.tables.proofs.Order.{word_test}
use Rattle.edit_nodes.proofs.Faces.{minus_one_is}
use Rattle.edit_nodes.proofs.is_none.Goals as goal

pub returns : goal.returns
returns c = word_test {a = c.args.face} {b = negsuc 0} c.ranges.face (sfits_of (lit< tt))
    ∙ minus_one_is c.args.face
