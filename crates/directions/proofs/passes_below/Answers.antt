-- `directions::passes_below` meets its contract. Assumes nothing.
use borrow.Author.Tests.{lt-leb, le-leb}
use Rattle.plane.specs.Below.{passes_below}
use Rattle.directions.proofs.passes_below.Goals as goal

pub returns-then-a-b : goal.returns-then-a-b
unfolding passes_below
returns-then-a-b c = rw (le-leb _ _ c.if-a-b.true) c.below_ordered.ensures

pub returns-else-a-b : goal.returns-else-a-b
unfolding passes_below
returns-else-a-b c = rw (lt-leb _ _ c.if-a-b.false) c.below_ordered-else-a-b.ensures
