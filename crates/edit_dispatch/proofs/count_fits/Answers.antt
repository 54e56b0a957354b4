-- `edit_dispatch::count_fits` meets its contract. Assumes nothing.

use Rattle.edit_dispatch.proofs.count_fits.Goals as goal

pub returns-then-k : goal.returns-then-k
returns-then-k c = rw c.if-k.true

pub returns-else-k : goal.returns-else-k
returns-else-k c = rw c.if-k.false
