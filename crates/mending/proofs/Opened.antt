-- Every definition opened at once: `unfolding opened` lets closed examples compute.
-- Written by tests/generate_opened.py.
use Rattle.map.proofs.Opened as below
use Rattle.mending.specs.Mend.{sketched, mended, changes, mend}

unfoldable pub opened : Unit {0}
unfolding below.opened sketched mended changes mend
opened = tt
