-- Every definition opened at once: `unfolding opened` lets closed examples compute.
-- Written by tests/generate_opened.py.
use Rattle.map.proofs.Opened as below
use Rattle.nesting.specs.Contents.{piece_rows, is_in, listed_under, lines, contents, contents_of}

unfoldable pub opened : Unit {0}
unfolding below.opened piece_rows is_in listed_under lines contents contents_of
opened = tt
