-- `darts::reverse` meets its contract. Assumes nothing.
use borrow.Author.Rules.{rules}
use mathlib.Core.Path.{sym}
use Rattle.darts.proofs.Positions.{even_of, odd_of, reverse_even, reverse-odd}
use Rattle.darts.proofs.reverse.Goals as goal

pub returns-then-p-eq0 : goal.returns-then-p-eq0
returns-then-p-eq0 c = sym (reverse_even (even_of _ (search rules)))

pub returns-else-p-eq0 : goal.returns-else-p-eq0
returns-else-p-eq0 c = sym (reverse-odd (odd_of _ (search rules)))
