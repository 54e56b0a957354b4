-- The number of rows from lo to hi falls.
use Prim.Native.Nat.{◌-◌}
use Rattle.tables.proofs.+search_row.Given as goal

abbrev pub decreases-search_row : goal.decreases-search_row
decreases-search_row l = l.hi - l.lo
