-- No position loses a bit in 16 bits. Assumes nothing.
use native.Mathlib.Nat.{mod-eq_of_lt}
use native.Mathlib.Omega.{arith}
use Rattle.tables.proofs.Filled.{whole_rows_lem}
use Rattle.map.specs.Limits.{max_edges, edge_width}
use Rattle.map.proofs.RoundTrip.{whole_tables}
use Rattle.darts.specs.Claims.{PositionsFit}

pub positions_fit : PositionsFit
positions_fit l w p h = let few = (whole_rows_lem edge_width 0 max_edges l.edges (whole_tables l w).1).most in
    mod-eq_of_lt (omega (arith, few, h))
