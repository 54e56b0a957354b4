-- What both sides of each edge name in a pair of columns.
use Rattle.std.specs.Prelude.{Bool, ◌&&◌, List, ℕ, ◌+◌, ◌*◌, ℤ, nat_abs}
use Rattle.lists.specs.Scans.{any_of, all_of}
use Rattle.lists.specs.Tables.{table}
use Rattle.tables.specs.Tables.{same_z, column}
use Rattle.map.specs.Rows.{has_edge}
use Rattle.map_rows.specs.Rows.{edge_map}
use Rattle.darts.specs.Positions.{side_cell}

-- a table of n rows has one with the number
abbrev pub has_row : ℕ → List ℤ → ℕ → ℤ → Bool
has_row w t n z = any_of (same_z z) (column w t n)

-- the edge of a link is among n
abbrev pub has_link : List ℤ → ℕ → ℤ → Bool
has_link l n z = has_edge (edge_map l n) (nat_abs z)

-- both numbers of edge row i in columns k and k + 1 pass, and those of the first n rows
abbrev pub both_sides : (ℤ → Bool) → List ℤ → ℕ → ℕ → Bool
both_sides q l k i = q (side_cell l (i * 2) k) && q (side_cell l (i * 2 + 1) k)

abbrev pub all_sides : (ℤ → Bool) → List ℤ → ℕ → ℕ → Bool
all_sides q l k n = all_of (both_sides q l k) (table (λ i. i) 0 n)
