-- A ring marked, by position.
use Rattle.std.specs.Prelude.{cond, List, ◌++◌, ℕ, ◌*◌, ℤ, get_or, drop}
use Rattle.lists.specs.Tables.{table}
use Rattle.map.specs.Darts.{ring, among}
use Rattle.map_rows.specs.Rows.{edge_map}
use Rattle.darts.specs.Positions.{dart_at}

-- the mark of position q, after the ring of position p is marked with v
abbrev pub mark_after : List ℤ → ℕ → ℕ → ℕ → List ℕ → ℕ → ℕ
mark_after edges n p v marks q = cond (among (ring (edge_map edges n) (dart_at edges p)) (dart_at edges q)) v
    (get_or marks q 0)

-- all marks after that: those behind the positions of n rows stay
abbrev pub ring_marked : List ℤ → ℕ → ℕ → ℕ → List ℕ → List ℕ
ring_marked edges n p v marks = table (mark_after edges n p v marks) 0 (n * 2) ++ drop (n * 2) marks
