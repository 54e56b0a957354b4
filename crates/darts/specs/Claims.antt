-- What is claimed of positions held in 16 bits, as ring walks hold them. Proved in proofs/Narrow.antt
-- (`positions_fit`).
use Rattle.std.specs.Prelude.{◌≡◌, true, ℕ, ◌+◌, ◌*◌, ◌/◌, ◌%◌, ◌^◌, ◌<◌, length}
use Rattle.map.specs.Limits.{edge_width}
use Rattle.map.specs.Rows.{Lent, whole}

-- on any tables that condition 1 lets through no position of a directed edge loses a bit, whether its row is in use or
-- free, and neither do the two of a new edge behind the last row; other tables are answered 1 before any walk
abbrev pub PositionsFit : Type 0
PositionsFit = (l : Lent) → whole l ≡ true → (p : ℕ) → p < length l.edges / edge_width * 2 + 2 → p % 2 ^ 16 ≡ p
