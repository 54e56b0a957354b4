-- Lines by rows, and their numbers as they are written.
use Rattle.std.specs.Prelude.{◌≡◌, true, List, ℕ, ◌+◌, ◌*◌, ◌/◌, ◌%◌, ◌<◌, ◌≤◌, ℤ, length, get_or}
use Rattle.tables.specs.Tables.{row_at}
use Rattle.map.specs.Limits.{face_width}
use Rattle.map.specs.Form.{face_ranges}
use Rattle.map_rows.specs.Rows.{NodeRow}
use Rattle.nesting.specs.Contents.{Line, line}
use Rattle.map_piece_faces.specs.InFaces.{number_of}

-- a line by rows with the number of its row
abbrev pub numbered : List ℤ → List ℤ → Line → Line
numbered nodes faces l = line l.depth l.piece (number_of nodes faces l.piece l.number)

-- the row of vertex v, twice the row and one more for a piece, is there and in range
pub record RowThere (nodes faces : List ℤ) (v : ℕ) : Type 0 where
  pub node : v % 2 ≡ 1 → NodeRow nodes (v / 2)
  pub face_fits : (v % 2 ≡ 1 → ⊥) → v / 2 * face_width + face_width ≤ length faces
  pub face_ranges : (v % 2 ≡ 1 → ⊥) → face_ranges (row_at face_width faces (v / 2)) ≡ true

-- so are those of n lines that are noted
pub record LinesThere (nodes faces : List ℤ) (notes : List ℕ) (n : ℕ) : Type 0 where
  pub noted : n * 2 ≤ length notes
  pub there : (i : ℕ) → i < n → RowThere nodes faces (get_or notes (i * 2 + 1) 0)
