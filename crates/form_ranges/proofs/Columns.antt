-- The first column of the map's tables: numbers that are not negative, and the numbers of the rows. Assumes nothing.
use mathlib.Core.Path.{◌≡◌, sym, ap, ◌∙◌}
use mathlib.Core.Bool.{true}
use mathlib.Core.List.{List, map}
use Prim.Native.Nat.{ℕ, zero, suc, ◌*◌, ◌≤◌}
use native.Mathlib.Omega.{arith}
use lib.Dec.{lit<}
use lib.IntN.{ℤ, pos, nat_abs}
use lib.ListN.{get_or}
use lib.Seq.{get_or-take}
use lib.Signed.{non_neg}
use Rattle.lists.specs.Scans.{all_of, first_or}
use Rattle.lists.specs.Tables.{table}
use Rattle.lists.proofs.Scans.{table_same, all_of-table}
use Rattle.tables.specs.Tables.{rows, row_at, column}
use Rattle.tables.proofs.Rows.{row_first, rows_all}
use Rattle.map.specs.Rows.{node_of, edge_of}
use Rattle.map.specs.Form.{node_ranges, edge_ranges, face_ranges}
use Rattle.map_rows.specs.Rows.{nodes_of, edges_of, faces_of, node_at, edge_at, face_at}
use Rattle.map_rows.proofs.Rows.{node_cells_lem, edge_cells_lem, face_cell_lem, node_numbers_lem, edge_numbers_lem, faces_table}

module _ (l : List ℤ) (n : ℕ) where
  -- its numbers are not negative in rows that are in range
  pub node_naturals : all_of node_ranges (rows 4 n l) ≡ true → all_of non_neg (column 4 l n) ≡ true
  node_naturals r = all_of-table non_neg (λ i. get_or l (i * 4) (pos 0)) 0 n
      (λ i s t. ap non_neg (node_cells_lem l i (rows_all 4 l node_ranges n r i (omega arith))).number)

  pub edge_naturals : all_of edge_ranges (rows 32 n l) ≡ true → all_of non_neg (column 32 l n) ≡ true
  edge_naturals r = all_of-table non_neg (λ i. get_or l (i * 32) (pos 0)) 0 n
      (λ i s t. ap non_neg (edge_cells_lem l i (rows_all 32 l edge_ranges n r i (omega arith))).number)

  pub face_naturals : all_of face_ranges (rows 5 n l) ≡ true → all_of non_neg (column 5 l n) ≡ true
  face_naturals r = all_of-table non_neg (λ i. get_or l (i * 5) (pos 0)) 0 n
      (λ i s t. ap non_neg (face_cell_lem l i (rows_all 5 l face_ranges n r i (omega arith))))

  -- they are the rows' numbers
  pub node-column : table (λ i. nat_abs (get_or l (i * 4) (pos 0))) 0 n ≡ map (λ r. r.number) (nodes_of l n)
  unfolding node_of
  node-column = sym (node_numbers_lem l n ∙ table_same (λ i. (node_at l i).number) (λ i. nat_abs (get_or l (i * 4) (pos 0))) 0 n
      (λ i s t. ap nat_abs (row_first 4 l i (lit< tt))))

  pub edge-column : table (λ i. nat_abs (get_or l (i * 32) (pos 0))) 0 n ≡ map (λ r. r.number) (edges_of l n)
  unfolding edge_of
  edge-column = sym (edge_numbers_lem l n ∙ table_same (λ i. (edge_at l i).number)
      (λ i. nat_abs (get_or l (i * 32) (pos 0))) 0 n (λ i s t. ap nat_abs (row_first 32 l i (lit< tt))))

  pub face_column : table (λ i. nat_abs (get_or l (i * 5) (pos 0))) 0 n ≡ faces_of l n
  face_column = sym (faces_table l n ∙ table_same (face_at l) (λ i. nat_abs (get_or l (i * 5) (pos 0))) 0 n
      (λ i s t. ap nat_abs (row_first 5 l i (lit< tt))))

-- the first face
pub first_face : (l : List ℤ) (n : ℕ) → 1 ≤ n → first_or 1 (faces_of l n) ≡ nat_abs (get_or l 0 (pos 0))
first_face l zero h = absurd (omega arith)
first_face l (suc n) h = ap nat_abs (get_or-take 5 l 0 (pos 0) (lit< tt))

-- a face row is in range by its number
pub face_tested : (l : List ℤ) (i : ℕ) → face_ranges (row_at 5 l i) ≡ non_neg (get_or l (i * 5) (pos 0))
face_tested l i = ap non_neg (row_first 5 l i (lit< tt))
