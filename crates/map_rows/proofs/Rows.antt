-- The map's rows by their place in a table: the rows in use are `table` of row i, what the numbers of row i are, and
-- numbers that rise. Assumes nothing.
use mathlib.Core.Path.{◌≡◌, sym, ap, ◌∙◌, subst}
use mathlib.Core.Bool.{true, ◌&&◌}
use mathlib.Core.List.{List, [], ◌∷◌, map, Memᴰ}
use Prim.Native.Nat.{ℕ, suc, ◌+◌, ◌*◌, ◌<◌, ◌≤◌}
use native.Mathlib.Omega.{arith}
use lib.IntN.{ℤ, pos, negsuc, nat_abs}
use lib.Dec.{ltb, lit<, lit≤}
use lib.ListN.{length, get_or, take, drop}
use lib.Signed.{le_z, non_neg}
use Rattle.lists.specs.Scans.{all_of, linked}
use Rattle.lists.specs.Tables.{table}
use Rattle.lists.proofs.Bools.{and_left, and_right}
use Rattle.tables.specs.Tables.{rows, row_at, cell, within, is_zero, numbered, Rising}
use Rattle.tables.proofs.Cells.{row_room}
use Rattle.tables.proofs.Numbers.{get_d_in}
use Rattle.tables.proofs.Tests.{pos_abs}
use Rattle.tables.proofs.Rows.{row_cell, row_first, rows_all, of_table, of_length, of_get_d, rows_rising, numbers-table}
use Rattle.tables.proofs.Rows.{rises, number_in}
use Rattle.curves.specs.Curves.{coordinate, max_points}
use Rattle.curves.proofs.Runs.{coordinate-pos}
use Rattle.map.specs.Limits.{node_width, edge_width, face_width, last_number}
use Rattle.map.specs.Rows.{Node, Edge, node_of, edge_of, face_row_of, face_of, dart_of}
use Rattle.map.specs.Form.{node_ranges, edge_ranges, face_ranges}
use Rattle.map_rows.specs.Rows.{nodes_of, edges_of, faces_of, node_at, edge_at, face_at, NodeRow, EdgeRow, NodeRows}
use Rattle.map_rows.specs.Rows.{EdgeRows, FaceRows}

-- ---- nodes, edges and faces

module _ (l : List ℤ) (n : ℕ) where
  pub nodes_table : nodes_of l n ≡ table (node_at l) 0 n
  nodes_table = of_table node_width l node_of n

  pub edges_table : edges_of l n ≡ table (edge_at l) 0 n
  edges_table = of_table edge_width l edge_of n

  pub faces_table : faces_of l n ≡ table (face_at l) 0 n
  faces_table = of_table face_width l face_row_of n

  pub nodes_length : length (nodes_of l n) ≡ n
  nodes_length = of_length node_width l node_of n

  pub edges_length : length (edges_of l n) ≡ n
  edges_length = of_length edge_width l edge_of n

  pub faces_length : length (faces_of l n) ≡ n
  faces_length = of_length face_width l face_row_of n

  pub nodes_get_d : (i : ℕ) (d : Node) → i < n → get_or (nodes_of l n) i d ≡ node_at l i
  nodes_get_d = of_get_d node_width l node_of n

  pub edges_get_d : (i : ℕ) (d : Edge) → i < n → get_or (edges_of l n) i d ≡ edge_at l i
  edges_get_d = of_get_d edge_width l edge_of n

  -- edge row i is one of the edges
  pub edge_member : (i : ℕ) → i < n → Memᴰ (edge_at l i) (edges_of l n)
  edge_member i h = subst (λ (r : Edge). Memᴰ r (edges_of l n)) (edges_get_d i (edge_at l i) h)
      (get_d_in (edges_of l n) i (edge_at l i) (rw edges_length h))

  pub faces_get_d : (i d : ℕ) → i < n → get_or (faces_of l n) i d ≡ face_at l i
  faces_get_d = of_get_d face_width l face_row_of n

-- each row of a table in range is in range
pub edge_row_lem : (l : List ℤ) (n i : ℕ) → n * edge_width ≤ length l → all_of edge_ranges (rows edge_width n l) ≡ true → i < n
    → EdgeRow l i
edge_row_lem l n i fits h t = record {
  fits = let r = row_room edge_width n i t in omega arith;
  ranges = rows_all edge_width l edge_ranges n h i t;
}

pub node-row_of : {l : List ℤ} {n : ℕ} → NodeRows l n → (i : ℕ) → i < n → NodeRow l i
node-row_of {l} {n} r i t = record {
  fits = omega (arith, row_room node_width n i t, r.fits);
  ranges = rows_all node_width l node_ranges n r.ranges i t;
}

pub edge-row_of : {l : List ℤ} {n : ℕ} → EdgeRows l n → (i : ℕ) → i < n → EdgeRow l i
edge-row_of {l} {n} r i t = edge_row_lem l n i r.fits r.ranges t

-- ---- the numbers of a row in range

-- the numbers of edge row i, in its fields' terms
pub record EdgeCells (l : List ℤ) (i : ℕ) : Type 0 where
  pub number : get_or l (i * edge_width) (pos 0) ≡ pos (edge_at l i).number
  pub start : get_or l (i * edge_width + 1) (pos 0) ≡ pos (edge_at l i).start
  pub end : get_or l (i * edge_width + 2) (pos 0) ≡ pos (edge_at l i).end
  pub next_left : dart_of (get_or l (i * edge_width + 3) (pos 0)) ≡ (edge_at l i).next_left
  pub next_right : dart_of (get_or l (i * edge_width + 4) (pos 0)) ≡ (edge_at l i).next_right
  pub left : get_or l (i * edge_width + 5) (pos 0) ≡ pos (edge_at l i).left
  pub right : get_or l (i * edge_width + 6) (pos 0) ≡ pos (edge_at l i).right

pub edge_cells_lem : (l : List ℤ) (i : ℕ) → edge_ranges (row_at edge_width l i) ≡ true → EdgeCells l i
unfolding edge_of
edge_cells_lem l i h =
    let r = row_at edge_width l i in
    let a = all_of non_neg (cell r 0 ∷ cell r 1 ∷ cell r 2 ∷ cell r 5 ∷ cell r 6 ∷ []) in
    let b = within 2 max_points (cell r 7) in
    let c = all_of coordinate (take (2 * nat_abs (cell r 7)) (drop 8 r)) in
    let signs = and_left a b (and_left (a && b) c
    (and_left (a && b && c) (all_of is_zero (drop (2 * nat_abs (cell r 7)) (drop 8 r))) h)) in
    let signs₁ = and_right (non_neg (cell r 0)) (all_of non_neg (cell r 1 ∷ cell r 2 ∷ cell r 5 ∷ cell r 6 ∷ [])) signs in
    let signs₂ = and_right (non_neg (cell r 1)) (all_of non_neg (cell r 2 ∷ cell r 5 ∷ cell r 6 ∷ [])) signs₁ in
    let signs₃ = and_right (non_neg (cell r 2)) (all_of non_neg (cell r 5 ∷ cell r 6 ∷ [])) signs₂ in
    let signs₄ = and_right (non_neg (cell r 5)) (all_of non_neg (cell r 6 ∷ [])) signs₃ in
    record {
      number = sym (row_first edge_width l i (lit< tt))
          ∙ pos_abs (cell r 0) (and_left (non_neg (cell r 0))
          (all_of non_neg (cell r 1 ∷ cell r 2 ∷ cell r 5 ∷ cell r 6 ∷ [])) signs);
      start = sym (row_cell edge_width l i 1 (lit< tt))
          ∙ pos_abs (cell r 1) (and_left (non_neg (cell r 1))
          (all_of non_neg (cell r 2 ∷ cell r 5 ∷ cell r 6 ∷ [])) signs₁);
      end = sym (row_cell edge_width l i 2 (lit< tt))
          ∙ pos_abs (cell r 2) (and_left (non_neg (cell r 2)) (all_of non_neg (cell r 5 ∷ cell r 6 ∷ [])) signs₂);
      next_left = ap dart_of (sym (row_cell edge_width l i 3 (lit< tt)));
      next_right = ap dart_of (sym (row_cell edge_width l i 4 (lit< tt)));
      left = sym (row_cell edge_width l i 5 (lit< tt))
          ∙ pos_abs (cell r 5) (and_left (non_neg (cell r 5)) (all_of non_neg (cell r 6 ∷ [])) signs₃);
      right = sym (row_cell edge_width l i 6 (lit< tt)) ∙ pos_abs (cell r 6) (and_left (non_neg (cell r 6)) true signs₄);
    }

-- the numbers of node row i
pub record NodeCells (l : List ℤ) (i : ℕ) : Type 0 where
  pub number : get_or l (i * node_width) (pos 0) ≡ pos (node_at l i).number
  pub x : get_or l (i * node_width + 1) (pos 0) ≡ pos (node_at l i).at.x
  pub y : get_or l (i * node_width + 2) (pos 0) ≡ pos (node_at l i).at.y
  pub face : face_of (get_or l (i * node_width + 3) (pos 0)) ≡ (node_at l i).face

pub node_cells_lem : (l : List ℤ) (i : ℕ) → node_ranges (row_at node_width l i) ≡ true → NodeCells l i
unfolding node_of
node_cells_lem l i h =
    let r = row_at node_width l i in
    let a = non_neg (cell r 0) in
    let b = coordinate (cell r 1) in
    let c = coordinate (cell r 2) in
    let h₂ = and_left (a && b && c) (le_z (negsuc 0) (cell r 3)) h in
    let h₁ = and_left (a && b) c h₂ in
    record {
      number = sym (row_first node_width l i (lit< tt)) ∙ pos_abs (cell r 0) (and_left a b h₁);
      x = sym (row_cell node_width l i 1 (lit< tt)) ∙ coordinate-pos (cell r 1) (and_right a b h₁);
      y = sym (row_cell node_width l i 2 (lit< tt)) ∙ coordinate-pos (cell r 2) (and_right (a && b) c h₂);
      face = ap face_of (sym (row_cell node_width l i 3 (lit< tt)));
    }

-- the number of face row i
pub face_cell_lem : (l : List ℤ) (i : ℕ) → face_ranges (row_at face_width l i) ≡ true → get_or l (i * face_width) (pos 0)
    ≡ pos (face_at l i)
face_cell_lem l i h = sym (row_first face_width l i (lit< tt)) ∙ pos_abs (cell (row_at face_width l i) 0) h

-- ---- numbers that rise

module _ (l : List ℤ) (n : ℕ) where
  pub node_numbers_lem : map (λ r. r.number) (nodes_of l n) ≡ table (λ i. (node_at l i).number) 0 n
  node_numbers_lem = numbers-table node_width l n node_of (λ r. r.number)

  pub edge_numbers_lem : map (λ r. r.number) (edges_of l n) ≡ table (λ i. (edge_at l i).number) 0 n
  edge_numbers_lem = numbers-table edge_width l n edge_of (λ r. r.number)

module _ (l : List ℤ) (n : ℕ) where
  pub nodes_rising : n * node_width ≤ length l → all_of node_ranges (rows node_width n l) ≡ true
      → linked ltb (map (λ r. r.number) (nodes_of l n)) ≡ true → Rising node_width l n
  nodes_rising fits ranges h =
      rows_rising node_width l n (λ i. (node_at l i).number) fits (lit≤ tt)
      (λ i t. (node_cells_lem l i (rows_all node_width l node_ranges n ranges i t)).number)
      (ap (linked ltb) (sym (node_numbers_lem l n)) ∙ h)

  pub edges_rising : n * edge_width ≤ length l → all_of edge_ranges (rows edge_width n l) ≡ true
      → linked ltb (map (λ r. r.number) (edges_of l n)) ≡ true → Rising edge_width l n
  edges_rising fits ranges h =
      rows_rising edge_width l n (λ i. (edge_at l i).number) fits (lit≤ tt)
      (λ i t. (edge_cells_lem l i (rows_all edge_width l edge_ranges n ranges i t)).number)
      (ap (linked ltb) (sym (edge_numbers_lem l n)) ∙ h)

  pub faces_rising : n * face_width ≤ length l → all_of face_ranges (rows face_width n l) ≡ true → linked ltb (faces_of l n)
      ≡ true → Rising face_width l n
  faces_rising fits ranges h =
      rows_rising face_width l n (face_at l) fits (lit≤ tt)
      (λ i t. face_cell_lem l i (rows_all face_width l face_ranges n ranges i t))
      (ap (linked ltb) (sym (faces_table l n)) ∙ h)

module _ {l : List ℤ} {n : ℕ} where
  pub node_rows_rising : NodeRows l n → Rising node_width l n
  node_rows_rising r = nodes_rising l n r.fits r.ranges
      (rises 1 (suc last_number) (map (λ r. r.number) (nodes_of l n)) r.rising)

  pub edge_rows_rising : EdgeRows l n → Rising edge_width l n
  edge_rows_rising r = edges_rising l n r.fits r.ranges
      (rises 1 (suc last_number) (map (λ r. r.number) (edges_of l n)) r.rising)

  pub face_rows_rising : FaceRows l n → Rising face_width l n
  face_rows_rising r = faces_rising l n r.fits r.ranges (rises 0 (suc last_number) (faces_of l n) r.rising)

-- ---- numbers in use, from the least to the last

module _ {l : List ℤ} {n : ℕ} where
  pub node_number_in : NodeRows l n → (i : ℕ) → i < n → (1 ≤ (node_at l i).number) × ((node_at l i).number < suc last_number)
  node_number_in r = number_in 1 (suc last_number) (λ i. (node_at l i).number) n
      (ap (numbered 1 (suc last_number)) (sym (node_numbers_lem l n)) ∙ r.rising)

  pub edge_number_in : EdgeRows l n → (i : ℕ) → i < n → (1 ≤ (edge_at l i).number) × ((edge_at l i).number < suc last_number)
  edge_number_in r = number_in 1 (suc last_number) (λ i. (edge_at l i).number) n
      (ap (numbered 1 (suc last_number)) (sym (edge_numbers_lem l n)) ∙ r.rising)

  pub face_number_in : FaceRows l n → (i : ℕ) → i < n → (0 ≤ face_at l i) × (face_at l i < suc last_number)
  face_number_in r = number_in 0 (suc last_number) (face_at l) n
      (ap (numbered 0 (suc last_number)) (sym (faces_table l n)) ∙ r.rising)
