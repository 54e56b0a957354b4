-- The curve of an edge row in range: a run of 2 to 12 points within the table. Assumes nothing.
use mathlib.Core.Path.{◌≡◌, sym, ap, ◌∙◌, subst}
use mathlib.Core.Bool.{true, ◌&&◌}
use mathlib.Core.List.{List, [], ◌∷◌}
use Prim.Native.Nat.{ℕ, zero, suc, ◌+◌, ◌*◌, ◌-◌, ◌/◌, ◌≤◌}
use native.Mathlib.Nat.{zero-add}
use native.Mathlib.Omega.{arith}
use lib.IntN.{ℤ, pos, nat_abs}
use lib.Dec.{lit<}
use lib.ListN.{length, get_or, take, drop, length-drop}
use lib.Seq.{length-take-le, take-take, drop-drop, take-nil}
use lib.Signed.{non_neg}
use borrow.Author.Tests.{le-leb}
use Rattle.lists.specs.Scans.{all_of}
use Rattle.lists.proofs.Scans.{length-table}
use Rattle.curves.specs.Curves.{Curve, points, point_at, Run, is_run_to, curve_of, coordinate, max_points}
use Rattle.curves.proofs.Runs.{and_left, and_right, curve_is}
use Rattle.tables.specs.Tables.{rows, cell, within, is_zero}
use Rattle.tables.proofs.Tests.{within-back, within-least, within-most}
use Rattle.tables.proofs.Rows.{row_cell, each-table}
use Rattle.tables.proofs.Filled.{Wide}
use Rattle.map.specs.Limits.{edge_width}
use Rattle.map.specs.Rows.{edge_of, edge_cells}
use Rattle.map.specs.Form.{edge_ranges}
use Rattle.map.proofs.RoundTrip.{edge-wide}
use Rattle.map_rows.specs.Rows.{EdgeRow, edge_cells_at, edges_of, edge_at, point_count, run_at}
use Rattle.map_rows.proofs.Rows.{edge_row_lem, edges_table}

drop-take : {A : Type 0} (k n : ℕ) (l : List A) → drop k (take (k + n) l) ≡ take n (drop k l)
drop-take {A} zero n l = rw zero-add
drop-take {A} (suc k) n [] = rw (take-nil {A = A} (suc k + n), take-nil {A = A} n)
drop-take {A} (suc k) n (x ∷ l) = ap (drop (suc k)) (ap (λ (m : ℕ). take m (x ∷ l)) (suc_plus k n)) ∙ drop-take k n l
  where
    suc_plus : (a b : ℕ) → suc a + b ≡ suc (a + b)
    suc_plus a b = omega arith

-- ---- the curve of an edge row

module _ {l : List ℤ} {i : ℕ} (row : EdgeRow l i) where
  cell_7 : cell (edge_cells_at l i) 7 ≡ get_or l (i * 32 + 7) (pos 0)
  cell_7 = row_cell edge_width l i 7 (lit< tt)

  in_use : all_of non_neg (cell (edge_cells_at l i) 0 ∷ cell (edge_cells_at l i) 1 ∷ cell (edge_cells_at l i) 2
      ∷ cell (edge_cells_at l i) 5 ∷ cell (edge_cells_at l i) 6 ∷ [])
      && within 2 max_points (cell (edge_cells_at l i) 7)
      && all_of coordinate (take (2 * nat_abs (cell (edge_cells_at l i) 7)) (drop 8 (edge_cells_at l i))) ≡ true
  in_use = and_left _ (all_of is_zero (drop (2 * nat_abs (cell (edge_cells_at l i) 7)) (drop 8 (edge_cells_at l i))))
      row.ranges

  few : within 2 max_points (get_or l (i * 32 + 7) (pos 0)) ≡ true
  few =
      subst (λ (z : ℤ). within 2 max_points z ≡ true) cell_7
      (and_right (all_of non_neg (cell (edge_cells_at l i) 0 ∷ cell (edge_cells_at l i) 1 ∷ cell (edge_cells_at l i) 2
      ∷ cell (edge_cells_at l i) 5 ∷ cell (edge_cells_at l i) 6 ∷ [])) _
      (and_left _ (all_of coordinate (take (2 * nat_abs (cell (edge_cells_at l i) 7)) (drop 8 (edge_cells_at l i)))) in_use))

  pub count_pos : get_or l (i * 32 + 7) (pos 0) ≡ pos (point_count l i)
  count_pos = sym (within-back 2 max_points (get_or l (i * 32 + 7) (pos 0)) few)

  pub count_least : 2 ≤ point_count l i
  count_least = within-least 2 max_points (get_or l (i * 32 + 7) (pos 0)) few

  pub count_most : point_count l i ≤ max_points
  count_most = within-most 2 max_points (get_or l (i * 32 + 7) (pos 0)) few

  same-run : take (2 * nat_abs (cell (edge_cells_at l i) 7)) (drop 8 (edge_cells_at l i)) ≡ run_at l i
  same-run =
      ap (λ (z : ℤ). take (2 * nat_abs z) (drop 8 (edge_cells_at l i))) cell_7
      ∙ ap (take (2 * point_count l i)) (drop-take 8 24 (drop (i * 32) l))
      ∙ take-take (2 * point_count l i) 24 (drop 8 (drop (i * 32) l)) (omega (arith, count_most))
      ∙ ap (take (2 * point_count l i)) (drop-drop 8 (i * 32) l)

  run_length : length (run_at l i) ≡ 2 * point_count l i
  run_length = length-take-le (2 * point_count l i) (drop (i * 32 + 8) l)
      (rw (length-drop (i * 32 + 8) l) (omega (arith, count_most, row.fits)))

  coordinates_at : all_of coordinate (run_at l i) ≡ true
  coordinates_at = ap (all_of coordinate) (sym same-run)
      ∙ and_right (all_of non_neg (cell (edge_cells_at l i) 0 ∷ cell (edge_cells_at l i) 1 ∷ cell (edge_cells_at l i) 2
      ∷ cell (edge_cells_at l i) 5 ∷ cell (edge_cells_at l i) 6 ∷ [])
      && within 2 max_points (cell (edge_cells_at l i) 7)) _ in_use

  pub run_at_lem : Run (run_at l i)
  unfolding is_run_to
  run_at_lem =
      let e : length (run_at l i) / 2 ≡ point_count l i = omega (arith, run_length) in
      record {
        is = rw (
          e,
          le-leb 2 (point_count l i) count_least,
          le-leb (point_count l i) max_points count_most,
        ) coordinates_at;
      }

  pub curve_at : curve_of (run_at l i) ≡ (edge_at l i).curve
  unfolding edge_of
  curve_at = ap curve_of (sym same-run)

  -- its points, at most 12
  points_at : length (points (edge_at l i).curve) ≡ point_count l i
  points_at =
      let e : length (run_at l i) / 2 ≡ point_count l i = omega (arith, run_length) in
      ap (λ (c : Curve). length (points c)) (sym curve_at ∙ curve_is run_at_lem)
      ∙ ap suc (length-table (point_at (run_at l i)) 1 (length (run_at l i) / 2 - 1)) ∙ omega (arith, count_least)

  pub edge_few : length (points (edge_at l i).curve) ≤ max_points
  edge_few = rw points_at count_most

-- the edges of a table in range
pub table_edges_wide : (l : List ℤ) (n : ℕ) → n * edge_width ≤ length l → all_of edge_ranges (rows edge_width n l) ≡ true
    → Wide edge_width edge_cells (edges_of l n)
table_edges_wide l n fits ranges =
    subst (Wide edge_width edge_cells) (sym (edges_table l n))
    (each-table (λ e. length (edge_cells e) ≡ edge_width) (edge_at l) n
    (λ i t. edge-wide (edge_at l i) (edge_few (edge_row_lem l n i fits ranges t))))
