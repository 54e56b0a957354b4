-- A new last edge row: the rows are those before and the new one, in range, in rising order, with links that name rows.
-- Assumes nothing.
use mathlib.Core.Path.{◌≡◌, sym, ap, ◌∙◌, subst}
use mathlib.Core.Bool.{true, ◌&&◌}
use mathlib.Core.Logic.{⊎_elim}
use mathlib.Core.List.Memᴰ
use mathlib.Core.List.{List, [], ◌∷◌, ◌++◌, map, flat_map, Memᴰ}
use mathlib.Core.List.{map-append}
use Prim.Native.Nat.{ℕ, suc, ◌+◌, ◌*◌, ◌-◌, ◌/◌, ◌≤◌, ◌<◌}
use native.Mathlib.Omega.{arith}
use lib.IntN.{ℤ, pos}
use lib.ListN.{length, replicate, length-append}
use lib.Seq.{paste, length-paste}
use Rattle.lists.specs.Tests.{same}
use Rattle.lists.specs.Scans.{all_of, find, is_some}
use Rattle.lists.proofs.Appends.{all_append, each_append}
use Rattle.lists.proofs.Bools.{same_eq}
use Rattle.lists.proofs.Scans.{table_in}
use Rattle.tables.specs.Tables.{rows, filled, numbered}
use Rattle.tables.proofs.Filled.{whole_rows_lem, Wide, rows_flat, filled_rest}
use Rattle.tables.proofs.Rows.{all_table}
use Rattle.tables.proofs.Writes.{pushed}
use Rattle.tables.proofs.Rising.{all_weaker}
use Rattle.curves.specs.Curves.{points, max_points}
use Rattle.curves.proofs.Runs.{and_left, and_right}
use Rattle.map.specs.Limits.{TwelvePoints, max_edges, last_number, edge_width}
use Rattle.map.specs.Rows.{Edge, Map, Sizes, map_of, lent_with, box_of, edge_cells, has_edge}
use Rattle.map.specs.Form.{edge_ranges}
use Rattle.map.proofs.RoundTrip.{Holds, reads_back, edge-wide}
use Rattle.map_rows.specs.Rows.{edges_of, edge_at, edge_map, EdgeRows, edges_alone}
use Rattle.map_rows.proofs.Rows.{edges_table, edges_length, edge-row_of, edge_number_in}
use Rattle.map_rows.proofs.RowCurves.{edge_few, table_edges_wide}
use Rattle.darts.proofs.Positions.{row_there}
use Rattle.edge_rows.specs.Holds.{EdgeTable}
use Rattle.edge_rows.proofs.Lists.{find_more, find_last, numbered_push}
use Rattle.edge_rows.proofs.Filled.{edges_filled}

-- a row that can follow the others
pub record Follows (l : List ℤ) (n : ℕ) (row : Edge) : Type 0 where
  pub few : length (points row.curve) ≤ max_points
  pub ranges : edge_ranges (edge_cells row) ≡ true
  pub above : numbered 1 row.number (map (λ e. e.number) (edges_of l n)) ≡ true
  pub least : 1 ≤ row.number
  pub most : row.number ≤ last_number
  pub left : row.next_left.edge ≡ row.number
  pub right : row.next_right.edge ≡ row.number

-- what is named in the table is a row, from 1 on
named-least : {l : List ℤ} {n : ℕ} → EdgeRows l n → (e : ℕ) → has_edge (edge_map l n) e ≡ true → 1 ≤ e
named-least t e h = let r = row_there t e h in let k = (edge_number_in t r.0 r.1).0 in let q = r.2 in omega arith

module _ {l : List ℤ} {n : ℕ} (t : EdgeTable l n) where
  row_names : (i : ℕ) → i < n → has_edge (edge_map l n) (edge_at l i).next_left.edge
      && has_edge (edge_map l n) (edge_at l i).next_right.edge ≡ true
  row_names i h = all_table (λ e. has_edge (edge_map l n) e.next_left.edge
      && has_edge (edge_map l n) e.next_right.edge) (edge_at l) n
      (ap (all_of (λ e. has_edge (edge_map l n) e.next_left.edge && has_edge (edge_map l n) e.next_right.edge))
      (sym (edges_table l n)) ∙ t.rows.named) i h

  -- each row of the table can be held
  pub row_holds : (i : ℕ) → i < n → Holds (edge_at l i)
  row_holds i h =
      let a = has_edge (edge_map l n) (edge_at l i).next_left.edge in
      let b = has_edge (edge_map l n) (edge_at l i).next_right.edge in
      record {
        few = edge_few (edge-row_of t.rows i h);
        left = λ _ z. let k = named-least t.rows (edge_at l i).next_left.edge (and_left a b (row_names i h)) in
            omega arith;
        right = λ _ z. let k = named-least t.rows (edge_at l i).next_right.edge (and_right a b (row_names i h)) in
            omega arith;
      }

  pub rows_hold : (e : Edge) → Memᴰ e (edges_of l n) → Holds e
  rows_hold e m = let r = table_in (edge_at l) 0 n (subst (Memᴰ e) (edges_table l n) m) in let h = r.2 in
      subst Holds r.3 (row_holds r.0 (omega arith))

-- edges written into a table are read back
pub edges_read : (N : ℕ) (es : List Edge) → ((e : Edge) → Memᴰ e es → Holds e)
    → edges_of (filled (N * edge_width) (flat_map edge_cells es)) (length es) ≡ es
unfolding map_of lent_with
edges_read N es h =
    let s : Sizes = record { nodes = 0; edges = N; faces = 0; limit = TwelvePoints } in
    ap (λ (x : Map). x.edges) (reads_back (λ f. box_of []) s (edges_alone es) h)

module _ {l : List ℤ} {n : ℕ} (t : EdgeTable l n) (row : Edge) (f : Follows l n row)
    (room : n < length l / edge_width) where
  after : List Edge
  after = edges_of l n ++ row ∷ []

  written : List ℤ
  written = paste l (n * edge_width) (edge_cells row) edge_width

  size : length l / edge_width * edge_width ≡ length l
  size = (whole_rows_lem edge_width 0 max_edges l t.whole).size

  count : length after ≡ n + 1
  unfolding after
  count = length-append (edges_of l n) (row ∷ []) ∙ ap (λ (k : ℕ). k + 1) (edges_length l n)

  wide : Wide edge_width edge_cells after
  unfolding after
  wide = each_append (λ e. length (edge_cells e) ≡ edge_width) (edges_of l n) (row ∷ [])
      (table_edges_wide l n t.rows.fits t.rows.ranges) (edge-wide row f.few, tt)

  fits : n * edge_width + edge_width ≤ length l
  fits = let s = size in omega arith

  written_filled : written ≡ filled (length l) (flat_map edge_cells after)
  unfolding written after
  written_filled =
      ap (λ (r : List ℤ). paste r (n * edge_width) (edge_cells row) edge_width) (sym (edges_filled t))
      ∙ ap (λ (k : ℕ). paste (filled (length l) (flat_map edge_cells (edges_of l n))) (k * edge_width)
      (edge_cells row) edge_width) (sym (edges_length l n))
      ∙ pushed edge_width edge_cells (length l) (edges_of l n) row
      (table_edges_wide l n t.rows.fits t.rows.ranges) (edge-wide row f.few) (rw (edges_length l n) fits)

  pub pushed_long : length (paste l (n * edge_width) (edge_cells row) edge_width) ≡ length l
  pushed_long = length-paste l (n * edge_width) (edge_cells row) edge_width fits
      (let w = edge-wide row f.few in omega arith)

  holds : (e : Edge) → Memᴰ e after → Holds e
  unfolding after
  holds e m = ⊎_elim (rows_hold t e) (λ k. subst Holds (sym (Memᴰ.eq_of_singleton k))
      (record {
        few = f.few;
        left = λ _ z. let a = f.left in let b = f.least in omega arith;
        right = λ _ z. let a =
            f.right in let b = f.least in omega arith;
      })) (Memᴰ.append_cases (edges_of l n) m)

  pub pushed_edges : edges_of (paste l (n * edge_width) (edge_cells row) edge_width) (n + 1) ≡ edges_of l n ++ row ∷ []
  unfolding written after
  pushed_edges =
      ap (λ (r : List ℤ). edges_of r (n + 1))
      (written_filled ∙ ap (λ (k : ℕ). filled k (flat_map edge_cells after)) (sym size))
      ∙ ap (edges_of (filled (length l / edge_width * edge_width) (flat_map edge_cells after))) (sym count)
      ∙ edges_read (length l / edge_width) after holds

  pushed_rows : rows edge_width (n + 1) written ≡ map edge_cells after
  pushed_rows =
      ap (λ (r : List ℤ). rows edge_width (n + 1) r) written_filled
      ∙ ap (λ (k : ℕ). rows edge_width k (filled (length l) (flat_map edge_cells after))) (sym count)
      ∙ rows_flat edge_width edge_cells after (replicate (length l - length (flat_map edge_cells after)) (pos 0)) wide

  old_rows : rows edge_width n l ≡ map edge_cells (edges_of l n)
  old_rows =
      ap (rows edge_width n) (sym (edges_filled t))
      ∙ ap (λ (k : ℕ). rows edge_width k (filled (length l) (flat_map edge_cells (edges_of l n)))) (sym (edges_length l n))
      ∙ rows_flat edge_width edge_cells (edges_of l n)
      (replicate (length l - length (flat_map edge_cells (edges_of l n))) (pos 0))
      (table_edges_wide l n t.rows.fits t.rows.ranges)

  has : (e : ℕ) → has_edge (edge_map l n) e ≡ true → is_some (find (λ r. same r.number e) after) ≡ true
  unfolding after
  has e = find_more (λ r. same r.number e) (edges_of l n) (row ∷ [])

  has_row_lem : (e : ℕ) → e ≡ row.number → is_some (find (λ r. same r.number e) after) ≡ true
  unfolding after
  has_row_lem e q = find_last (λ r. same r.number e) (edges_of l n) row (same_eq row.number e (sym q))

  named : all_of (λ e. is_some (find (λ r. same r.number e.next_left.edge) after)
      && is_some (find (λ r. same r.number e.next_right.edge) after)) after ≡ true
  unfolding after
  named =
      all_append (λ e. is_some (find (λ r. same r.number e.next_left.edge) after)
      && is_some (find (λ r. same r.number e.next_right.edge) after)) (edges_of l n) (row ∷ [])
      (all_weaker (λ (e : Edge). has_edge (edge_map l n) e.next_left.edge
      && has_edge (edge_map l n) e.next_right.edge) _
      (λ (e : Edge) h. rw (
        has e.next_left.edge
            (and_left (has_edge (edge_map l n) e.next_left.edge) (has_edge (edge_map l n) e.next_right.edge) h),
        has e.next_right.edge (and_right (has_edge (edge_map l n) e.next_left.edge)
            (has_edge (edge_map l n) e.next_right.edge) h),
      ))
      (edges_of l n) t.rows.named)
      (rw (has_row_lem row.next_left.edge f.left, has_row_lem row.next_right.edge f.right))

  pub pushed_table_lem : EdgeTable (paste l (n * edge_width) (edge_cells row) edge_width) (n + 1)
  unfolding written after
  pushed_table_lem =
      record {
        rows =
            record {
              fits = let a = pushed_long in let b = fits in omega arith;
              ranges = ap (all_of edge_ranges) (pushed_rows ∙ map-append edge_cells (edges_of l n) (row ∷ []))
                  ∙ all_append edge_ranges (map edge_cells (edges_of l n)) (edge_cells row ∷ [])
                  (ap (all_of edge_ranges) (sym old_rows) ∙ t.rows.ranges) (rw f.ranges);
              rising = ap (λ (es : List Edge). numbered 1 (suc last_number) (map (λ e. e.number) es)) pushed_edges
                  ∙ ap (numbered 1 (suc last_number)) (map-append (λ (e : Edge). e.number) (edges_of l n) (row ∷ []))
                  ∙ numbered_push 1 row.number (suc last_number) (map (λ e. e.number) (edges_of l n)) f.above
                  f.least (let m = f.most in omega arith);
              named = ap (λ (es : List Edge). all_of
                  (λ e. is_some (find (λ r. same r.number e.next_left.edge) es)
                  && is_some (find (λ r. same r.number e.next_right.edge) es)) es) pushed_edges ∙ named;
            };
        rest = filled_rest edge_width edge_cells (length l) after (n + 1) wide count (sym written_filled);
        whole = rw pushed_long t.whole;
      }
