-- A node's face stored in its row: the row has the face, and the others are as they were. Assumes nothing.
use Rattle.std.specs.Prelude.{Some}
use mathlib.Core.Path.{◌≡◌, refl, sym, ap, ◌∙◌}
use mathlib.Core.Bool.{Bool, true, false, cond, ◌&&◌}
use mathlib.Core.Logic.{◌⊎◌, inl, inr}
use mathlib.Core.List.{List, map}
use Prim.Native.Nat.{ℕ, suc, ◌+◌, ◌*◌, ◌-◌, ◌≤◌, ◌<◌}
use native.Mathlib.Omega.{arith}
use lib.IntN.{ℤ, pos, negsuc}
use lib.ListN.{length, get_or, set, take, drop, length-drop, length-set}
use lib.Seq.{length-take-le, get_or-set_same, get_or-set_other, take-set-le, drop-set-lt, take-set-lt, drop-set-add}
use lib.Signed.{le_z, non_neg}
use Rattle.lists.specs.Tests.{same}
use Rattle.lists.specs.Scans.{all_of}
use Rattle.lists.specs.Tables.{place}
use Rattle.lists.proofs.Bools.{equal?, same_eq, same_false}
use Rattle.lists.proofs.Scans.{table_same, all_of-table}
use Rattle.curves.specs.Curves.{coordinate}
use Rattle.curves.proofs.Runs.{and_left}
use Rattle.map.specs.Limits.{last_number, node_width}
use Rattle.map.specs.Rows.{Node, node_of, face_of}
use Rattle.tables.specs.Tables.{same_z, column, row_at, cell, is_zero, numbered}
use Rattle.map.specs.Form.{node_ranges}
use Rattle.map.specs.Edits.{with_face}
use Rattle.map_rows.specs.Rows.{nodes_of, node_at, NodeRows}
use Rattle.tables.proofs.Rows.{map-table, rows-table, rows_all}
use Rattle.map_rows.proofs.Rows.{nodes_table, node_numbers_lem, node_cells_lem, node_rows_rising}
use Rattle.tables.proofs.Cells.{row_room}
use Rattle.tables.proofs.Lookups.{row_place}
use Rattle.edge_rows.specs.Holds.{NodeTable}

-- rows with one number are one row
pub node_once : {l : List ℤ} {n : ℕ} → NodeRows l n → (i j : ℕ) → i < n → j < n → (node_at l i).number
    ≡ (node_at l j).number → i ≡ j
node_once {l} {n} t i j s k e =
    let at : (x : ℕ) → x < n → get_or l (x * node_width) (pos 0) ≡ pos (node_at l x).number =
    λ x b. (node_cells_lem l x (rows_all node_width l node_ranges n t.ranges x b)).number in
    let q : Some i ≡ Some j = sym (row_place node_width l n (node_rows_rising t) i s)
    ∙ ap (λ (z : ℤ). place (same_z z) 0 (column node_width l n)) (at i s ∙ ap pos e ∙ sym (at j k))
    ∙ row_place node_width l n (node_rows_rising t) j k in
    cc

module _ (l : List ℤ) (i : ℕ) (z : ℤ) where
  stored : List ℤ
  stored = set l (i * node_width + 3) z

  -- the row itself
  row_here : row_at node_width stored i ≡ set (row_at node_width l i) 3 z
  unfolding stored
  row_here = ap (take 4) (drop-set-add (i * node_width) l 3 z) ∙ take-set-lt 4 (drop (i * node_width) l) 3 z (omega arith)

  -- another row
  row_there : (j : ℕ) → (j ≡ i → ⊥) → row_at node_width stored j ≡ row_at node_width l j
  unfolding stored
  row_there j d = go (equal? (i * node_width + 3 - j * node_width) 0)
    where
      go : (i * node_width + 3 - j * node_width ≡ 0) ⊎ ((i * node_width + 3 - j * node_width ≡ 0) → ⊥)
          → row_at node_width (set l (i * node_width + 3) z) j ≡ row_at node_width l j
      go (inl e) = ap (take 4) (drop-set-lt (j * node_width) l (i * node_width + 3) z (omega arith))
      go (inr e) =
          let k = i * node_width + 3 - j * node_width in
          let q : i * node_width + 3 ≡ j * node_width + k = omega arith in
          let far : 4 ≤ k = omega arith in
          ap (λ (x : ℕ). take 4 (drop (j * node_width) (set l x z))) q
          ∙ ap (take 4) (drop-set-add (j * node_width) l k z) ∙ take-set-le 4 (drop (j * node_width) l) k z far

-- a row with another face
module _ (r : List ℤ) (z : ℤ) (long : length r ≡ 4) where
  faced : node_of (set r 3 z) ≡ with_face (face_of z) (node_of r)
  unfolding node_of
  faced = rw (
    get_or-set_other r 3 0 z (pos 0) (λ e. omega arith),
    get_or-set_other r 3 1 z (pos 0) (λ e. omega arith),
    get_or-set_other r 3 2 z (pos 0) (λ e. omega arith),
    get_or-set_same r 3 z (pos 0) (omega arith),
  )

  faced_ranges : le_z (negsuc 0) z ≡ true → node_ranges r ≡ true → node_ranges (set r 3 z) ≡ true
  faced_ranges k h = rw (
    get_or-set_other r 3 0 z (pos 0) (λ e. omega arith),
    get_or-set_other r 3 1 z (pos 0) (λ e. omega arith),
    get_or-set_other r 3 2 z (pos 0) (λ e. omega arith),
    get_or-set_same r 3 z (pos 0) (omega arith),
    k,
    and_left (non_neg (cell r 0) && coordinate (cell r 1) && coordinate (cell r 2)) (le_z (negsuc 0) (cell r 3)) h,
  )

module _ {l : List ℤ} {n : ℕ} (t : NodeTable l n) (i : ℕ) (h : i < n) (z : ℤ) (least : le_z (negsuc 0) z ≡ true) where
  row_long : length (row_at node_width l i) ≡ 4
  row_long = length-take-le 4 (drop (i * node_width) l)
      (rw (length-drop (i * node_width) l) (let f = t.rows.fits in let r = row_room node_width n i h in omega arith))

  node_there_lem : (j : ℕ) → j < n → node_at (stored l i z) j
      ≡ cond (same (node_at l j).number (node_at l i).number) (with_face (face_of z) (node_at l j)) (node_at l j)
  node_there_lem j k = go (equal? j i)
    where
      go : (j ≡ i) ⊎ ((j ≡ i) → ⊥) → node_at (stored l i z) j
          ≡ cond (same (node_at l j).number (node_at l i).number) (with_face (face_of z) (node_at l j)) (node_at l j)
      go (inl e) = ap (node_at (stored l i z)) e ∙ ap node_of (row_here l i z) ∙ faced (row_at node_width l i) z row_long
          ∙ rw (e, same_eq (node_at l i).number (node_at l i).number refl)
      go (inr d) = ap node_of (row_there l i z j d)
          ∙ rw (same_false (node_at l j).number (node_at l i).number (λ e. d (node_once t.rows j i k h e)))

  pub faced_nodes : nodes_of (set l (i * node_width + 3) z) n
      ≡ map (λ r. cond (same r.number (node_at l i).number) (with_face (face_of z) r) r) (nodes_of l n)
  unfolding stored
  faced_nodes =
      let g : Node → Node = λ r. cond (same r.number (node_at l i).number) (with_face (face_of z) r) r in
      nodes_table (stored l i z) n ∙ table_same (node_at (stored l i z)) (λ j. g (node_at l j)) 0 n
      (λ j _ k. node_there_lem j (omega arith)) ∙ sym (map-table g (node_at l) 0 n) ∙ ap (map g) (sym (nodes_table l n))

  pub faced_number : (j : ℕ) → j < n → (node_at (set l (i * node_width + 3) z) j).number ≡ (node_at l j).number
  unfolding stored
  faced_number j k = ap (λ (r : Node). r.number) (node_there_lem j k) ∙ go (same (node_at l j).number (node_at l i).number)
    where
      go : (b : Bool) → (cond b (with_face (face_of z) (node_at l j)) (node_at l j)).number ≡ (node_at l j).number
      go true = refl
      go false = refl

  row_ranges : (j : ℕ) → j < n → node_ranges (row_at node_width (stored l i z) j) ≡ true
  row_ranges j k = go (equal? j i)
    where
      was : (j : ℕ) → j < n → node_ranges (row_at node_width l j) ≡ true
      was = rows_all node_width l node_ranges n t.rows.ranges

      go : (j ≡ i) ⊎ ((j ≡ i) → ⊥) → node_ranges (row_at node_width (stored l i z) j) ≡ true
      go (inl e) = ap (λ (x : ℕ). node_ranges (row_at node_width (stored l i z) x)) e ∙ ap node_ranges (row_here l i z)
          ∙ faced_ranges (row_at node_width l i) z row_long least (was i h)
      go (inr d) = ap node_ranges (row_there l i z j d) ∙ was j k

  pub faced_table : NodeTable (set l (i * node_width + 3) z) n
  unfolding stored
  faced_table =
      record {
        rows =
            record {
              fits = rw (length-set l (i * node_width + 3) z) t.rows.fits;
              ranges = ap (all_of node_ranges) (rows-table node_width (stored l i z) n)
                  ∙ all_of-table node_ranges (row_at node_width (stored l i z)) 0 n (λ j _ k. row_ranges j (omega arith));
              rising = ap (numbered 1 (suc last_number))
                  (node_numbers_lem (stored l i z) n
                  ∙ table_same (λ j. (node_at (stored l i z) j).number) (λ j. (node_at l j).number) 0 n
                  (λ j _ k. faced_number j (omega arith)) ∙ sym (node_numbers_lem l n)) ∙ t.rows.rising;
            };
        rest = ap (all_of is_zero) (drop-set-lt (n * node_width) l (i * node_width + 3) z
            (let r = row_room node_width n i h in omega arith)) ∙ t.rest;
        whole = rw (length-set l (i * node_width + 3) z) t.whole;
      }
