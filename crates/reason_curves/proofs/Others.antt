-- Scans of all rows but one: of all rows, where that one is past the last, and else of the rows without its number.
-- Assumes nothing.
use Rattle.std.specs.Prelude.{Some}
use mathlib.Core.Path.{◌≡◌, sym, ap, ◌∙◌}
use mathlib.Core.Bool.{not, ◌&&◌}
use mathlib.Core.Logic.{inl, inr, ⊎_elim}
use mathlib.Core.List.Memᴰ
use mathlib.Core.List.{List, map, Memᴰ}
use Prim.Native.Nat.{ℕ, zero, suc, ◌+◌, ◌*◌, ◌<◌, ◌≤◌}
use native.Mathlib.Omega.{arith}
use lib.IntN.{ℤ, pos}
use lib.ListN.{get_or}
use Rattle.lists.specs.Tests.{same}
use Rattle.lists.specs.Scans.{any_of, keep}
use Rattle.lists.specs.Tables.{table, place}
use Rattle.lists.proofs.Bools.{equal?, same_eq, same_false}
use Rattle.lists.proofs.Keeps.{keep-map, keep_all, any_kept}
use Rattle.plane.specs.declared.Point.{Point}
use Rattle.plane.specs.Points.{same_point}
use Rattle.map.specs.Limits.{node_width, edge_width}
use Rattle.map.specs.Rows.{Node, Edge, without_node, without_edge}
use Rattle.map.specs.Form.{node_ranges, edge_ranges}
use Rattle.map.specs.Reasons.{any_node_at}
use Rattle.tables.specs.Tables.{same_z, column, Rising}
use Rattle.map_rows.specs.Rows.{NodeRows, EdgeRows, node_at, edge_at, nodes_of, edges_of}
use Rattle.tables.proofs.Rows.{map-table, rows_all}
use Rattle.map_rows.proofs.Rows.{node_cells_lem, edge_cells_lem, nodes_table, edges_table, node_rows_rising, edge_rows_rising}
use Rattle.tables.proofs.Lookups.{row_place}
use Rattle.reason_curves.specs.Sent.{edges_but}

-- ---- the rows but row `own`, by place and by number

-- the places of n rows
places_below : (a n : ℕ) {i : ℕ} → Memᴰ i (table (λ i. i) a n) → i < a + n
places_below a zero m = absurd (Memᴰ.not-nil m)
places_below a (suc n) {i} m = ⊎_elim (λ (e : i ≡ a). omega arith)
    (λ k. let h = places_below (a + 1) n k in omega arith) (Memᴰ.cases_cons m)

module _ {A : Type 0} (f : ℕ → A) (n : ℕ) where
  rows_are : map f (table (λ i. i) 0 n) ≡ table f 0 n
  rows_are = map-table f (λ i. i) 0 n

  -- `own` is past the last row
  pub but_none : (own : ℕ) → n ≤ own → map f (keep (λ i. not (same i own)) (table (λ i. i) 0 n)) ≡ table f 0 n
  but_none own past =
      ap (map f) (keep_all (λ i. not (same i own)) (table (λ i. i) 0 n)
      (λ i m. ap not (same_false i own (λ e. let h = places_below 0 n m in omega arith))))
      ∙ rows_are

  -- no other row has the number of row `own`
  pub but_row : (number : A → ℕ) (own : ℕ) → ((i : ℕ) → i < n → number (f i) ≡ number (f own) → i ≡ own)
      → map f (keep (λ i. not (same i own)) (table (λ i. i) 0 n))
      ≡ keep (λ r. not (same (number r) (number (f own)))) (table f 0 n)
  but_row number own once =
      sym (keep-map f (λ i. not (same i own)) (λ r. not (same (number r) (number (f own)))) (table (λ i. i) 0 n)
      (λ i m. ap not (alike i (places_below 0 n m))))
      ∙ ap (keep (λ r. not (same (number r) (number (f own))))) rows_are
    where
      alike : (i : ℕ) → i < 0 + n → same (number (f i)) (number (f own)) ≡ same i own
      alike i t =
          elim (equal? i own) [
            | inl e ↦ same_eq (number (f i)) (number (f own)) (ap (λ (j : ℕ). number (f j)) e) ∙ sym (same_eq i own e)
            | inr e ↦ same_false (number (f i)) (number (f own)) (λ q. e (once i (omega arith) q))
                ∙ sym (same_false i own e)
          ]

-- rows of a rising table with one number are one row
one_row : (w : ℕ) (l : List ℤ) (n : ℕ) → Rising w l n → (i j : ℕ) → i < n → j < n → get_or l (i * w) (pos 0)
    ≡ get_or l (j * w) (pos 0) → i ≡ j
one_row w l n r i j s t e =
    let h : Some i ≡ Some j = sym (row_place w l n r i s) ∙ ap (λ (z : ℤ). place (same_z z) 0 (column w l n)) e
    ∙ row_place w l n r j t in
    cc

-- ---- nodes and edges

module _ {l : List ℤ} {n : ℕ} (rows : NodeRows l n) where
  node_once : (own : ℕ) → own < n → (i : ℕ) → i < n → (node_at l i).number ≡ (node_at l own).number → i ≡ own
  node_once own s i t e =
      one_row node_width l n (node_rows_rising rows) i own t s
      ((node_cells_lem l i (rows_all node_width l node_ranges n rows.ranges i t)).number ∙ ap pos e
      ∙ sym (node_cells_lem l own (rows_all node_width l node_ranges n rows.ranges own s)).number)

  -- the nodes but that of row `own`
  pub nodes_but : (own : ℕ) → own < n → map (node_at l) (keep (λ i. not (same i own)) (table (λ i. i) 0 n))
      ≡ without_node (node_at l own).number (nodes_of l n)
  nodes_but own s = but_row (node_at l) n (λ (r : Node). r.number) own (node_once own s)
      ∙ ap (without_node (node_at l own).number) (sym (nodes_table l n))

module _ {l : List ℤ} {n : ℕ} (rows : EdgeRows l n) where
  edge_once : (own : ℕ) → own < n → (i : ℕ) → i < n → (edge_at l i).number ≡ (edge_at l own).number → i ≡ own
  edge_once own s i t e =
      one_row edge_width l n (edge_rows_rising rows) i own t s
      ((edge_cells_lem l i (rows_all edge_width l edge_ranges n rows.ranges i t)).number ∙ ap pos e
      ∙ sym (edge_cells_lem l own (rows_all edge_width l edge_ranges n rows.ranges own s)).number)

  -- the edges but that of row `own`
  pub edges_but_lem : (own : ℕ) → own < n → edges_but l n own ≡ without_edge (edge_at l own).number (edges_of l n)
  edges_but_lem own s = but_row (edge_at l) n (λ (r : Edge). r.number) own (edge_once own s)
      ∙ ap (without_edge (edge_at l own).number) (sym (edges_table l n))

-- all edges, where `own` is past the last row
pub edges_all : (l : List ℤ) (n own : ℕ) → n ≤ own → edges_but l n own ≡ edges_of l n
edges_all l n own past = but_none (edge_at l) n own past ∙ sym (edges_table l n)

-- what `node_at` answers
module _ (l : List ℤ) (n own : ℕ) (p : Point) where
  others : any_of (λ i. not (same i own) && same_point (node_at l i).at p) (table (λ i. i) 0 n)
      ≡ any_node_at (map (node_at l) (keep (λ i. not (same i own)) (table (λ i. i) 0 n))) p
  unfolding any_node_at
  others = sym (any_kept (λ (r : Node). same_point r.at p) (node_at l) (λ i. not (same i own)) (table (λ i. i) 0 n))

  -- of all nodes, where `own` is past the last row
  pub node_at_all : n ≤ own → any_of (λ i. not (same i own) && same_point (node_at l i).at p) (table (λ i. i) 0 n)
      ≡ any_node_at (nodes_of l n) p
  node_at_all past = others ∙ ap (λ ns. any_node_at ns p) (but_none (node_at l) n own past ∙ sym (nodes_table l n))

  -- of the others, where it is a row
  pub node_at_but : NodeRows l n → own < n
      → any_of (λ i. not (same i own) && same_point (node_at l i).at p) (table (λ i. i) 0 n)
      ≡ any_node_at (without_node (node_at l own).number (nodes_of l n)) p
  node_at_but rows s = others ∙ ap (λ ns. any_node_at ns p) (nodes_but rows own s)
