-- What `find_row` answers, in the map's terms: a place is a row that is found, and missing is a row that does not
-- exist. Assumes nothing.
use Rattle.std.specs.Prelude.{Some, None}
use mathlib.Core.Path.{◌≡◌, ap, ◌∙◌}
use mathlib.Core.Bool.{true, false}
use mathlib.Core.List.{List}
use mathlib.Core.Option.{none, some}
use Prim.Native.Nat.{ℕ, ◌*◌, ◌<◌}
use lib.IntN.{ℤ, pos, nat_abs}
use lib.ListN.{get_or}
use Rattle.lists.specs.Tests.{same}
use Rattle.lists.specs.Scans.{any_of, all_of, find, is_some}
use Rattle.lists.specs.Tables.{table, place}
use Rattle.lists.proofs.Bools.{same_sym}
use Rattle.tables.specs.Tables.{rows, same_z, column}
use Rattle.tables.proofs.Rows.{rows_all}
use Rattle.tables.proofs.Lookups.{any_find, any_same, row_found_lem, row_missing}
use Rattle.map.specs.Limits.{node_width, edge_width, face_width}
use Rattle.map.specs.Rows.{find_edge}
use Rattle.map.specs.Form.{node_ranges, edge_ranges, face_ranges}
use Rattle.map_rows.specs.Rows.{nodes_of, faces_of, node_at, edge_at, face_at, edge_map}
use Rattle.map_rows.proofs.Rows.{nodes_table, edges_table, faces_table, node_cells_lem, edge_cells_lem, face_cell_lem}

module _ (l : List ℤ) (n : ℕ) where
  module _ (ranges : all_of node_ranges (rows node_width n l) ≡ true) where
    node_first : (i : ℕ) → i < n → get_or l (i * node_width) (pos 0) ≡ pos (node_at l i).number
    node_first i t = (node_cells_lem l i (rows_all node_width l node_ranges n ranges i t)).number

    pub node_found : (z : ℤ) (i : ℕ) → place (same_z z) 0 (column node_width l n) ≡ Some i → (i < n)
        × (z ≡ pos (node_at l i).number) × (find (λ r. same r.number (nat_abs z)) (nodes_of l n) ≡ some (node_at l i))
    node_found z i e =
        let h = row_found_lem node_width l n (λ r. r.number) (node_at l) node_first z i e in
        (h.below, h.is, ap (find (λ r. same r.number (nat_abs z))) (nodes_table l n) ∙ h.found)

    pub node_missing : (m : ℕ) → place (same_z (pos m)) 0 (column node_width l n) ≡ None
        → find (λ r. same r.number m) (nodes_of l n) ≡ none
    node_missing m e = ap (find (λ r. same r.number m)) (nodes_table l n)
        ∙ row_missing node_width l n (λ r. r.number) (node_at l) node_first m e

  module _ (ranges : all_of edge_ranges (rows edge_width n l) ≡ true) where
    edge_first : (i : ℕ) → i < n → get_or l (i * edge_width) (pos 0) ≡ pos (edge_at l i).number
    edge_first i t = (edge_cells_lem l i (rows_all edge_width l edge_ranges n ranges i t)).number

    pub edge_found : (z : ℤ) (i : ℕ) → place (same_z z) 0 (column edge_width l n) ≡ Some i → (i < n)
        × (z ≡ pos (edge_at l i).number) × (find_edge (edge_map l n) (nat_abs z) ≡ some (edge_at l i))
    edge_found z i e =
        let h = row_found_lem edge_width l n (λ r. r.number) (edge_at l) edge_first z i e in
        (h.below, h.is, ap (find (λ r. same r.number (nat_abs z))) (edges_table l n) ∙ h.found)

    pub edge_missing : (m : ℕ) → place (same_z (pos m)) 0 (column edge_width l n) ≡ None → find_edge (edge_map l n) m
        ≡ none
    edge_missing m e = ap (find (λ r. same r.number m)) (edges_table l n)
        ∙ row_missing edge_width l n (λ r. r.number) (edge_at l) edge_first m e

  module _ (ranges : all_of face_ranges (rows face_width n l) ≡ true) where
    face_first : (i : ℕ) → i < n → get_or l (i * face_width) (pos 0) ≡ pos (face_at l i)
    face_first i t = face_cell_lem l i (rows_all face_width l face_ranges n ranges i t)

    -- the map's test of a face, as a search
    has_face_lem : (m : ℕ) → any_of (same m) (faces_of l n) ≡ is_some (find (λ k. same k m) (table (face_at l) 0 n))
    has_face_lem m = ap (any_of (same m)) (faces_table l n)
        ∙ any_same (same m) (λ k. same k m) (λ k. same_sym m k) (table (face_at l) 0 n)
        ∙ any_find (λ k. same k m) (table (face_at l) 0 n)

    pub face_found : (z : ℤ) (i : ℕ) → place (same_z z) 0 (column face_width l n) ≡ Some i → (i < n)
        × (z ≡ pos (face_at l i)) × (any_of (same (nat_abs z)) (faces_of l n) ≡ true)
    face_found z i e =
        let h = row_found_lem face_width l n (λ k. k) (face_at l) face_first z i e in
        (h.below, h.is, has_face_lem (nat_abs z) ∙ ap is_some h.found)

    pub face_missing : (m : ℕ) → place (same_z (pos m)) 0 (column face_width l n) ≡ None
        → any_of (same m) (faces_of l n) ≡ false
    face_missing m e = has_face_lem m ∙ ap is_some (row_missing face_width l n (λ k. k) (face_at l) face_first m e)
