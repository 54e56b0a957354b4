-- Rows of tables in form, in the map's terms: a row in use is the map's row of its number, and a place that is found is
-- such a row. Assumes nothing.
use Rattle.std.specs.Prelude.{Some}
use mathlib.Core.Path.{◌≡◌, sym, ap}
use mathlib.Core.Bool.{false, not}
use mathlib.Core.List.{List}
use mathlib.Core.Option.{some}
use Prim.Native.Nat.{ℕ, ◌<◌}
use lib.IntN.{ℤ, pos, nat_abs}
use Rattle.lists.specs.Scans.{is_some}
use Rattle.lists.specs.Tables.{place}
use Rattle.map.specs.declared.Head.{Head}
use Rattle.map.specs.Limits.{node_width, edge_width}
use Rattle.map.specs.Rows.{map_of, node, edge, find_node, find_edge, lent}
use Rattle.map.specs.Form.{node_ranges, edge_ranges}
use Rattle.map.specs.Reasons.{no_node, no_edge}
use Rattle.tables.specs.Tables.{same_z, column}
use Rattle.tables.proofs.Rows.{rows_all}
use Rattle.tables.proofs.Lookups.{row_met}
use Rattle.map_rows.specs.Rows.{node_at, edge_at}
use Rattle.map_rows.proofs.Rows.{node_cells_lem, edge_cells_lem, node_rows_rising, edge_rows_rising}
use Rattle.map_rows.proofs.Lookups.{node_found, edge_found}
use Rattle.outcomes.specs.Outcomes.{Formed}
use Rattle.outcomes.proofs.Formed.{ranges, node_rows_lem, edge_rows_lem}

module _ {nodes edges faces : List ℤ} {h : Head} (f : Formed nodes edges faces h) where
  -- ---- rows in use

  module _ (i : ℕ) (b : i < nat_abs h.nodes) where
    pub node-met : find_node (map_of (lent nodes edges faces h)) (node_at nodes i).number ≡ some (node_at nodes i)
    unfolding map_of
    node-met =
        let t = (ranges f).node_rows_lem in
        let k = (node_cells_lem nodes i (rows_all node_width nodes node_ranges (nat_abs h.nodes) t i b)).number in
        (node_found nodes (nat_abs h.nodes) t (pos (node_at nodes i).number) i
        (sym (row_met (node_rows_rising (node_rows_lem f)) i b k))).2

    pub node_there_lem : no_node (map_of (lent nodes edges faces h)) (pos (node_at nodes i).number) ≡ false
    node_there_lem = ap not (ap is_some node-met)

    pub node_is : node (map_of (lent nodes edges faces h)) (node_at nodes i).number ≡ node_at nodes i
    unfolding node
    node_is = rw node-met

  module _ (i : ℕ) (b : i < nat_abs h.edges) where
    pub edge-met : find_edge (map_of (lent nodes edges faces h)) (edge_at edges i).number ≡ some (edge_at edges i)
    unfolding map_of
    edge-met =
        let t = (ranges f).edge_rows_lem in
        let k = (edge_cells_lem edges i (rows_all edge_width edges edge_ranges (nat_abs h.edges) t i b)).number in
        (edge_found edges (nat_abs h.edges) t (pos (edge_at edges i).number) i
        (sym (row_met (edge_rows_rising (edge_rows_lem f)) i b k))).2

    pub edge_there_lem : no_edge (map_of (lent nodes edges faces h)) (pos (edge_at edges i).number) ≡ false
    edge_there_lem = ap not (ap is_some edge-met)

    pub edge_is : edge (map_of (lent nodes edges faces h)) (edge_at edges i).number ≡ edge_at edges i
    unfolding edge
    edge_is = rw edge-met

  -- ---- places that are found

  module _ (z : ℤ) (i : ℕ) (e : place (same_z z) 0 (column node_width nodes (nat_abs h.nodes)) ≡ Some i) where
    pub node_in : i < nat_abs h.nodes
    node_in = (node_found nodes (nat_abs h.nodes) (ranges f).node_rows_lem z i e).0

    pub node-number : z ≡ pos (node_at nodes i).number
    node-number = (node_found nodes (nat_abs h.nodes) (ranges f).node_rows_lem z i e).1

  module _ (z : ℤ) (i : ℕ) (e : place (same_z z) 0 (column edge_width edges (nat_abs h.edges)) ≡ Some i) where
    pub edge_in : i < nat_abs h.edges
    edge_in = (edge_found edges (nat_abs h.edges) (ranges f).edge_rows_lem z i e).0

    pub edge-number : z ≡ pos (edge_at edges i).number
    edge-number = (edge_found edges (nat_abs h.edges) (ranges f).edge_rows_lem z i e).1
