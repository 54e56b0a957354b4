-- A table whose rows in use are in range, with zeros behind, is its rows' numbers and zeros. Assumes nothing.
use mathlib.Core.Path.{◌≡◌, refl, sym, ap, ◌∙◌}
use mathlib.Core.Bool.{true}
use mathlib.Core.List.{List, [], ◌∷◌, flat_map}
use Prim.Native.Nat.{ℕ, ◌/◌, ◌≤◌}
use native.Mathlib.Omega.{arith}
use lib.Dec.{leb-zero}
use lib.IntN.{ℤ, pos}
use lib.ListN.{length}
use borrow.Author.Tests.{le-leb}
use Rattle.lists.specs.Tests.{same}
use Rattle.curves.specs.Curves.{max_points}
use Rattle.map.specs.declared.Head.{Head}
use Rattle.map.specs.Limits.{max_nodes, max_edges, node_width, edge_width}
use Rattle.map.specs.Rows.{Lent, map_of, lent_with, box_of, node_cells, edge_cells, whole, lent}
use Rattle.tables.specs.Tables.{filled}
use Rattle.map.specs.Form.{ranged}
use Rattle.map.proofs.RoundTrip.{writes_back}
use Rattle.tables.proofs.Filled.{whole_rows_lem}
use Rattle.map_rows.specs.Rows.{nodes_of, edges_of}
use Rattle.edge_rows.specs.Holds.{NodeTable, EdgeTable}

-- beside empty tables and face 0, whose rectangle is four zeros
abbrev face0 : List ℤ
face0 = pos 0 ∷ pos 0 ∷ pos 0 ∷ pos 0 ∷ pos 0 ∷ []

-- under the wider record, for all that a row can hold
abbrev counting : ℕ → ℕ → Head
counting n k = record {
  nodes = pos n;
  edges = pos k;
  faces = pos 1;
  next_node = pos 1;
  next_edge = pos 1;
  next_face = pos 1;
  points = pos max_points;
}

abbrev nodes_lent : List ℤ → ℕ → Lent
nodes_lent l n = lent l [] face0 (counting n 0)

abbrev edges_lent : List ℤ → ℕ → Lent
edges_lent l n = lent [] l face0 (counting 0 n)

module _ {l : List ℤ} {n : ℕ} (t : NodeTable l n) where
  pub nodes_room : n ≤ length l / node_width
  nodes_room = let s = (whole_rows_lem node_width 0 max_nodes l t.whole).size in let f = t.rows.fits in omega arith

  nodes_whole : whole (nodes_lent l n) ≡ true
  unfolding whole same
  nodes_whole = rw t.whole

  nodes_ranged : ranged (nodes_lent l n) ≡ true
  unfolding ranged same
  nodes_ranged = rw (leb-zero n, le-leb n (length l / node_width) nodes_room, t.rest, t.rows.ranges)

  pub nodes_filled : filled (length l) (flat_map node_cells (nodes_of l n)) ≡ l
  unfolding lent_with map_of same
  nodes_filled =
      ap (λ (k : ℕ). filled k (flat_map node_cells (nodes_of l n)))
      (sym (whole_rows_lem node_width 0 max_nodes l t.whole).size)
      ∙ ap (λ (x : Lent). x.nodes) (writes_back (λ f. box_of []) (nodes_lent l n) nodes_whole nodes_ranged refl)

module _ {l : List ℤ} {n : ℕ} (t : EdgeTable l n) where
  pub edges_room : n ≤ length l / edge_width
  edges_room = let s = (whole_rows_lem edge_width 0 max_edges l t.whole).size in let f = t.rows.fits in omega arith

  edges_whole : whole (edges_lent l n) ≡ true
  unfolding whole same
  edges_whole = rw t.whole

  edges_ranged : ranged (edges_lent l n) ≡ true
  unfolding ranged same
  edges_ranged = rw (leb-zero n, le-leb n (length l / edge_width) edges_room, t.rest, t.rows.ranges)

  pub edges_filled : filled (length l) (flat_map edge_cells (edges_of l n)) ≡ l
  unfolding lent_with map_of same
  edges_filled =
      ap (λ (k : ℕ). filled k (flat_map edge_cells (edges_of l n)))
      (sym (whole_rows_lem edge_width 0 max_edges l t.whole).size)
      ∙ ap (λ (x : Lent). x.edges) (writes_back (λ f. box_of []) (edges_lent l n) edges_whole edges_ranged refl)
