-- Labels of node rows: each leads to a row of its own piece, and in the end to that of the piece's lowest node.
use Rattle.std.specs.Prelude.{◌≡◌, true, cond, ◌&&◌, List, ℕ, zero, suc, ◌≤◌, ◌<◌, ltb, ℤ, length, get_or, Option, Some, None}
use Rattle.lists.specs.Scans.{all_of}
use Rattle.planar_maps.specs.Map.{Arc}
use Rattle.planar_maps.specs.Pieces.{label}
use Rattle.map.specs.Limits.{max_nodes, max_edges}
use Rattle.map.specs.Rows.{has_node}
use Rattle.map_rows.specs.Rows.{NodeRows, EdgeRows, node_at, node_map, edges_of}

-- rows of nodes and edges, within the limits, of which the edges end at nodes
pub record Ended (ns : List ℤ) (n : ℕ) (es : List ℤ) (e : ℕ) : Type 0 where
  pub nodes : NodeRows ns n
  pub edges : EdgeRows es e
  pub few_nodes : n ≤ max_nodes
  pub few_edges : e ≤ max_edges
  pub ends : all_of (λ r. has_node (node_map ns n) r.start && has_node (node_map ns n) r.end) (edges_of es e) ≡ true

-- the piece of node row i by these edges alone, by its lowest node number
abbrev pub piece_at : List Arc → List ℤ → ℕ → ℕ
piece_at arcs nodes i = label arcs (node_at nodes i).number

-- each of n rows has the row of the lowest node of its piece
pub record Labelled (arcs : List Arc) (nodes : List ℤ) (n : ℕ) (labels : List ℕ) : Type 0 where
  pub size : length labels ≡ n
  pub below : (i : ℕ) → i < n → get_or labels i 0 < n
  pub lowest : (i : ℕ) → i < n → (node_at nodes (get_or labels i 0)).number ≡ piece_at arcs nodes i

-- the label of the row that is found
abbrev pub label_of : List ℕ → Option ℕ → ℕ
label_of labels (Some i) = get_or labels i 0
label_of labels None = 0

-- ---- the functions below

-- each of n rows leads to a row of its piece, none to a higher one; one that leads to itself is that of the lowest node
pub record Leading (arcs : List Arc) (nodes : List ℤ) (n : ℕ) (labels : List ℕ) : Type 0 where
  pub size : length labels ≡ n
  pub falls : (i : ℕ) → i < n → get_or labels i 0 ≤ i
  pub within : (i : ℕ) → i < n → piece_at arcs nodes (get_or labels i 0) ≡ piece_at arcs nodes i
  pub ends : (i : ℕ) → i < n → get_or labels i 0 ≡ i → piece_at arcs nodes i ≡ (node_at nodes i).number

-- where labels lead from row i, in at most so many steps, each to a lower row
unfoldable pub root_from : List ℕ → ℕ → ℕ → ℕ
root_from labels zero i = i
root_from labels (suc k) i = let j = get_or labels i 0 in let rest = root_from labels k j in cond (ltb j i) rest i
