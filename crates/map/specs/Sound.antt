-- The four statements of demand 3, about the rows in use.
use Rattle.std.specs.Prelude.{◌≡◌, ◌⊎◌, ◌+◌, length}
use mathlib.Core.List.{map, Memᴰ, Permᴰ}
use Rattle.planar_maps.specs.Map.{Dart}
use Rattle.planar_maps.specs.Rings.{Leads}
use Rattle.geometry.specs.Spots.{Spot, At}
use Rattle.geometry.specs.Drawing.{OnCurve}
use Rattle.map.specs.Rows.{Node, Edge, Map}
use Rattle.map.specs.Darts.{directed, next, bears, piece_count}

-- the edge ends at the node
abbrev pub Ends : Edge → Node → Type 0
Ends e n = (e.start ≡ n.number) ⊎ (e.end ≡ n.number)

-- the point P, of whole coordinates or not, is that of a node ending both edges
pub record AtNode (m : Map) (a b : Edge) (P : Spot) : Type 0 where
  pub node : Node
  pub row : Memᴰ node m.nodes
  pub ends_a : Ends a node
  pub ends_b : Ends b node
  pub there : At P node.at

pub record Sound (m : Map) : Type 0 where
  -- the next links name every directed edge exactly once
  pub links_once : Permᴰ (map (next m) (directed m)) (directed m)
  -- all directed edges of a ring closed by these links bear the same face number
  pub rings_bear_one : (d d' : Dart) → Memᴰ d (directed m) → Leads (next m) d d' → bears m d' ≡ bears m d
  -- the curves of two different edges share no point but that of a node ending both
  pub curves_apart :
      (a b : Edge) → Memᴰ a m.edges → Memᴰ b m.edges → (a.number ≡ b.number → ⊥)
      → (P : Spot) → OnCurve P a.curve → OnCurve P b.curve → AtNode m a b P
  -- nodes + faces = edges + pieces + 1
  pub sum : length m.nodes + length m.faces ≡ length m.edges + piece_count m + 1
