-- What every grown map has. It is more than the four statements of Sound, so that each carried-out ticket keeps it.
use Rattle.std.specs.Prelude.{◌≡◌, true, false, ◌≢◌, ℕ, ◌≤◌, suc, length}
use mathlib.Core.List.{map, Memᴰ}
use Rattle.lists.specs.Members.{Distinct}
use Rattle.plane.specs.declared.Point.{Point}
use Rattle.plane.specs.Points.{InRange}
use Rattle.curves.specs.Curves.{Curve, points, last_point, max_points}
use Rattle.curves.specs.Tests.{straight_inside}
use Rattle.planar_maps.specs.Map.{Dart, rev}
use Rattle.planar_maps.specs.Rings.{same_dart}
use Rattle.planar_maps.specs.Planar.{Planar}
use Rattle.rotation.specs.Law.{Law}
use Rattle.geometry.specs.Drawing.{Drawn}
use Rattle.map.specs.Limits.{last_number, most_points}
use Rattle.map.specs.Rows.{Node, Edge, Map, Sizes, node}
use Rattle.map.specs.Darts.{arcs, directed, leaves, next, bears, way}
use Rattle.map.specs.Form.{numbers, named, bare_marked}

-- numbers rise and are below the next number, named rows exist, a node has no face exactly when an edge ends there
pub record Numbered (m : Map) : Type 0 where
  pub numbers : numbers m ≡ true
  pub named : named m ≡ true
  pub marked : bare_marked m ≡ true
  pub first_node : 1 ≤ m.next.nodes
  pub first_edge : 1 ≤ m.next.edges
  pub next_node : m.next.nodes ≤ suc last_number
  pub next_edge : m.next.edges ≤ suc last_number
  pub next_face : m.next.faces ≤ suc last_number

-- a map in the plane, by its links and face numbers alone
abbrev pub InPlane : Map → Type 0
InPlane m = Planar (map (λ n. n.number) m.nodes) (arcs m) (leaves m) (next m) (bears m) (length m.faces)

-- in the plane; the links obey the link law; every face but 0 is borne by some directed edge
pub record Woven (m : Map) : Type 0 where
  pub planar : InPlane m
  pub law : Law same_dart rev (leaves m) (way m) (directed m) (next m)
  pub borne : (f : ℕ) → Memᴰ f m.faces → f ≢ 0 → (d : Dart) × Memᴰ d (directed m) × (bears m d ≡ f)

-- a curve that a ticket may have left: 2 to 12 points in range, none of the inner ones straight between its neighbours
pub record Kept (c : Curve) : Type 0 where
  pub most : length (points c) ≤ max_points
  pub in_range : (p : Point) → Memᴰ p (points c) → InRange p
  pub bent : straight_inside c ≡ false

-- the edge's curve starts and ends on its nodes' points
pub record Anchored (m : Map) (e : Edge) : Type 0 where
  pub start : e.curve.first ≡ (node m e.start).at
  pub end : last_point e.curve ≡ (node m e.end).at

-- curves are simple and pairwise apart, end on their nodes' points, and no two nodes lie on one point
pub record Surveyed (m : Map) : Type 0 where
  pub drawn : Drawn (map (λ e. e.curve) m.edges)
  pub kept : (e : Edge) → Memᴰ e m.edges → Kept e.curve
  pub anchored : (e : Edge) → Memᴰ e m.edges → Anchored m e
  pub nodes_in_range : (n : Node) → Memᴰ n m.nodes → InRange n.at
  pub places : Distinct (map (λ n. n.at) m.nodes)

pub record Good (m : Map) : Type 0 where
  pub numbered : Numbered m
  pub woven : Woven m
  pub surveyed : Surveyed m

-- no curve has more points than the map was created for
abbrev pub Short : Sizes → Map → Type 0
Short s m = (e : Edge) → Memᴰ e m.edges → length (points e.curve) ≤ most_points s.limit

-- the rows fit the tables, and the curves the record of points
pub record Fits (s : Sizes) (m : Map) : Type 0 where
  pub nodes : length m.nodes ≤ s.nodes
  pub edges : length m.edges ≤ s.edges
  pub faces : length m.faces ≤ s.faces
  pub short : Short s m
