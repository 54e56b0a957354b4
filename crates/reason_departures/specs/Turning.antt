-- Directions taken and turns at a node by position, and two edges joined.
use Rattle.std.specs.Prelude.{Bool, not, ◌&&◌, ◌||◌, List, [], ◌∷◌, ℕ, ◌+◌, ◌*◌, ◌/◌, ℤ, pos, length, get_or}
use Rattle.lists.specs.Tests.{same}
use Rattle.lists.specs.Scans.{any_of, keep, is_some}
use Rattle.plane.specs.Directions.{Way, same_way}
use Rattle.curves.specs.Curves.{Curve, start_way, end_way}
use Rattle.rotation.specs.Law.{lawful_next}
use Rattle.map.specs.Limits.{edge_width}
use Rattle.map.specs.Rows.{Map, edge}
use Rattle.map.specs.Darts.{edge_ends}
use Rattle.map.specs.Edits.{shared_nodes, joint}
use Rattle.map.specs.Reasons.{Reasons}
use Rattle.tables.specs.Tables.{same_z}
use Rattle.darts.specs.Positions.{side_cell, way_at, way_with}
use Rattle.links.specs.Linking.{positions, leaves_node}

-- a departure from the node, but of edge row `own`, has the direction v
abbrev pub way_taken_at : List ℤ → ℕ → ℕ → ℤ → Way → Bool
way_taken_at l n own node v = any_of (λ p. leaves_node l node p && not (same (p / 2) own) && same_way (way_at l p) v)
    (positions n)

-- another edge than that of row `own` departs from u in the direction of the curve, or from v in that of its reverse
abbrev pub direction_taken_at : List ℤ → ℕ → ℕ → ℤ → ℤ → Curve → Bool
direction_taken_at l n own u v c = way_taken_at l n own u (start_way c) || way_taken_at l n own v (end_way c)

-- the first departure met clockwise from the departure p, where edge row `own` has the curve c
abbrev pub turns_at : List ℤ → ℕ → ℕ → List ℤ → ℕ → ℕ
turns_at l n own c p = lawful_next (way_with l own c) same p (keep (leaves_node l (side_cell l p 1)) (positions n))

-- edge row j starts or ends at the node
abbrev pub ends_at : List ℤ → ℕ → ℤ → Bool
ends_at l j node = same_z (get_or l (j * edge_width + 1) (pos 0)) node || same_z (get_or l (j * edge_width + 2) (pos 0)) node

-- the edge f ends at the node k, which has exactly two edge ends
abbrev pub joins_at : Map → ℕ → ℕ → Bool
joins_at m f k = (same k (edge m f).start || same k (edge m f).end) && same (edge_ends m k) 2

-- 16 and 17 of the reasons against a heal
abbrev pub joint_reasons : Map → ℕ → ℕ → Reasons
joint_reasons m a b = (16, same a b || same (length (shared_nodes m a b)) 0) ∷ (17, not (is_some (joint m a b))) ∷ []
