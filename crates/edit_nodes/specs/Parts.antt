-- The reasons of kinds 1 and 2 in parts, as the functions ask them.
use Rattle.std.specs.Prelude.{Bool, not, ◌&&◌, ◌||◌, List, [], ◌∷◌, ℕ, ℤ, nat_abs}
use Rattle.lists.specs.Tests.{same}
use Rattle.lists.specs.Scans.{any_of, is_some}
use Rattle.lists.specs.Tables.{table}
use Rattle.plane.specs.declared.Point.{Point}
use Rattle.plane.specs.Points.{same_point}
use Rattle.curves.specs.Curves.{point}
use Rattle.map.specs.declared.Head.{Head}
use Rattle.map.specs.Rows.{Map, Sizes, counts}
use Rattle.map.specs.Faces.{face_of_point}
use Rattle.map.specs.Reasons.{Reasons, minus_one, no_face, outside, edge_through, room_reasons, any_node_at}
use Rattle.map_rows.specs.Rows.{node_at, edge_map}

-- a node but that of row `own` lies on the point, or an edge passes through it
abbrev pub point_taken : List ℤ → ℕ → List ℤ → ℕ → ℕ → Point → Bool
point_taken nodes n edges k own p =
    any_of (λ i. not (same i own) && same_point (node_at nodes i).at p) (table (λ i. i) 0 n)
    || edge_through (edge_map edges k) p

-- kind 1: of its point, up to 10, and from 12 on
abbrev pub point_reasons : Map → ℤ → ℤ → Reasons
point_reasons m x y =
    (5, outside x y) ∷ (10, any_node_at m.nodes (point x y) || edge_through m (point x y)) ∷ []

abbrev pub add_early : Map → ℤ → ℤ → ℤ → Reasons
add_early m f x y = (4, not (minus_one f) && no_face m f) ∷ point_reasons m x y

abbrev pub add_late : Sizes → Map → ℤ → ℤ → ℤ → Reasons
add_late s m f x y = (12, not (minus_one f) && not (same (nat_abs f) (face_of_point m (point x y))))
    ∷ room_reasons s m (counts 1 0 0) (counts 1 0 0)

-- kind 2, of node row i, from 5 on
abbrev pub move_reasons : List ℤ → List ℤ → Head → ℕ → ℤ → ℤ → Reasons
move_reasons nodes edges h i x y =
    (5, outside x y)
    ∷ (9, not (is_some (node_at nodes i).face))
    ∷ (10, point_taken nodes (nat_abs h.nodes) edges (nat_abs h.edges) i (point x y))
    ∷ []
