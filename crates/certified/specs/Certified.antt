-- The tests that a map must pass so that tickets go on from it as from one that tickets have grown, whatever made it:
-- `certified` of a map, `certifies` of lent tables. They stand in the order in which they are made: whole tables, in
-- form, links, curves, places, the sum, faces reached. A lone node on an edge passes, though no ticket puts one there:
-- nothing that is proved of grown maps speaks of it. Definitions only. Assumes nothing.
use Rattle.std.specs.Prelude.{Bool, true, not, ◌&&◌, List, [], ◌∷◌, map, ℕ, suc, ◌+◌, leb, length}
use Rattle.lists.specs.Tests.{same}
use Rattle.lists.specs.Scans.{all_of}
use Rattle.plane.specs.declared.Point.{Point}
use Rattle.plane.specs.Points.{max_coordinate, same_point}
use Rattle.curves.specs.Curves.{Curve, points, max_points}
use Rattle.curves.specs.Tests.{is_simple, meet_wrongly, straight_inside}
use Rattle.planar_maps.specs.Map.{Arc}
use Rattle.planar_maps.specs.Pieces.{label}
use Rattle.map.specs.Limits.{last_number}
use Rattle.map.specs.Rows.{Edge, Map, Lent, map_of, whole}
use Rattle.map.specs.Darts.{piece_count}
use Rattle.map.specs.Form.{formed, in_form}
use Rattle.map.specs.Links.{obeys_law}

-- a next number is 1 to 1,000,000; of tables `in_form` says it
abbrev pub next_in_range : ℕ → Bool
next_in_range n = leb 1 n && leb n (suc last_number)

unfoldable pub nexts_in_range : Map → Bool
nexts_in_range m = next_in_range m.next.nodes && next_in_range m.next.edges && next_in_range m.next.faces

-- ---- curves and places

abbrev pub in_range : Point → Bool
in_range p = leb p.x max_coordinate && leb p.y max_coordinate

-- 2 to 12 points; of tables `in_form` holds them to the recorded number
abbrev pub count_fits : Curve → Bool
count_fits c = leb 2 (length (points c)) && leb (length (points c)) max_points

-- a curve that a ticket may have left: simple, and no inner point straight between its neighbours
abbrev pub curve_kept : Curve → Bool
curve_kept c = count_fits c && all_of in_range (points c) && is_simple c && not (straight_inside c)

-- r holds of no element and a later one
abbrev pub no_two : {A : Type 0} → (A → A → Bool) → List A → Bool
no_two r [] = true
no_two r (x ∷ l) = let rest = no_two r l in all_of (λ y. not (r x y)) l && rest

-- every curve is such a curve, and no two share more than common ends
unfoldable pub curves_clear : Map → Bool
curves_clear m =
    all_of (λ e. curve_kept e.curve) m.edges
    && no_two meet_wrongly (map (λ e. e.curve) m.edges)

-- every node lies in range, and no two lie on one place
unfoldable pub places_differ : Map → Bool
places_differ m =
    all_of (λ n. in_range n.at) m.nodes
    && no_two same_point (map (λ n. n.at) m.nodes)

-- ---- the plane

-- nodes + faces = edges + pieces + 1
unfoldable pub sum_holds : Map → Bool
sum_holds m = same (length m.nodes + length m.faces) (length m.edges + piece_count m + 1)

-- an edge as a step from the face on its left to the face on its right
abbrev pub crossing : Edge → Arc
crossing e = record { num = e.number; from = e.left; to = e.right }

-- every face is reached from face 0 across edges
unfoldable pub faces_reached : Map → Bool
faces_reached m =
    let steps = map crossing m.edges in
    all_of (λ f. same (label steps f) (label steps 0)) m.faces

-- ---- all of them

-- in the plane, as its links, curves, places and faces tell
unfoldable pub in_plane : Map → Bool
in_plane m = obeys_law m && curves_clear m && places_differ m && sum_holds m && faces_reached m

-- a map
unfoldable pub certified : Map → Bool
certified m = formed m && nexts_in_range m && in_plane m

-- lent tables
unfoldable pub certifies : Lent → Bool
certifies l = whole l && in_form l && in_plane (map_of l)
