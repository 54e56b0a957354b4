-- Reasons to turn a ticket down: for each kind a list of numbers with their conditions, looked at in order; the first
-- that holds is the answer.
use Rattle.std.specs.Prelude.{Bool, false, cond, not, ◌&&◌, ◌||◌, List, [], ◌∷◌, ◌++◌, map, ℕ, suc, ◌+◌, ltb, ℤ, pos, negsuc, nat_abs, length}
use Rattle.std.proofs.Math.Option.{get_or}
use Rattle.std.specs.Int.Signed.{non_neg}
use Rattle.integers.specs.Order.{sgn}
use Rattle.lists.specs.Tests.{same, bit, ◌⊕◌}
use Rattle.lists.specs.Scans.{any_of, keep, is_some}
use Rattle.plane.specs.declared.Point.{Point}
use Rattle.plane.specs.declared.Contact.{Contact}
use Rattle.plane.specs.declared.Contact.TheVariants.{None, Touch, Crossing, Stretch}
use Rattle.plane.specs.Areas.{is_positive}
use Rattle.plane.specs.Points.{same_point}
use Rattle.plane.specs.Directions.{Way, same_way}
use Rattle.curves.specs.Curves.{Curve, points, last_point, start_way, end_way, point, curve_of, coordinate, is_run_to}
use Rattle.curves.specs.Tests.{neighbours_differ, on_curve, is_simple, meeting, gravest}
use Rattle.curves.specs.Edits.{without_surplus}
use Rattle.planar_maps.specs.Map.{Dart, fwd, bwd}
use Rattle.planar_maps.specs.Rings.{same_dart}
use Rattle.map.specs.declared.Counts.{Counts}
use Rattle.map.specs.declared.Variant.{Variant}
use Rattle.map.specs.declared.Variant.TheVariants.{New, Mod}
use Rattle.map.specs.Limits.{last_number, most_points}
use Rattle.map.specs.Rows.{Node, Edge, Map, Sizes, node, edge, has_node, has_edge, has_face, without_node}
use Rattle.map.specs.Rows.{without_edge, counts}
use Rattle.map.specs.Darts.{leaves, departures, edge_ends, way, ring, firsts, piece_of}
use Rattle.map.specs.Links.{clockwise, corner_face}
use Rattle.map.specs.Faces.{face_of_point, encloses, ring_area}
use Rattle.map.specs.Tickets.{Ticket, AddIsoNode, MoveIsoNode, RemoveIsoNode, AddIsoEdge, RemoveIsoEdge}
use Rattle.map.specs.Tickets.{ChangeEdgeGeom, NewEdgesSplit, ModEdgeSplit, NewEdgeHeal, ModEdgeHeal}
use Rattle.map.specs.Tickets.{AddEdgeNewFaces, AddEdgeModFace, RemEdgeNewFace, RemEdgeModFace}
use Rattle.map.specs.Edits.{change_edge_geom, shared_nodes, joint, healed_curve, splits_face, makes_face}
use Rattle.map.specs.Edits.{is_new, is_mod}

-- numbers with their conditions
abbrev pub Reasons : Type 0
Reasons = List (ℕ × Bool)

-- the first number whose condition holds; 0 for none
unfoldable pub first_reason : Reasons → ℕ
first_reason [] = 0
first_reason (r ∷ rs) = let rest = first_reason rs in cond r.1 r.0 rest

-- ---- 4: a named row is missing

-- rows are named by plain numbers
abbrev pub no_node : Map → ℤ → Bool
no_node m z = not (non_neg z && has_node m (nat_abs z))

abbrev pub no_edge : Map → ℤ → Bool
no_edge m z = not (non_neg z && has_edge m (nat_abs z))

abbrev pub no_face : Map → ℤ → Bool
no_face m z = not (non_neg z && has_face m (nat_abs z))

-- no face is given
abbrev pub minus_one : ℤ → Bool
minus_one (pos n) = false
minus_one (negsuc n) = same n 0

-- ---- 5: coordinate out of range, or points not 2 to `most`, which is 6 or 12 by the head's record

abbrev pub outside : ℤ → ℤ → Bool
outside x y = not (coordinate x && coordinate y)

abbrev pub bad_curve : ℕ → List ℤ → Bool
bad_curve most sent = not (is_run_to most sent)

-- 5, and 6: neighbouring points are equal
abbrev pub sent_reasons : ℕ → List ℤ → Reasons
sent_reasons most sent = (5, bad_curve most sent) ∷ (6, not (neighbours_differ (curve_of sent))) ∷ []

-- ---- surplus points are dropped

-- the curve that a ticket draws: what is left of the points sent
abbrev pub curve_in : List ℤ → Curve
curve_in sent = without_surplus (curve_of sent)

-- a ticket with a curve: 4, then 5 and 6 by the points sent, then the others by what is left
abbrev pub curve_ticket_reasons : Sizes → Bool → List ℤ → (Curve → Reasons) → Reasons
curve_ticket_reasons s missing sent rest =
    (4, missing) ∷ sent_reasons (most_points s.limit) sent ++ rest (curve_in sent)

-- ---- 7: not simple. 8: curve ends differ from the nodes' points

abbrev pub ends_differ : Map → Curve → ℕ → ℕ → Bool
ends_differ m c u v = not (same_point c.first (node m u).at && same_point (last_point c) (node m v).at)

-- for a curve from the node u to the node v
abbrev pub curve_reasons : Map → Curve → ℕ → ℕ → Reasons
curve_reasons m c u v = (7, not (is_simple c)) ∷ (8, ends_differ m c u v) ∷ []

-- ---- 9: not isolated

-- a node is isolated when it has a containing face: in form, when no edge ends there
abbrev pub isolated : Map → ℕ → Bool
isolated m n = is_some (node m n).face

-- the edge ends at two different nodes where no other edge ends
unfoldable pub edge_isolated : Map → ℕ → Bool
edge_isolated m e = not (same (edge m e).start (edge m e).end) && same (edge_ends m (edge m e).start) 1
    && same (edge_ends m (edge m e).end) 1

-- ---- 10: another node at the point, or an edge through it

unfoldable pub any_node_at : List Node → Point → Bool
any_node_at ns p = any_of (λ n. same_point n.at p) ns

unfoldable pub edge_through : Map → Point → Bool
edge_through m p = any_of (λ e. on_curve e.curve p) m.edges

-- ---- 11: a departure has the direction of another edge's end

-- a departure from n, of another edge than `own`, has the direction v
abbrev pub way_taken : Map → ℕ → ℕ → Way → Bool
way_taken m own n v = any_of (λ d. not (same d.edge own) && same_way (way m d) v) (departures m n)

unfoldable pub direction_taken : Map → ℕ → ℕ → ℕ → Curve → Bool
direction_taken m own u v c = way_taken m own u (start_way c) || way_taken m own v (end_way c)

-- ---- 12: the two containing faces differ (4), or the corner faces differ (11, 12)

abbrev pub containing_differ : Map → ℕ → ℕ → Bool
containing_differ m u v = not (same (get_or (node m u).face 0) (get_or (node m v).face 0))

unfoldable pub corners_differ : Map → ℕ → ℕ → Curve → Bool
corners_differ m u v c = not (same (corner_face m u (start_way c)) (corner_face m v (end_way c)))

-- ---- 14: a node inside the curve. 23, 15, 24: the curve meets another edge but in common ends

-- p is an end of the curve
abbrev pub is_end : Curve → Point → Bool
is_end c p = same_point p c.first || same_point p (last_point c)

unfoldable pub node_inside : Map → Curve → Bool
node_inside m c = any_of (λ n. on_curve c n.at && not (is_end c n.at)) m.nodes

-- over all edges, the gravest that the curve does with one
unfoldable pub edge_meeting : List Edge → Curve → Contact
edge_meeting es c = gravest (map (λ e. meeting c e.curve) es)

-- the number of what was found
abbrev pub contact_reason : Contact → ℕ
contact_reason None = 0
contact_reason Touch = 24
contact_reason Crossing = 15
contact_reason Stretch = 23

abbrev pub meeting_reasons : Map → List Edge → Curve → Reasons
meeting_reasons m others c =
    let found = contact_reason (edge_meeting others c) in
    (14, node_inside m c)
    ∷ (23, same found 23)
    ∷ (15, same found 15)
    ∷ (24, same found 24)
    ∷ []

-- ---- 19: cyclic order at an end would change

abbrev pub turn_changes : Map → Map → ℕ → Bool
turn_changes m m' n = any_of (λ d. not (same_dart (clockwise m d) (clockwise m' d))) (departures m n)

unfoldable pub order_changes : Map → ℕ → Curve → Bool
order_changes m e c = let m' = change_edge_geom e c m in turn_changes m m' (edge m e).start
    || turn_changes m m' (edge m e).end

-- ---- 22: for the ring on either side of the edge, the doubled area would change between positive and not positive, or
-- a point between enclosed and not

-- the points of the isolated nodes
unfoldable pub isolated_points : Map → List Point
isolated_points m = map (λ n. n.at) (keep (λ n. is_some n.face) m.nodes)

-- the start node of the lowest edge of each ring on another piece than that of the node n
unfoldable pub other_piece_points : Map → ℕ → List Point
other_piece_points m n =
    map (λ d. (node m (edge m d.edge).start).at)
    (keep (λ d. not (same (piece_of m (leaves m d)) (piece_of m n))) (firsts m))

-- the points that must keep their side of an edge that starts at n
abbrev pub side_points : Map → ℕ → List Point
side_points m n = isolated_points m ++ other_piece_points m n

-- the area of the ring r would change from the map m to m', or what it encloses of these points
abbrev pub ring_changes : Map → Map → List Point → List Dart → Bool
ring_changes m m' ps r =
    is_positive (sgn (ring_area m r)) ⊕ is_positive (sgn (ring_area m' r))
    || any_of (λ p. encloses m r p ⊕ encloses m' r p) ps

unfoldable pub sides_change : Map → ℕ → Curve → Bool
sides_change m e c =
    let m' = change_edge_geom e c m in
    let ps = side_points m (edge m e).start in
    ring_changes m m' ps (ring m (fwd e)) || ring_changes m m' ps (ring m (bwd e))

-- ---- 20: the rows after the edit, so many more, would not fit. 21: one of so many needed numbers exceeds 999,999

abbrev pub full : Sizes → Map → Counts → Bool
full s m more = ltb s.nodes (length m.nodes + more.nodes) || ltb s.edges (length m.edges + more.edges)
    || ltb s.faces (length m.faces + more.faces)

abbrev pub spent : Map → Counts → Bool
spent m needed = ltb (suc last_number) (m.next.nodes + needed.nodes)
    || ltb (suc last_number) (m.next.edges + needed.edges)
    || ltb (suc last_number) (m.next.faces + needed.faces)

-- for an edit that needs so many rows more and so many numbers
abbrev pub room_reasons : Sizes → Map → Counts → Counts → Reasons
room_reasons s m rows numbers = (20, full s m rows) ∷ (21, spent m numbers) ∷ []

-- ---- the kinds that draw a curve, from 7 on

-- kind 4, from the node a to the node b
abbrev pub add_iso_edge_reasons : Sizes → Map → ℕ → ℕ → Curve → Reasons
add_iso_edge_reasons s m a b c =
    curve_reasons m c a b
    ++ (9, same a b || not (isolated m a && isolated m b))
    ∷ (12, containing_differ m a b)
    ∷ meeting_reasons m m.edges c
    ++ room_reasons s m (counts 0 1 0) (counts 0 1 0)

-- kind 6, for the edge e
abbrev pub change_geom_reasons : Map → ℕ → Curve → Reasons
change_geom_reasons m e c =
    let a = (edge m e).start in
    let b = (edge m e).end in
    curve_reasons m c a b
    ++ (11, direction_taken m e a b c)
    ∷ meeting_reasons m (without_edge e m.edges) c
    ++ (19, order_changes m e c)
    ∷ (22, sides_change m e c)
    ∷ []

-- kinds 11 (New) and 12 (Mod), from the node a to the node b
abbrev pub add_edge_reasons : Variant → Sizes → Map → ℕ → ℕ → Curve → Reasons
add_edge_reasons how s m a b c =
    let splits = splits_face a b c m in
    let second = splits && is_new how && not (same (corner_face m a (start_way c)) 0) in
    curve_reasons m c a b
    ++ (11, direction_taken m m.next.edges a b c)
    ∷ (12, corners_differ m a b c)
    ∷ meeting_reasons m m.edges c
    ++ room_reasons s m (counts 0 1 (bit splits)) (counts 0 1 (bit splits + bit second))

-- ---- the kinds, with 4 and up

-- kinds 7 and 8
abbrev pub split_reasons : Variant → Sizes → Map → ℤ → ℤ → ℤ → Reasons
split_reasons how s m e x y =
    (4, no_edge m e)
    ∷ (5, outside x y)
    ∷ (10, any_node_at m.nodes (point x y))
    ∷ (13, not (on_curve (edge m (nat_abs e)).curve (point x y)))
    ∷ room_reasons s m (counts 1 1 0) (counts 1 (cond (is_mod how) 1 2) 0)

-- kinds 9 and 10
abbrev pub heal_reasons : Sizes → Map → ℤ → ℤ → Reasons
heal_reasons s m e f =
    let a = nat_abs e in
    let b = nat_abs f in
    (4, no_edge m e || no_edge m f)
    ∷ (16, same a b || same (length (shared_nodes m a b)) 0)
    ∷ (17, not (is_some (joint m a b)))
    ∷ (18, ltb (most_points s.limit) (length (points (healed_curve m a b))))
    ∷ []

-- the reasons of each kind, in order
unfoldable pub reasons : Sizes → Map → Ticket → Reasons
reasons s m (AddIsoNode f x y) =
    let p = point x y in
    (4, not (minus_one f) && no_face m f)
    ∷ (5, outside x y)
    ∷ (10, any_node_at m.nodes p || edge_through m p)
    ∷ (12, not (minus_one f) && not (same (nat_abs f) (face_of_point m p)))
    ∷ room_reasons s m (counts 1 0 0) (counts 1 0 0)
reasons s m (MoveIsoNode n x y) =
    let p = point x y in
    (4, no_node m n)
    ∷ (5, outside x y)
    ∷ (9, not (isolated m (nat_abs n)))
    ∷ (10, any_node_at (without_node (nat_abs n) m.nodes) p || edge_through m p)
    ∷ []
reasons s m (RemoveIsoNode n) =
    (4, no_node m n)
    ∷ (9, not (isolated m (nat_abs n)))
    ∷ []
reasons s m (AddIsoEdge u v sent) =
    curve_ticket_reasons s (no_node m u || no_node m v) sent (add_iso_edge_reasons s m (nat_abs u) (nat_abs v))
reasons s m (RemoveIsoEdge e) =
    (4, no_edge m e)
    ∷ (9, not (edge_isolated m (nat_abs e)))
    ∷ []
reasons s m (ChangeEdgeGeom e sent) = curve_ticket_reasons s (no_edge m e) sent (change_geom_reasons m (nat_abs e))
reasons s m (NewEdgesSplit e x y) = split_reasons New s m e x y
reasons s m (ModEdgeSplit e x y) = split_reasons Mod s m e x y
reasons s m (NewEdgeHeal e f) = heal_reasons s m e f ++ (21, spent m (counts 0 1 0)) ∷ []
reasons s m (ModEdgeHeal e f) = heal_reasons s m e f
reasons s m (AddEdgeNewFaces u v sent) =
    curve_ticket_reasons s (no_node m u || no_node m v) sent (add_edge_reasons New s m (nat_abs u) (nat_abs v))
reasons s m (AddEdgeModFace u v sent) =
    curve_ticket_reasons s (no_node m u || no_node m v) sent (add_edge_reasons Mod s m (nat_abs u) (nat_abs v))
reasons s m (RemEdgeNewFace e) =
    (4, no_edge m e)
    ∷ (21, spent m (counts 0 0 (bit (makes_face New (nat_abs e) m))))
    ∷ []
reasons s m (RemEdgeModFace e) = (4, no_edge m e) ∷ []
