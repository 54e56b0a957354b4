-- The fourteen edits, of tickets that nothing turns down.
use Rattle.std.specs.Prelude.{Bool, true, false, cond, not, ◌&&◌, ◌||◌, List, [], ◌∷◌, ◌++◌, map, ℕ, ◌+◌, min}
use Rattle.std.proofs.Math.Option.{Option, none, some, get_or}
use Rattle.integers.specs.Order.{sgn}
use Rattle.lists.specs.Tests.{same, bit}
use Rattle.lists.specs.Scans.{keep, find}
use Rattle.plane.specs.declared.Point.{Point}
use Rattle.plane.specs.Areas.{is_positive}
use Rattle.curves.specs.Curves.{Curve, start_way}
use Rattle.curves.specs.Edits.{front, back, joined}
use Rattle.planar_maps.specs.Map.{Dart, fwd, bwd, rev}
use Rattle.map.specs.declared.Variant.{Variant}
use Rattle.map.specs.declared.Variant.TheVariants.{New, Mod}
use Rattle.map.specs.Rows.{Node, Edge, Map, node, edge, set_nodes, set_edges, set_faces, given, at_nodes, at_edge}
use Rattle.map.specs.Rows.{without_node, without_edge, counts}
use Rattle.map.specs.Darts.{leaves, arrives, next, bears, course, edge_ends, ring, among, lowest_edge}
use Rattle.map.specs.Links.{redirect, link_edge, unlink_edge, corner_face}
use Rattle.map.specs.Faces.{face_of_point, encloses, ring_area}

-- ---- kinds 1 to 3: isolated nodes

-- a node with the face of its point
abbrev pub lone : Map → ℕ → Point → Node
lone m n p = record { number = n; at = p; face = some (face_of_point m p) }

-- kind 1
unfoldable pub add_iso_node : Point → Map → Map
add_iso_node p m = set_nodes (m.nodes ++ lone m m.next.nodes p ∷ []) (given (counts 1 0 0) m)

-- kind 2
unfoldable pub move_iso_node : ℕ → Point → Map → Map
move_iso_node n p m = at_nodes (λ r. same r.number n) (λ r. lone m n p) m

-- kind 3
unfoldable pub remove_iso_node : ℕ → Map → Map
remove_iso_node n m = set_nodes (without_node n m.nodes) m

-- ---- kinds 4 to 6: an edge drawn, undrawn, redrawn

-- the row with another face
abbrev pub with_face : Option ℕ → Node → Node
with_face f n = record { number = n.number; at = n.at; face = f }

-- the node is u or v
abbrev pub is_either : ℕ → ℕ → Node → Bool
is_either u v n = same n.number u || same n.number v

-- a new edge linked in, with the face f on both sides
unfoldable pub drawn : ℕ → ℕ → Curve → ℕ → Map → Map
drawn u v c f m =
    let e = m.next.edges in
    let row : Edge = record {
      number = e;
      start = u;
      end = v;
      next_left = bwd e;
      next_right = fwd e;
      left = f;
      right = f;
      curve = c;
    } in
    at_nodes (is_either u v) (with_face none) (link_edge e (set_edges (m.edges ++ row ∷ []) (given (counts 0 1 0) m)))

-- the edge unlinked; a node left bare takes f, the face now around it
unfoldable pub undrawn : ℕ → ℕ → Map → Map
undrawn e f m =
    let row = edge m e in
    let m' = unlink_edge e m in
    at_nodes (λ n. is_either row.start row.end n && same (edge_ends m' n.number) 0) (with_face (some f)) m'

-- kind 4
unfoldable pub add_iso_edge : ℕ → ℕ → Curve → Map → Map
add_iso_edge u v c m = drawn u v c (get_or (node m u).face 0) m

-- kind 5
unfoldable pub remove_iso_edge : ℕ → Map → Map
remove_iso_edge e m = undrawn e (edge m e).left m

-- the row with another curve
abbrev pub with_curve : Curve → Edge → Edge
with_curve c e = record {
  number = e.number;
  start = e.start;
  end = e.end;
  next_left = e.next_left;
  next_right = e.next_right;
  left = e.left;
  right = e.right;
  curve = c;
}

-- kind 6
unfoldable pub change_edge_geom : ℕ → Curve → Map → Map
change_edge_geom e c m = at_edge e (with_curve c) m

-- ---- New and Mod, the two variants of kinds 7 to 14

-- what an edit changes takes new numbers
abbrev pub is_new : Variant → Bool
is_new New = true
is_new Mod = false

-- what an edit changes keeps its number
abbrev pub is_mod : Variant → Bool
is_mod New = false
is_mod Mod = true

-- ---- kinds 7 and 8: split

-- the half a of e from its start to the new node n, followed by the half b
abbrev pub start_half : Edge → ℕ → ℕ → ℕ → Point → Edge
start_half e n a b p =
    record {
      number = a;
      start = e.start;
      end = n;
      next_left = fwd b;
      next_right = e.next_right;
      left = e.left;
      right = e.right;
      curve = front p e.curve;
    }

-- the half b of e from the new node n to its end, following the half a
abbrev pub end_half : Edge → ℕ → ℕ → ℕ → Point → Edge
end_half e n a b p =
    record {
      number = b;
      start = n;
      end = e.end;
      next_left = e.next_left;
      next_right = bwd a;
      left = e.left;
      right = e.right;
      curve = back p e.curve;
    }

-- the start half keeps its number (8) or takes the lower new number (7); departures are renamed, and the halves linked
unfoldable pub split : Variant → ℕ → Point → Map → Map
split how e p m =
    let n = m.next.nodes in
    let a = cond (is_mod how) e m.next.edges in
    let b = cond (is_mod how) m.next.edges (m.next.edges + 1) in
    let m' = redirect (bwd e) (bwd b) (redirect (fwd e) (fwd a) m) in
    let first = start_half (edge m' e) n a b p in
    let second = end_half (edge m' e) n a b p in
    let kept = (at_edge e (λ r. first) m').edges ++ second ∷ [] in
    let new = without_edge e m'.edges ++ first ∷ second ∷ [] in
    set_nodes (m.nodes ++ record { number = n; at = p; face = none } ∷ [])
    (set_edges (cond (is_mod how) kept new) (given (counts 1 (cond (is_mod how) 1 2) 0) m))

-- ---- kinds 9 and 10: heal

-- the nodes where both edges end: the first edge's end node, then its start node
unfoldable pub shared_nodes : Map → ℕ → ℕ → List ℕ
shared_nodes m e f = let other = edge m f in
    keep (λ n. same n other.start || same n other.end) ((edge m e).end ∷ (edge m e).start ∷ [])

-- the node to join at: shared, with exactly two edge ends
unfoldable pub joint : Map → ℕ → ℕ → Option ℕ
joint m e f = find (λ n. same (edge_ends m n) 2) (shared_nodes m e f)

-- the two directed edges that are joined, in the direction of e
unfoldable pub parts : Map → ℕ → ℕ → Dart × Dart
parts m e f =
    let n = get_or (joint m e f) 0 in
    let leaving = cond (same (leaves m (fwd f)) n) (fwd f) (bwd f) in
    let arriving = cond (same (arrives m (fwd f)) n) (fwd f) (bwd f) in
    cond (same n (edge m e).end) (fwd e, leaving) (arriving, fwd e)

-- the curve of the healed edge; the joint point is dropped when it lies straight between its neighbours
unfoldable pub healed_curve : Map → ℕ → ℕ → Curve
healed_curve m e f = joined (course m (parts m e f).0) (course m (parts m e f).1)

-- number (10), direction and faces are the first edge's; departures are renamed, and the joint goes
unfoldable pub heal : Variant → ℕ → ℕ → Map → Map
heal how e f m =
    let h = cond (is_mod how) e m.next.edges in
    let c = (parts m e f).0 in
    let d = (parts m e f).1 in
    let m' = redirect (rev d) (bwd h) (redirect c (fwd h) m) in
    let row : Edge =
    record {
      number = h;
      start = leaves m c;
      end = arrives m d;
      next_left = next m' d;
      next_right = next m' (rev c);
      left = (edge m e).left;
      right = (edge m e).right;
      curve = healed_curve m e f;
    } in
    let kept = without_edge f (at_edge e (λ r. row) m').edges in
    let new = without_edge e (without_edge f m'.edges) ++ row ∷ [] in
    set_nodes (without_node (get_or (joint m e f) 0) m.nodes)
    (set_edges (cond (is_mod how) kept new) (given (counts 0 (cond (is_mod how) 0 1) 0) m))

-- ---- kinds 11 and 12: a new edge, which may split a face

-- the new edge linked in, with its corner face on both sides
abbrev pub drawn_in : ℕ → ℕ → Curve → Map → Map
drawn_in u v c m = drawn u v c (corner_face m u (start_way c)) m

-- e and -e come to lie on different rings
unfoldable pub splits_face : ℕ → ℕ → Curve → Map → Bool
splits_face u v c m = let m' = drawn_in u v c m in not (among (ring m' (fwd m.next.edges)) (bwd m.next.edges))

-- a face to share out: its number, the ring on the reference side and the one on the other, and the numbers of the
-- sides
pub record Shares : Type 0 where
  pub old : ℕ
  pub ref_ring : List Dart
  pub other_ring : List Dart
  pub ref : ℕ
  pub other : ℕ

-- what the reference ring encloses goes to the reference side, the rest to the other
unfoldable pub side_of_point : Map → Shares → Point → ℕ
side_of_point m s p = cond (encloses m s.ref_ring p) s.ref s.other

-- other rings by the start node of their lowest edge
unfoldable pub side_of_ring : Map → Shares → Dart → ℕ
side_of_ring m s d = side_of_point m s (node m (edge m (lowest_edge d.edge (ring m d))).start).at

-- the face that d comes to bear
unfoldable pub side_of_dart : Map → Shares → Dart → ℕ
side_of_dart m s d =
    let elsewhere = side_of_ring m s d in
    let notRef = cond (among s.other_ring d) s.other elsewhere in
    let of_old = cond (among s.ref_ring d) s.ref notRef in
    cond (same (bears m d) s.old) of_old (bears m d)

-- isolated nodes of the old face
abbrev pub side_of_node : Map → Shares → Node → Option ℕ → Node
side_of_node m s n none = n
side_of_node m s n (some f) = cond (same f s.old) (with_face (some (side_of_point m s n.at)) n) n

-- the row with other faces
abbrev pub with_sides : ℕ → ℕ → Edge → Edge
with_sides l r e = record {
  number = e.number;
  start = e.start;
  end = e.end;
  next_left = e.next_left;
  next_right = e.next_right;
  left = l;
  right = r;
  curve = e.curve;
}

-- all rows that named the old face
unfoldable pub shared_out : Shares → Map → Map
shared_out s m =
    set_nodes (map (λ n. side_of_node m s n n.face) m.nodes)
    (set_edges (map (λ e. with_sides (side_of_dart m s (fwd e.number)) (side_of_dart m s (bwd e.number)) e)
    m.edges) m)

-- the face of the new edge e split: the reference side is left if the left ring's doubled area is positive, else right;
-- it takes the new number (12), or the old face goes and left takes the lower of two new numbers (11); face 0 never
-- goes
unfoldable pub split_face : Variant → ℕ → Map → Map
split_face how e m =
    let old = bears m (fwd e) in
    let goes = is_new how && not (same old 0) in
    let left = ring m (fwd e) in
    let right = ring m (bwd e) in
    let is_left = is_positive (sgn (ring_area m left)) in
    let a = m.next.faces in
    let b = cond goes (m.next.faces + 1) old in
    let s : Shares =
    record {
      old = old;
      ref_ring = cond is_left left right;
      other_ring = cond is_left right left;
      ref = cond (is_left || not goes) a b;
      other = cond (is_left || not goes) b a;
    } in
    let faces = cond goes (keep (λ f. not (same f old)) m.faces ++ a ∷ b ∷ []) (m.faces ++ a ∷ []) in
    set_faces faces (given (counts 0 0 (cond goes 2 1)) (shared_out s m))

-- kinds 11 (New) and 12 (Mod)
unfoldable pub add_edge : Variant → ℕ → ℕ → Curve → Map → Map
add_edge how u v c m =
    let m' = drawn_in u v c m in
    let m'' = split_face how m.next.edges m' in
    cond (splits_face u v c m) m'' m'

-- ---- kinds 13 and 14: an edge removed, which may heal faces

-- left and right differ
unfoldable pub heals_faces : ℕ → Map → Bool
heals_faces e m = not (same (edge m e).left (edge m e).right)

-- the lower of the two faces
abbrev pub lower_face : ℕ → Map → ℕ
lower_face e m = min (edge m e).left (edge m e).right

-- 13 makes a new face, unless one is 0
unfoldable pub makes_face : Variant → ℕ → Map → Bool
makes_face how e m = is_new how && heals_faces e m && not (same (lower_face e m) 0)

-- the face that is left: a new one, or the lower number
abbrev pub face_left : Variant → ℕ → Map → ℕ
face_left how e m = cond (makes_face how e m) m.next.faces (lower_face e m)

-- f for either face of the edge
abbrev pub renamed : Edge → ℕ → ℕ → ℕ
renamed e f g = cond (same g e.left || same g e.right) f g

-- a node in either face is in f
abbrev pub renamed_node : Edge → ℕ → Node → Option ℕ → Node
renamed_node e f n none = n
renamed_node e f n (some g) = with_face (some (renamed e f g)) n

-- every row that named a face now gone names f
unfoldable pub renamed_faces : Edge → ℕ → Map → Map
renamed_faces e f m =
    set_nodes (map (λ n. renamed_node e f n n.face) m.nodes)
    (set_edges (map (λ r. with_sides (renamed e f r.left) (renamed e f r.right) r) m.edges) m)

-- kinds 13 (New) and 14 (Mod)
unfoldable pub remove_edge : Variant → ℕ → Map → Map
remove_edge how e m =
    let f = face_left how e m in
    let m' = undrawn e f (renamed_faces (edge m e) f m) in
    let left = keep (λ g. same g (renamed (edge m e) f g)) m.faces in
    set_faces (cond (makes_face how e m) (left ++ f ∷ []) left) (given (counts 0 0 (bit (makes_face how e m))) m')
