-- Links: the link law, the only ways in which links change, and the corner face.
use Rattle.std.specs.Prelude.{Bool, cond, not, List, [], ◌∷◌, map, ℕ}
use Rattle.std.proofs.Math.Option.{get_or}
use Rattle.lists.specs.Tests.{same}
use Rattle.lists.specs.Scans.{all_of, keep}
use Rattle.plane.specs.Directions.{Way}
use Rattle.planar_maps.specs.Map.{Dart, fwd, bwd, rev}
use Rattle.planar_maps.specs.Rings.{same_dart}
use Rattle.rotation.specs.Law.{first_clockwise, lawful_next}
use Rattle.map.specs.Rows.{Edge, Map, node, set_edges, at_edge, without_edge}
use Rattle.map.specs.Darts.{directed, departures, leaves, next, bears, way}

-- the first departure met turning clockwise from the departure d; with no other, d itself
unfoldable pub clockwise : Map → Dart → Dart
clockwise m d = lawful_next (way m) same_dart d (departures m (leaves m d))

-- link law: after d arrives, its next is the first departure met turning clockwise from the reverse of d; with no
-- other, that reverse
unfoldable pub obeys_law : Map → Bool
obeys_law m = all_of (λ d. same_dart (next m d) (clockwise m (rev d))) (directed m)

-- the row with other links
abbrev pub with_links : Dart → Dart → Edge → Edge
with_links l r e = record {
  number = e.number;
  start = e.start;
  end = e.end;
  next_left = l;
  next_right = r;
  left = e.left;
  right = e.right;
  curve = e.curve;
}

-- `new` for `old`
abbrev pub instead : Dart → Dart → Dart → Dart
instead old new d = cond (same_dart d old) new d

-- what led to `old` leads to `new`
unfoldable pub redirect : Dart → Dart → Map → Map
redirect old new m = set_edges (map (λ e. with_links (instead old new e.next_left) (instead old new e.next_right) e)
    m.edges) m

-- d leads to c
unfoldable pub lead : Dart → Dart → Map → Map
lead d c m = at_edge d.edge (λ e. cond d.back (with_links e.next_left c e) (with_links c e.next_right e)) m

-- a new departure p makes its reverse lead to the first departure c met clockwise from p, and what led to c leads to p;
-- with none there, where c is p, the reverse leads to p
unfoldable pub link_in : Dart → List Dart → Map → Map
link_in p there m = let c = first_clockwise (way m) (way m p) p there in lead (rev p) c (redirect c p m)

-- the new row e linked in: start first, then end
unfoldable pub link_edge : ℕ → Map → Map
link_edge e m =
    let at_start = keep (λ d. not (same d.edge e)) (departures m (leaves m (fwd e))) in
    let at_end = keep (λ d. not (same_dart d (bwd e))) (departures m (leaves m (bwd e))) in
    link_in (bwd e) at_end (link_in (fwd e) at_start m)

-- what led to a removed departure leads where its reverse led, the start's departure first, then the end's on the links
-- so left; the row goes
unfoldable pub unlink_edge : ℕ → Map → Map
unlink_edge e m =
    let m' = redirect (fwd e) (next m (bwd e)) m in
    let m'' = redirect (bwd e) (next m' (fwd e)) m' in
    set_edges (without_edge e m''.edges) m''

-- the face at a node with these departures
abbrev pub corner_of : Map → ℕ → Way → List Dart → ℕ
corner_of m n v [] = get_or (node m n).face 0
corner_of m n v (d ∷ ds) = bears m (first_clockwise (way m) v d (d ∷ ds))

-- corner face of a new departure: left of the first existing departure met turning clockwise from it; at an isolated
-- node, the containing face
unfoldable pub corner_face : Map → ℕ → Way → ℕ
corner_face m n v = corner_of m n v (departures m n)
