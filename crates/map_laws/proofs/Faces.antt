-- Faces that rows name exist, and so do the face of a corner, which is that of the first departure met, and that of a
-- directed edge. Nodes keep their numbers where a face is shared out. Assumes nothing.
use mathlib.Core.Path.{◌≡◌, refl, sym, subst}
use mathlib.Core.Bool.{Bool, true, false, cond, ◌&&◌}
use mathlib.Core.List.Memᴰ
use mathlib.Core.List.{List, [], ◌∷◌, Memᴰ}
use mathlib.Core.Option.{Option, none, some, get_or}
use Prim.Native.Nat.{ℕ}
use native.Mathlib.Omega.{arith}
use Rattle.lists.specs.Tests.{same}
use Rattle.lists.specs.Scans.{all_of, first_or}
use Rattle.lists.proofs.Bools.{same_refl, same_true, and-true}
use Rattle.lists.proofs.Members.{all_each, any_some, some_any}
use Rattle.plane.specs.Directions.{Way}
use Rattle.planar_maps.specs.Map.{Dart}
use Rattle.rotation.specs.Law.{first_clockwise, pick}
use Rattle.rotation.proofs.Node.{first_in}
use Rattle.map.specs.Rows.{Node, Edge, Map, node, edge, has_node, has_edge, has_face}
use Rattle.map.specs.Darts.{bears, departures, way}
use Rattle.map.specs.Form.{numbers, in_face, edge_names, named, formed}
use Rattle.map.specs.Links.{corner_of, corner_face}
use Rattle.map.specs.Edits.{Shares, side_of_point, side_of_node}
use Rattle.map.proofs.Laws.{numbers_are, formed_is, edge_there_lem, node_there_lem}
use Rattle.map_laws.proofs.Readings.{face_in, bears_row, departs, dart_has}

-- ---- faces as members

pub has_face_lem : (m : Map) (f : ℕ) → Memᴰ f m.faces → has_face m f ≡ true
has_face_lem m f k = some_any (same f) m.faces k (same_refl f)

face_has : (m : Map) (f : ℕ) → has_face m f ≡ true → Memᴰ f m.faces
face_has m f h = let x = any_some (same f) m.faces h in Memᴰ.cast (same_true f x.0 x.2) x.1

in_face_lem : (m : Map) (o : Option ℕ) → in_face m o ≡ true → (f : ℕ) → o ≡ some f → Memᴰ f m.faces
in_face_lem m none h f e = let z : ◌≡◌ {A = ℕ} 0 1 = cc in absurd (omega arith)
in_face_lem m (some g) h f e = let q : g ≡ f = cc in subst (λ (x : ℕ). Memᴰ x m.faces) q (face_has m g h)

pub zero_in : (fs : List ℕ) → first_or 1 fs ≡ 0 → Memᴰ 0 fs
zero_in [] e = absurd (omega arith)
zero_in (f ∷ fs) e = Memᴰ.head (sym e)

-- face 0, the faces of nodes and both sides of edges exist
pub record FacesNamed (m : Map) : Type 0 where
  pub zero : Memᴰ 0 m.faces
  pub nodes : (n : Node) → Memᴰ n m.nodes → (f : ℕ) → n.face ≡ some f → Memᴰ f m.faces
  pub sides : (e : Edge) → Memᴰ e m.edges → Memᴰ e.left m.faces × Memᴰ e.right m.faces

sides : (m : Map) (e : Edge) → edge_names m e ≡ true
    → Memᴰ e.left m.faces × Memᴰ e.right m.faces
sides m e h =
    let h₁ = and-true _ (has_face m e.right) h in
    let h₂ = and-true (has_node m e.start && has_node m e.end && has_edge m e.next_left.edge
    && has_edge m e.next_right.edge) (has_face m e.left) h₁.0 in
    (face_has m e.left h₂.1, face_has m e.right h₁.1)

pub named_faces : (m : Map) → numbers m ≡ true → named m ≡ true → FacesNamed m
unfolding named
named_faces m h k =
    let rows = and-true (all_of (λ n. in_face m n.face) m.nodes) (all_of (edge_names m) m.edges) k in
    record {
      zero = zero_in m.faces (numbers_are m h).zero;
      nodes = λ n i. in_face_lem m n.face (all_each (λ n. in_face m n.face) m.nodes rows.0 n i);
      sides = λ e i. sides m e (all_each (edge_names m) m.edges rows.1 e i);
    }

pub formed_faces : (m : Map) → formed m ≡ true → FacesNamed m
formed_faces m h = named_faces m (formed_is m h).rising (formed_is m h).named

-- ---- the corner face is that of the first departure met

corner_of_lem : (m : Map) (n : ℕ) (w : Way) (u : Dart) (ds : List Dart) {d : Dart} → Memᴰ d ds → corner_of m n w ds
    ≡ bears m (first_clockwise (way m) w u ds)
unfolding first_clockwise pick
corner_of_lem m n w u [] k = absurd (Memᴰ.not-nil k)
corner_of_lem m n w u (d ∷ ds) k = refl

pub corner_first : (m : Map) (n : ℕ) (w : Way) (u : Dart) {d : Dart} → Memᴰ d (departures m n) → corner_face m n w
    ≡ bears m (first_clockwise (way m) w u (departures m n))
unfolding corner_face
corner_first m n w u k = corner_of_lem m n w u (departures m n) k

-- ---- faces that a map reads exist

module _ (m : Map) where
  -- the face on either side of an edge
  pub bears_in : (d : Dart) → has_edge m d.edge ≡ true → FacesNamed m → Memᴰ (bears m d) m.faces
  bears_in d h x = Memᴰ.cast (bears_row m d) (go d.back)
    where
      go : (b : Bool) → Memᴰ (face_in b (edge m d.edge)) m.faces
      go true = (x.sides (edge m d.edge) (edge_there_lem m d.edge h).0).1
      go false = (x.sides (edge m d.edge) (edge_there_lem m d.edge h).0).0

  -- the face of a node, where it has one
  pub node_face_in : (n : ℕ) → has_node m n ≡ true → FacesNamed m
      → Memᴰ (get_or (node m n).face 0) m.faces
  node_face_in n h x = go (node m n).face refl
    where
      go : (o : Option ℕ) → (node m n).face ≡ o → Memᴰ (get_or o 0) m.faces
      go none e = x.zero
      go (some f) e = x.nodes (node m n) (node_there_lem m n h).0 f e

  -- the corner face of a new departure
  pub corner_in : (n : ℕ) (v : Way) → has_node m n ≡ true → FacesNamed m → Memᴰ (corner_face m n v) m.faces
  unfolding corner_face
  corner_in n v h x = go (departures m n) (λ d k. dart_has m (departs m n k).0)
    where
      go : (ds : List Dart) → ((d : Dart) → Memᴰ d ds → has_edge m d.edge ≡ true)
          → Memᴰ (corner_of m n v ds) m.faces
      go [] k = node_face_in n h x
      go (d ∷ ds) k = bears_in (first_clockwise (way m) v d (d ∷ ds))
          (k _ (first_in (way m) v d (d ∷ ds) (Memᴰ.head refl))) x

  -- a node on one side or the other keeps its number
  pub side_number : (s : Shares) (n : Node) (f : Option ℕ) → (side_of_node m s n f).number ≡ n.number
  side_number s n none = refl
  side_number s n (some f) = go (same f s.old)
    where
      go : (b : Bool) → (cond b (record {
        number = n.number;
        at = n.at;
        face = some (side_of_point m s n.at);
      }) n).number ≡ n.number
      go true = refl
      go false = refl
