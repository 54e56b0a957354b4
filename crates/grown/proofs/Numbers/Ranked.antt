-- Numbers, faces and marks of a map, by its nodes and the outlines of its edges: what `Numbered` says beside what
-- `Woven` has. Assumes nothing.
use mathlib.Core.Path.{◌≡◌, refl, sym, ap, ◌∙◌, subst}
use mathlib.Core.Logic.{◌⊎◌, inl, inr}
use mathlib.Core.Bool.{Bool, true, false, true≢false}
use mathlib.Core.List.Memᴰ
use mathlib.Core.List.{List, map, map-map, Memᴰ}
use mathlib.Core.Option.{Option, none, some}
use Prim.Native.Nat.{ℕ, suc, ◌≤◌}
use Rattle.lists.specs.Tests.{same}
use Rattle.lists.specs.Scans.{first_or, is_some}
use Rattle.lists.specs.Members.{Distinct}
use Rattle.lists.proofs.Bools.{same_eq, beq_true, beq_refl, and_is}
use Rattle.lists.proofs.Members.{all_each, each_all, some_member, member_some}
use Rattle.lists.proofs.Rising.{Rising, rising, rising_numbered}
use Rattle.planar_maps.specs.Map.{Dart, fwd, bwd}
use Rattle.planar_maps.specs.Pieces.{nums}
use Rattle.planar_maps.proofs.Rings.{next_in_lem}
use Rattle.map.specs.Limits.{last_number}
use Rattle.map.specs.Rows.{Node, Edge, Map, edge, has_edge}
use Rattle.map.specs.Darts.{arcs, directed, leaves, next, departures, edge_ends}
use Rattle.map.specs.Form.{numbers, in_face, edge_names, named, bare_marked}
use Rattle.map.proofs.Laws.{Numbers, numbers_are, edge_there_lem}
use Rattle.map_laws.proofs.Readings.{Outline, outline_of, outlines, outline_number, number_of, arc_of, edge_at, row_has}
use Rattle.map_laws.proofs.Readings.{has_dart, dart_has, leaves_row, next_row, departs, departing, has_number, tail_in}
use Rattle.map_laws.proofs.Outlines.{Shape}
use Rattle.map_laws.proofs.Faces.{has_face_lem, zero_in, FacesNamed, named_faces}
use Rattle.map_laws.proofs.RowChanges.{node_number}
use Rattle.grown.specs.Good.{Numbered, Woven}

-- an edge ends at the node k
abbrev pub EndsAt : Outline → ℕ → Type 0
EndsAt o k = (o.arc.from ≡ k) ⊎ (o.arc.to ≡ k)

abbrev pub Met : List Outline → ℕ → Type 0
Met os k = (o : Outline) × Memᴰ o os × EndsAt o k

-- a node's face exists, and it has none exactly when an edge ends there
pub record Placed (os : List Outline) (fs : List ℕ) (n : Node) : Type 0 where
  pub inside : (f : ℕ) → n.face ≡ some f → Memᴰ f fs
  pub met : is_some n.face ≡ false → Met os n.number
  pub bare : Met os n.number → is_some n.face ≡ false

-- both sides of an edge are faces
abbrev pub Sided : List ℕ → Outline → Type 0
Sided fs o = Memᴰ o.left fs × Memᴰ o.right fs

-- nodes, edges and faces with their next numbers
pub record Ranked (ns : List Node) (os : List Outline) (fs : List ℕ) (a b c : ℕ) : Type 0 where
  pub nodes : Rising 1 a (map node_number ns)
  pub edges : Rising 1 b (map outline_number os)
  pub faces : Rising 0 c fs
  pub zero : first_or 1 fs ≡ 0
  pub placed : (n : Node) → Memᴰ n ns → Placed os fs n
  pub sided : (o : Outline) → Memᴰ o os → Sided fs o
  pub first_node : 1 ≤ a
  pub first_edge : 1 ≤ b

abbrev pub RankedMap : Map → Type 0
RankedMap m = Ranked m.nodes (outlines m) m.faces m.next.nodes m.next.edges m.next.faces

-- faces that rows name exist
pub ranked_faces : (m : Map) → RankedMap m → FacesNamed m
ranked_faces m r = record {
  zero = zero_in m.faces r.zero;
  nodes = λ n k. (r.placed n k).inside;
  sides = λ e k. r.sided (outline_of e) (Memᴰ.map outline_of k);
}

pub ranked_shape : {m : Map} {ns : List Node} {os : List Outline} {fs : List ℕ} {a b c : ℕ} → Shape m ns os fs a b c
    → Ranked ns os fs a b c → RankedMap m
ranked_shape s r = rw (s.nodes, s.outlines, s.faces, s.next) r

-- the next numbers are within the limit
pub record NextLimited (m : Map) : Type 0 where
  pub node : m.next.nodes ≤ suc last_number
  pub edge : m.next.edges ≤ suc last_number
  pub face : m.next.faces ≤ suc last_number

-- ---- edge ends

-- where there are edge ends, an edge ends, and the other way round
pub ends_met : (m : Map) (k : ℕ) → same (edge_ends m k) 0 ≡ false → Met (outlines m) k
ends_met m k h = (
  outline_of row,
  Memᴰ.map outline_of (edge_there_lem m d.edge found).0,
  go d.back (sym (leaves_row m d) ∙ away.1),
)
  where
    d : Dart
    d = (some_member (departures m k) h).0

    away : Memᴰ d (directed m) × (leaves m d ≡ k)
    away = departs m k (some_member (departures m k) h).1

    found : has_edge m d.edge ≡ true
    found = dart_has m away.0

    row : Edge
    row = edge m d.edge

    go : (b : Bool) → tail_in b (edge m d.edge) ≡ k → ((edge m d.edge).start ≡ k) ⊎ ((edge m d.edge).end ≡ k)
    go true e = inr e
    go false e = inl e

pub met_ends : (m : Map) (k : ℕ) → Distinct (nums (arcs m)) → Met (outlines m) k → same (edge_ends m k) 0 ≡ false
met_ends m k dis h = go (Memᴰ.of_map outline_of m.edges h.1)
  where
    at : (r : Edge) → Memᴰ r m.edges → (r.start ≡ k) ⊎ (r.end ≡ k) → same (edge_ends m k) 0 ≡ false
    at r j (inl e) = member_some (departures m k)
        (departing m k (has_dart m (fwd r.number) (row_has m j))
        (leaves_row m (fwd r.number) ∙ ap (λ (x : Edge). x.start) (edge_at m dis j) ∙ e))
    at r j (inr e) = member_some (departures m k)
        (departing m k (has_dart m (bwd r.number) (row_has m j))
        (leaves_row m (bwd r.number) ∙ ap (λ (x : Edge). x.end) (edge_at m dis j) ∙ e))

    go : (r : Edge) × Memᴰ r m.edges × (outline_of r ≡ h.0) → same (edge_ends m k) 0 ≡ false
    go x = at x.0 x.1 (subst (λ (o : Outline). EndsAt o k) (sym x.2) h.2)

-- ---- from `Numbered` and back

outline_numbers : (m : Map) → map outline_number (outlines m) ≡ map number_of m.edges
outline_numbers m = map-map outline_number outline_of m.edges

face_in_lem : (m : Map) (o : Option ℕ) → ((f : ℕ) → o ≡ some f → Memᴰ f m.faces) → in_face m o ≡ true
face_in_lem m none h = refl
face_in_lem m (some f) h = has_face_lem m f (h f refl)

marked_met : (m : Map) (n : Node) → bare_marked m ≡ true → Memᴰ n m.nodes → is_some n.face
    ≡ same (edge_ends m n.number) 0
unfolding bare_marked
marked_met m n h k = beq_true (is_some n.face) (same (edge_ends m n.number) 0) (all_each _ m.nodes h n k)

-- every row names rows that exist
named_all : (m : Map) → ((n : Node) → Memᴰ n m.nodes → in_face m n.face ≡ true)
    → ((e : Edge) → Memᴰ e m.edges → edge_names m e ≡ true) → named m ≡ true
unfolding named
named_all m h k = and_is (each_all (λ n. in_face m n.face) m.nodes h) (each_all (edge_names m) m.edges k)

pub numbered_ranked : (m : Map) → Distinct (nums (arcs m)) → Numbered m → RankedMap m
numbered_ranked m dis n = record {
  nodes = c.nodes.rising;
  edges = subst (Rising 1 m.next.edges) (sym (outline_numbers m)) c.edges.rising;
  faces = c.faces.rising;
  zero = c.zero;
  placed = λ r k. record {
    inside = faces.nodes r k;
    met = λ e. ends_met m r.number (sym (marked_met m r n.marked k) ∙ e);
    bare = λ e. marked_met m r n.marked k ∙ met_ends m r.number dis e;
  };
  sided = λ o k. let x = Memᴰ.of_map outline_of m.edges k in
      subst (Sided m.faces) x.2 (faces.sides x.0 x.1);
  first_node = n.first_node;
  first_edge = n.first_edge;
}
  where
    c : Numbers m
    c = numbers_are m n.numbers

    faces : FacesNamed m
    faces = named_faces m n.numbers n.named

pub ranked_numbered : (m : Map) → Woven m → RankedMap m → NextLimited m → Numbered m
unfolding bare_marked numbers
ranked_numbered m w r l = record {
  numbers = and_is (and_is (and_is (rising_numbered _ _ _ r.nodes)
      (rising_numbered _ _ _ (subst (Rising 1 m.next.edges) (outline_numbers m) r.edges)))
      (rising_numbered _ _ _ r.faces)) (same_eq (first_or 1 m.faces) 0 r.zero);
  named = named_all m (λ n k. face_in_lem m n.face (r.placed n k).inside) row_names;
  marked = each_all _ m.nodes (λ n k. rw (mark n k) (beq_refl (same (edge_ends m n.number) 0)));
  first_node = r.first_node;
  first_edge = r.first_edge;
  next_node = l.node;
  next_edge = l.edge;
  next_face = l.face;
}
  where
    dis : Distinct (nums (arcs m))
    dis = w.planar.edges_once

    mark : (n : Node) → Memᴰ n m.nodes → is_some n.face ≡ same (edge_ends m n.number) 0
    mark n k = go (is_some n.face) refl (same (edge_ends m n.number) 0) refl
      where
        go : (a : Bool) → is_some n.face ≡ a → (b : Bool) → same (edge_ends m n.number) 0 ≡ b → a ≡ b
        go true p true q = refl
        go true p false q = absurd (true≢false (sym p ∙ (r.placed n k).bare (ends_met m n.number q)))
        go false p true q = sym (met_ends m n.number dis ((r.placed n k).met p)) ∙ q
        go false p false q = refl

    linked : (b : Bool) (e : Edge) → Memᴰ e m.edges
        → has_edge m (next m (record { edge = e.number; back = b })).edge ≡ true
    linked b e k = dart_has m (next_in_lem w.planar.linked
        (has_dart m (record { edge = e.number; back = b }) (row_has m k)))

    row_names : (e : Edge) → Memᴰ e m.edges → edge_names m e ≡ true
    row_names e k =
        let sides = r.sided (outline_of e) (Memᴰ.map outline_of k) in
        let to_left : next m (fwd e.number) ≡ e.next_left = next_row m (fwd e.number)
        ∙ ap (λ (x : Edge). x.next_left) (edge_at m dis k) in
        let to_right : next m (bwd e.number) ≡ e.next_right = next_row m (bwd e.number)
        ∙ ap (λ (x : Edge). x.next_right) (edge_at m dis k) in
        and_is (and_is (and_is (and_is (and_is
        (has_number node_number m.nodes e.start (w.planar.within.starts (arc_of e) (Memᴰ.map arc_of k)))
        (has_number node_number m.nodes e.end (w.planar.within.ends (arc_of e) (Memᴰ.map arc_of k))))
        (ap (λ (d : Dart). has_edge m d.edge) (sym to_left) ∙ linked false e k))
        (ap (λ (d : Dart). has_edge m d.edge) (sym to_right) ∙ linked true e k))
        (has_face_lem m e.left sides.0))
        (has_face_lem m e.right sides.1)
