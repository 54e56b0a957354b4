-- Tables with the head beside them that hold a map, and what is asked of them when a face is split or two are healed.
use Rattle.std.specs.Prelude.{◌≡◌, Bool, true, cond, not, ◌&&◌, ◌||◌, ℕ, suc, ◌+◌, ◌*◌, ◌-◌, ◌/◌, ◌≤◌, ◌<◌, min, ℤ, pos, nat_abs, length}
use mathlib.Core.List.{List, [], ◌∷◌, ◌++◌, flat_map}
use Rattle.std.specs.Int.Signed.{non_neg, lt_z}
use Rattle.lists.specs.Tests.{same, bit}
use Rattle.lists.specs.Scans.{any_of, all_of, keep}
use Rattle.planar_maps.specs.Map.{Dart, fwd, rev}
use Rattle.curves.specs.Curves.{through}
use Rattle.bounding_boxes.specs.declared.Extent.{Extent}
use Rattle.tables.specs.Tables.{filled, numbered}
use Rattle.map.specs.declared.Head.{Head}
use Rattle.map.specs.Limits.{last_number, limit_of, face_width}
use Rattle.map.specs.Rows.{Edge, Map, node_cells, edge_cells, box_of, head_of, has_node, set_faces, given, counts}
use Rattle.map.specs.Darts.{ring}
use Rattle.map.specs.Edits.{Shares, renamed, renamed_faces}
use Rattle.map_rows.specs.Rows.{NodeRows, EdgeRows, nodes_of, edges_of, faces_of, faces_in, edge_at, node_map}
use Rattle.head.specs.Heads.{Counted}
use Rattle.face_relabel.specs.declared.Sides.{Sides}
use Rattle.face_relabel.specs.Sharing.{Ringed}

-- ---- the face table

-- the table holds the faces with these rectangles, in rising order
pub record FaceTable (n : ℕ) (box : ℕ → Extent) (fs : List ℕ) (l : List ℤ) : Type 0 where
  pub cells : faces_in n box fs ≡ l
  pub rising : numbered 0 (suc last_number) fs ≡ true
  pub fits : length fs * face_width ≤ n

-- the same, whatever the rectangles are
abbrev pub SomeTable : List ℤ → ℕ → Type 0
SomeTable l count = (box : ℕ → Extent) × FaceTable (length l) box (faces_of l count) l

-- numbers not yet given have no rectangle
abbrev pub Unboxed : (ℕ → Extent) → ℕ → Type 0
Unboxed box next = (f : ℕ) → next ≤ f → box f ≡ box_of []

-- the table with some rectangles, but none for numbers from `next` on
abbrev pub FreshTable : List ℤ → ℕ → ℕ → Type 0
FreshTable l count next = (box : ℕ → Extent) × Unboxed box next × FaceTable (length l) box (faces_of l count) l

-- rows with some rectangles, but none for f
abbrev pub Blank : List ℤ → ℕ → ℕ → Type 0
Blank l count f = (box : ℕ → Extent) × (box f ≡ box_of []) × (faces_in (length l) box (faces_of l count) ≡ l)

-- the faces but one
abbrev pub without_face : ℕ → List ℕ → List ℕ
without_face f fs = keep (λ g. not (same g f)) fs

-- `old` is a face of the table, `a` may be the number of a new one, and there is room for a row more
pub record RowSplittable (l : List ℤ) (count : ℕ) (old a : ℤ) : Type 0 where
  pub table : FreshTable l count (nat_abs a)
  pub there : any_of (same (nat_abs old)) (faces_of l count) ≡ true
  pub room : count * face_width + face_width ≤ length l
  pub old_natural : non_neg old ≡ true
  pub natural : non_neg a ≡ true
  pub most : nat_abs a ≤ suc last_number

-- left and right are two faces of the table, and `face` is a number, without a rectangle where the face is new
pub record RowsHealable (l : List ℤ) (count : ℕ) (left right face : ℤ) (makes : Bool) : Type 0 where
  pub table : (box : ℕ → Extent) × (makes ≡ true → box (nat_abs face) ≡ box_of [])
      × FaceTable (length l) box (faces_of l count) l
  pub left_there : any_of (same (nat_abs left)) (faces_of l count) ≡ true
  pub right_there : any_of (same (nat_abs right)) (faces_of l count) ≡ true
  pub left-natural : non_neg left ≡ true
  pub right_natural : non_neg right ≡ true
  pub natural : non_neg face ≡ true
  pub differ : nat_abs left ≡ nat_abs right → ⊥

-- ---- all three tables

-- rows in use, zeros behind, as many rows as the head counts, and no rectangle for a face not yet given
pub record MapTables (nodes edges faces : List ℤ) (h : Head) : Type 0 where
  pub node_rows_lem : NodeRows nodes (nat_abs h.nodes)
  pub edge_rows_lem : EdgeRows edges (nat_abs h.edges)
  pub node_cells_lem : filled (length nodes) (flat_map node_cells (nodes_of nodes (nat_abs h.nodes))) ≡ nodes
  pub edge_cells_lem : filled (length edges) (flat_map edge_cells (edges_of edges (nat_abs h.edges))) ≡ edges
  pub face_table : FreshTable faces (nat_abs h.faces) (nat_abs h.next_face)
  pub counted : Counted h

-- the last edge is drawn inside the face `old`, and there is room for a face more
pub record Splittable (nodes edges faces : List ℤ) (h : Head) (old : ℤ) : Type 0 where
  pub held : MapTables nodes edges faces h
  pub drawn : 1 ≤ nat_abs h.edges
  pub ends : all_of (λ r. has_node (node_map nodes (nat_abs h.nodes)) r.start
      && has_node (node_map nodes (nat_abs h.nodes)) r.end) (edges_of edges (nat_abs h.edges)) ≡ true
  pub rings : Ringed edges (nat_abs h.edges)
  pub borne : old ≡ pos (edge_at edges (nat_abs h.edges - 1)).left
  pub there : any_of (same (nat_abs old)) (faces_of faces (nat_abs h.faces)) ≡ true
  pub room : nat_abs h.faces < length faces / face_width

-- left and right are two faces
pub record Healable (nodes edges faces : List ℤ) (h : Head) (left right : ℤ) : Type 0 where
  pub held : MapTables nodes edges faces h
  pub left_face : left ≡ pos (nat_abs left)
  pub right_face : right ≡ pos (nat_abs right)
  pub left_there : any_of (same (nat_abs left)) (faces_of faces (nat_abs h.faces)) ≡ true
  pub right_there : any_of (same (nat_abs right)) (faces_of faces (nat_abs h.faces)) ≡ true
  pub left_below : nat_abs left < nat_abs h.next_face
  pub right_below : nat_abs right < nat_abs h.next_face
  pub differ : nat_abs left ≡ nat_abs right → ⊥

-- tables as long as those before, and the head with the same record, are those of the map, with these rectangles
pub record TablesOf (box : ℕ → Extent) (nodes edges faces : List ℤ) (h : Head) (m : Map)
    (nodes' edges' faces' : List ℤ) (h' : Head) : Type 0 where
  pub node_cells_lem : filled (length nodes) (flat_map node_cells m.nodes) ≡ nodes'
  pub edge_cells_lem : filled (length edges) (flat_map edge_cells m.edges) ≡ edges'
  pub face_cells : faces_in (length faces) box m.faces ≡ faces'
  pub head : head_of (limit_of h.points) m ≡ h'

-- the face to share out in the map's terms: d is on the reference side, its reverse on the other
abbrev pub shares_in : Map → Dart → Sides → Shares
shares_in m d s = record {
  old = nat_abs s.old;
  ref_ring = ring m d;
  other_ring = ring m (rev d);
  ref = nat_abs s.inside;
  other = nat_abs s.other;
}

-- the sides of the edge at position p: the reference side is left where `is_left`; the old face goes, or is the other
-- side
abbrev pub sides_of : Bool → Bool → ℕ → ℤ → ℤ → Sides
sides_of is_left goes p old a =
    let b = cond goes (pos (nat_abs a + 1)) old in
    record {
      old = old;
      ring = p + bit (not is_left);
      inside = cond (is_left || not goes) a b;
      other = cond (is_left || not goes) b a;
    }

-- the faces after a split: a and the number after it for the old face, or a beside it
abbrev pub split_faces : Bool → ℕ → ℕ → List ℕ → List ℕ
split_faces goes old a fs = cond goes (without_face old fs ++ a ∷ (a + 1) ∷ []) (fs ++ a ∷ [])

-- the faces after a heal: face for both, or the lower alone
abbrev pub heal_faces : Bool → ℤ → ℤ → ℕ → List ℕ → List ℕ
heal_faces makes left right face fs = cond makes (without_face (nat_abs right) (without_face (nat_abs left) fs) ++ face ∷ [])
    (without_face (nat_abs (cond (lt_z left right) right left)) fs)

-- a row of two sides and nothing else
abbrev pub sides_alone : ℕ → ℕ → Edge
sides_alone left right = record {
  number = 0;
  start = 0;
  end = 0;
  next_left = fwd 0;
  next_right = fwd 0;
  left = left;
  right = right;
  curve = through [];
}

-- the face that is left of the two sides of a row: a new one, or the lower
abbrev pub face_kept : Bool → Edge → Map → ℕ
face_kept makes row m = cond makes m.next.faces (min row.left row.right)

-- both sides of a row become one face: `remove_edge` but for the edge, which is still drawn
abbrev pub merged_sides : Bool → Edge → Map → Map
merged_sides makes row m =
    let f = face_kept makes row m in
    let left = keep (λ g. same g (renamed row f g)) m.faces in
    set_faces (cond makes (left ++ f ∷ []) left) (given (counts 0 0 (bit makes)) (renamed_faces row f m))
