-- After two faces are healed: the edge can be undrawn as `remove_edge` does it, and the tables are rows in range of the
-- healed map. Assumes nothing.
use mathlib.Core.Path.{◌≡◌, refl, sym, ap, ◌∙◌, subst}
use mathlib.Core.Bool.{Bool, cond, ◌&&◌}
use mathlib.Core.List.{List, [], ◌∷◌, ◌++◌, map, flat_map}
use mathlib.Core.Option.{Option, none, some}
use Prim.Native.Nat.{ℕ, suc, ◌-◌, ◌<◌}
use lib.IntN.{ℤ, pos, nat_abs}
use lib.ListN.{length, drop, replicate, get_or}
use Rattle.lists.specs.Tests.{same, bit}
use Rattle.lists.specs.Scans.{all_of, find, is_some, first_or, keep}
use Rattle.lists.proofs.Scans.{get_d_table}
use Rattle.lists.proofs.Lookups.{has_map}
use Rattle.tables.specs.Tables.{rows, filled, numbered}
use Rattle.tables.proofs.Writes.{wide-map}
use Rattle.tables.proofs.Filled.{Wide, rows_flat, filled_long}
use Rattle.bounding_boxes.specs.declared.Extent.{Extent}
use Rattle.map.specs.declared.Head.{Head}
use Rattle.map.specs.declared.Variant.{Variant}
use Rattle.map.specs.Limits.{edge_width, last_number}
use Rattle.map.specs.Rows.{Node, Edge, Map, node_cells, edge_cells, edge_of, map_of, edge, has_edge, set_faces, given}
use Rattle.map.specs.Rows.{set_nodes, set_edges, at_nodes, counts, lent}
use Rattle.map.specs.Darts.{leaves, next, departures}
use Rattle.map.specs.Links.{redirect, unlink_edge}
use Rattle.map.specs.Form.{edge_ranges}
use Rattle.map.specs.Edits.{with_sides, undrawn, renamed, renamed_node, renamed_faces, makes_face, face_left, remove_edge}
use Rattle.map_rows.specs.Rows.{NodeRows, EdgeRows, nodes_of, edges_of, faces_of, edge_map, edge_at}
use Rattle.map_rows.proofs.Rows.{nodes_length, edges_length, edge_numbers_lem}
use Rattle.map_rows.proofs.RowCurves.{table_edges_wide}
use Rattle.face_rows.specs.Holds.{MapTables, TablesOf, sides_alone, face_kept, merged_sides}
use Rattle.face_rows.proofs.FaceRows.{faces_read}
use Rattle.face_rows.proofs.Renames.{sides_wide, map_size}
use Rattle.face_rows.proofs.Shares.{node_rows-after, nodes_after, long_after}
use native.Mathlib.Nat.{zero-add}

-- ---- the edge undrawn

-- an edge undrawn leaves faces and numbers
pub undrawn-after : (e f : ℕ) (fs : List ℕ) (k : ℕ) (m : Map) → undrawn e f (set_faces fs (given (counts 0 0 k) m))
    ≡ set_faces fs (given (counts 0 0 k) (undrawn e f m))
unfolding undrawn unlink_edge redirect at_nodes next leaves departures edge
undrawn-after e f fs k m = refl

-- kinds 13 and 14: the faces healed, and the edge undrawn
pub removed_is : (how : Variant) (e : ℕ) (m : Map) → remove_edge how e m
    ≡ undrawn e (face_left how e m) (merged_sides (makes_face how e m) (edge m e) m)
unfolding remove_edge
removed_is how e m =
    let f = face_left how e m in
    let left = keep (λ g. same g (renamed (edge m e) f g)) m.faces in
    sym (undrawn-after e f (cond (makes_face how e m) (left ++ f ∷ []) left) (bit (makes_face how e m))
    (renamed_faces (edge m e) f m))

-- ---- edges of which the sides alone are changed

module _ (u v : Edge → ℕ) where
  abbrev sided : Edge → Edge
  sided x = with_sides (u x) (v x) x

  back-map : (xs : List Edge) → map edge_of (map edge_cells xs) ≡ xs → map edge_of (map edge_cells (map sided xs))
      ≡ map sided xs
  unfolding edge_of edge_cells
  back-map [] h = refl
  back-map (x ∷ xs) h = let first = ap (first_or x) h in let later = back-map xs (ap (drop 1) h) in
      λ i. with_sides (u x) (v x) (first i) ∷ later i

  ranges_map : (xs : List Edge) → all_of edge_ranges (map edge_cells (map sided xs)) ≡ all_of edge_ranges (map edge_cells xs)
  unfolding edge_cells
  ranges_map [] = refl
  ranges_map (x ∷ xs) = ap (λ (b : Bool). edge_ranges (edge_cells x) && b) (ranges_map xs)

  numbers-map : (xs : List Edge) → map (λ r. r.number) (map sided xs) ≡ map (λ r. r.number) xs
  numbers-map [] = refl
  numbers-map (x ∷ xs) = ap (λ (r : List ℕ). x.number ∷ r) (numbers-map xs)

  named-map : (p q : ℕ → Bool) → ((k : ℕ) → p k ≡ q k) → (xs : List Edge)
      → all_of (λ e. p e.next_left.edge && p e.next_right.edge) (map sided xs)
      ≡ all_of (λ e. q e.next_left.edge && q e.next_right.edge) xs
  named-map p q h [] = refl
  named-map p q h (x ∷ xs) = λ i. h x.next_left.edge i && h x.next_right.edge i && named-map p q h xs i

  module _ {l l' : List ℤ} {n : ℕ} (rows_are : EdgeRows l n)
      (cells : filled (length l) (flat_map edge_cells (edges_of l n)) ≡ l)
      (after : filled (length l) (flat_map edge_cells (map sided (edges_of l n))) ≡ l') where
    wide : Wide edge_width edge_cells (edges_of l n)
    wide = table_edges_wide l n rows_are.fits rows_are.ranges

    wide-after : Wide edge_width edge_cells (map sided (edges_of l n))
    wide-after = wide-map edge_width edge_cells sided (λ x e. sides_wide (u x) (v x) x ∙ e) (edges_of l n) wide

    size_after : length (map sided (edges_of l n)) ≡ n
    size_after = map_size sided (edges_of l n) n (edges_length l n)

    rows_before : rows edge_width n l ≡ map edge_cells (edges_of l n)
    rows_before =
        ap (rows edge_width n) (sym cells)
        ∙ ap (λ (k : ℕ). rows edge_width k (filled (length l) (flat_map edge_cells (edges_of l n))))
        (sym (edges_length l n))
        ∙ rows_flat edge_width edge_cells (edges_of l n)
        (replicate (length l - length (flat_map edge_cells (edges_of l n))) (pos 0)) wide

    rows-after : rows edge_width n l' ≡ map edge_cells (map sided (edges_of l n))
    rows-after =
        ap (rows edge_width n) (sym after)
        ∙ ap (λ (k : ℕ). rows edge_width k (filled (length l) (flat_map edge_cells (map sided (edges_of l n)))))
        (sym size_after)
        ∙ rows_flat edge_width edge_cells (map sided (edges_of l n))
        (replicate (length l - length (flat_map edge_cells (map sided (edges_of l n)))) (pos 0)) wide-after

    pub edges_after : edges_of l' n ≡ map sided (edges_of l n)
    edges_after = ap (map edge_of) rows-after ∙ back-map (edges_of l n) (sym (ap (map edge_of) rows_before))

    pub edges_long : length l' ≡ length l
    edges_long = filled_long edge_width edge_cells (length l) (map sided (edges_of l n)) n wide-after size_after after
        rows_are.fits

    pub numbers_after : map (λ r. r.number) (edges_of l' n) ≡ map (λ r. r.number) (edges_of l n)
    numbers_after = ap (map (λ (r : Edge). r.number)) edges_after ∙ numbers-map (edges_of l n)

    has_after : (k : ℕ) → has_edge (edge_map l' n) k ≡ has_edge (edge_map l n) k
    has_after k = ap (λ (xs : List Edge). is_some (find (λ r. same r.number k) xs)) edges_after
        ∙ has_map (λ (r : Edge). r.number) sided (edges_of l n) k (λ r i. refl)

    pub edge_rows-after : EdgeRows l' n
    edge_rows-after =
        record {
          fits = rw edges_long rows_are.fits;
          ranges = ap (all_of edge_ranges) rows-after ∙ ranges_map (edges_of l n)
              ∙ ap (all_of edge_ranges) (sym rows_before) ∙ rows_are.ranges;
          rising = ap (numbered 1 (suc last_number)) numbers_after ∙ rows_are.rising;
          named = ap (all_of (λ e. has_edge (edge_map l' n) e.next_left.edge
              && has_edge (edge_map l' n) e.next_right.edge)) edges_after
              ∙ named-map (has_edge (edge_map l' n)) (has_edge (edge_map l n)) has_after (edges_of l n) ∙ rows_are.named;
        }

-- ---- the tables after a heal

renamed-number : (row : Edge) (f : ℕ) (x : Node) (q : Option ℕ) → (renamed_node row f x q).number ≡ x.number
renamed-number row f x none = refl
renamed-number row f x (some g) = refl

renamed_at : (row : Edge) (f : ℕ) (x : Node) (q : Option ℕ) → (renamed_node row f x q).at ≡ x.at
renamed_at row f x none = refl
renamed_at row f x (some g) = refl

-- the sides alone of the row count
renamed_by : (row : Edge) (f : ℕ) (x : Node) (q : Option ℕ)
    → renamed_node (sides_alone row.left row.right) f x q ≡ renamed_node row f x q
renamed_by row f x none = refl
renamed_by row f x (some g) = refl

renamed_sides : (row : Edge) (f : ℕ) (m : Map) → renamed_faces (sides_alone row.left row.right) f m
    ≡ renamed_faces row f m
unfolding renamed_faces
renamed_sides row f m =
    λ i. set_nodes (map (λ x. renamed_by row f x x.face i) m.nodes)
    (set_edges (map (λ r. with_sides (renamed row f r.left) (renamed row f r.right) r) m.edges) m)

module _ (makes : Bool) (row : Edge) (m : Map) {l r : ℕ} (el : l ≡ row.left) (er : r ≡ row.right) where
  merged_sides_lem : merged_sides makes (sides_alone l r) m ≡ merged_sides makes row m
  merged_sides_lem =
      let f = face_kept makes row m in
      let left = keep (λ g. same g (renamed row f g)) m.faces in
      (λ i. merged_sides makes (sides_alone (el i) (er i)) m)
      ∙ ap (λ (x : Map). set_faces (cond makes (left ++ f ∷ []) left) (given (counts 0 0 (bit makes)) x))
      (renamed_sides row f m)

  -- the heal of two faces is that of a row with these sides
  pub healed_as : {box : ℕ → Extent} {nodes edges faces nodes' edges' faces' : List ℤ} {h h' : Head}
      → TablesOf box nodes edges faces h (merged_sides makes (sides_alone l r) m) nodes' edges' faces' h'
      → TablesOf box nodes edges faces h (merged_sides makes row m) nodes' edges' faces' h'
  healed_as {box} {nodes} {edges} {faces} {nodes'} {edges'} {faces'} {h} {h'} t =
      subst (λ (x : Map). TablesOf box nodes edges faces h x nodes' edges' faces' h') merged_sides_lem t

  pub kept_as : {z : ℤ} → z ≡ pos (face_kept makes (sides_alone l r) m) → z ≡ pos (face_kept makes row m)
  kept_as e = e ∙ (λ i. pos (face_kept makes (sides_alone (el i) (er i)) m))

module _ {nodes edges faces : List ℤ} {h : Head} (held : MapTables nodes edges faces h) (row : Edge) (makes : Bool)
    {box : ℕ → Extent} {nodes' edges' faces' : List ℤ} {h' : Head}
    (after : TablesOf box nodes edges faces h (merged_sides makes row
    (map_of (lent nodes edges faces h))) nodes' edges' faces' h')
  where
    abbrev face : ℕ
    face = face_kept makes row (map_of (lent nodes edges faces h))

    node_cells_are : filled (length nodes)
        (flat_map node_cells (map (λ x. renamed_node row face x x.face) (nodes_of nodes (nat_abs h.nodes)))) ≡ nodes'
    unfolding renamed_faces map_of
    node_cells_are = after.node_cells_lem

    edge_cells_are : filled (length edges)
        (flat_map edge_cells (map (sided (λ r. renamed row face r.left) (λ r. renamed row face r.right))
        (edges_of edges (nat_abs h.edges)))) ≡ edges'
    unfolding renamed_faces map_of
    edge_cells_are = after.edge_cells_lem

    pub healed_node_rows : NodeRows nodes' (nat_abs h.nodes)
    healed_node_rows = node_rows-after (λ x. renamed_node row face x x.face)
        (λ x. renamed-number row face x x.face)
        (λ x. renamed_at row face x x.face) held.node_rows_lem held.node_cells_lem node_cells_are

    pub healed_nodes : nodes_of nodes' (nat_abs h.nodes) ≡ (merged_sides makes row
        (map_of (lent nodes edges faces h))).nodes
    unfolding renamed_faces map_of
    healed_nodes = nodes_after (λ x. renamed_node row face x x.face) (λ x. renamed-number row face x x.face)
        (λ x. renamed_at row face x x.face) held.node_rows_lem held.node_cells_lem node_cells_are

    pub healed_edge_rows : EdgeRows edges' (nat_abs h.edges)
    healed_edge_rows = edge_rows-after (λ r. renamed row face r.left) (λ r. renamed row face r.right)
        held.edge_rows_lem held.edge_cells_lem edge_cells_are

    pub healed_edges_lem : edges_of edges' (nat_abs h.edges) ≡ (merged_sides makes row
        (map_of (lent nodes edges faces h))).edges
    unfolding renamed_faces map_of
    healed_edges_lem = edges_after (λ r. renamed row face r.left) (λ r. renamed row face r.right) held.edge_rows_lem
        held.edge_cells_lem edge_cells_are

    pub healed_nodes_long : length nodes' ≡ length nodes
    healed_nodes_long = long_after (λ x. renamed_node row face x x.face) (λ x. renamed-number row face x x.face)
        (λ x. renamed_at row face x x.face) held.node_rows_lem held.node_cells_lem node_cells_are

    pub healed_edges_long : length edges' ≡ length edges
    healed_edges_long = edges_long (λ r. renamed row face r.left) (λ r. renamed row face r.right)
        held.edge_rows_lem
        held.edge_cells_lem edge_cells_are

    -- a renaming of faces keeps the edges' numbers
    pub healed_numbers : map (λ r. r.number) (edges_of edges' (nat_abs h.edges))
        ≡ map (λ r. r.number) (edges_of edges (nat_abs h.edges))
    healed_numbers = numbers_after (λ r. renamed row face r.left) (λ r. renamed row face r.right)
        held.edge_rows_lem
        held.edge_cells_lem edge_cells_are

    pub healed_number : (i : ℕ) → i < nat_abs h.edges → (edge_at edges' i).number ≡ (edge_at edges i).number
    healed_number i t = sym (at edges') ∙ ap (λ (l : List ℕ). get_or l i 0) healed_numbers ∙ at edges
      where
        at : (l : List ℤ) → get_or (map (λ r. r.number) (edges_of l (nat_abs h.edges))) i 0 ≡ (edge_at l i).number
        at l = ap (λ (x : List ℕ). get_or x i 0) (edge_numbers_lem l (nat_abs h.edges))
            ∙ get_d_table (λ i. (edge_at l i).number) 0 (nat_abs h.edges) i 0 t
            ∙ ap (λ (k : ℕ). (edge_at l k).number) (zero-add i)

    pub healed_node_count : nat_abs h'.nodes ≡ nat_abs h.nodes
    healed_node_count = ap (λ (x : Head). nat_abs x.nodes) (sym after.head) ∙ ap length (sym healed_nodes)
        ∙ nodes_length nodes' (nat_abs h.nodes)

    pub healed_edge_count : nat_abs h'.edges ≡ nat_abs h.edges
    healed_edge_count = ap (λ (x : Head). nat_abs x.edges) (sym after.head) ∙ ap length (sym healed_edges_lem)
        ∙ edges_length edges' (nat_abs h.edges)

    -- the map that is lent after it
    pub healed_map_lem : map_of (lent nodes' edges' faces' h') ≡ merged_sides makes row (map_of (lent nodes edges faces h))
    unfolding map_of
    healed_map_lem =
        let m = merged_sides makes row (map_of (lent nodes edges faces h)) in
        let back = sym after.head in
        λ i.
        record {
          nodes = (ap (nodes_of nodes') healed_node_count ∙ healed_nodes) i;
          edges = (ap (edges_of edges') healed_edge_count ∙ healed_edges_lem) i;
          faces = (ap (λ (x : Head). faces_of faces' (nat_abs x.faces)) back
              ∙ faces_read (length faces) box m.faces after.face_cells) i;
          next = counts (nat_abs (back i).next_node) (nat_abs (back i).next_edge) (nat_abs (back i).next_face);
        }
