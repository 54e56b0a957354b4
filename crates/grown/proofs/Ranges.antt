-- A map whose rows are in range is in range in its tables; a good map that fits is in form there, and is read back from
-- them. Assumes nothing.
use mathlib.Core.Path.{◌≡◌, refl, ap, ◌∙◌}
use mathlib.Core.Bool.{true}
use mathlib.Core.List.{List, [], ◌∷◌, flat_map, Memᴰ}
use mathlib.Core.Option.{Option, none, some}
use Prim.Native.Nat.{ℕ, suc, ◌*◌, ◌/◌, ◌≤◌, ◌<◌}
use native.Mathlib.Nat.{mul-div_cancel}
use native.Mathlib.Omega.{arith}
use borrow.Author.Tests.{le-leb}
use lib.IntN.{ℤ, pos, negsuc, nat_abs}
use lib.ListN.{length}
use lib.Signed.{le_z}
use Rattle.lists.specs.Scans.{all_of, first_or}
use Rattle.lists.proofs.Bools.{and_is}
use Rattle.lists.proofs.Members.{all_of_lem}
use Rattle.tables.specs.Tables.{filled, within}
use Rattle.tables.proofs.Filled.{Wide, each_row, flat_rest, table-length, whole-table}
use Rattle.tables.proofs.Order.{same_self}
use Rattle.tables.proofs.Tests.{in_bounds, within-least, within-most}
use Rattle.plane.specs.Points.{InRange}
use Rattle.curves.specs.Curves.{points, max_points}
use Rattle.curves.proofs.Runs.{coordinate_of}
use Rattle.bounding_boxes.specs.declared.Extent.{Extent}
use Rattle.map.specs.Limits.{max_nodes, max_edges, max_faces, last_number, most_points, node_width, edge_width, face_width}
use Rattle.map.specs.Rows.{Node, Edge, Map, Sizes, node_cells, edge_cells, face_cells, face_cell, rectangle, lent_with}
use Rattle.map.specs.Rows.{lent_of, map_of, sizes_of, whole, node_rows, edge_rows, face_rows}
use Rattle.map.specs.Form.{node_ranges, edge_ranges_to, edge_ranges, face_ranges, ranged, formed, has_box, boxed, in_form}
use Rattle.map.specs.Form.{counts_fit, nexts_fit}
use Rattle.map.proofs.PointLimits.{limit_back, limit_record}
use Rattle.map.proofs.RoundTrip.{nodes_wide, edge-wide, faces_wide, Stored, points_ranged}
use Rattle.map.proofs.Laws.{formed-back}
use Rattle.map_laws.proofs.Faces.{zero_in}
use Rattle.grown.specs.Good.{Good, Fits}
use Rattle.grown.proofs.Numbers.Carried.{ranks}
use Rattle.grown.proofs.Curves.Apart.{curve_long}
use Rattle.grown.proofs.Forms.{good_formed}

-- ---- ranges of a row

face_low : (o : Option ℕ) → le_z (negsuc 0) (face_cell o) ≡ true
face_low none = refl
face_low (some f) = refl

node_ranges_lem : (n : Node) → InRange n.at → node_ranges (node_cells n) ≡ true
unfolding node_cells
node_ranges_lem n h = and_is (and_is (coordinate_of n.at.x h.x) (coordinate_of n.at.y h.y))
    (face_low n.face)

-- under a limit, and as a row can hold it
edge_ranges_to_lem : {k : ℕ} (e : Edge) → Stored e.curve → length (points e.curve) ≤ k
    → edge_ranges_to k (edge_cells e) ≡ true
unfolding edge_cells
edge_ranges_to_lem {k} e h few =
    let n = length (points e.curve) in
    let r = points_ranged e.curve h in
    and_is (and_is (and_is (le-leb 2 n h.least) (le-leb n k few)) r.0) r.1

pub edge_ranges_lem : (e : Edge) → Stored e.curve → edge_ranges (edge_cells e) ≡ true
edge_ranges_lem e h = edge_ranges_to_lem e h h.most

-- ---- a map whose rows are in range

-- a next number from 1 to 1,000,000
pub record NextInRange (n : ℕ) : Type 0 where
  pub least : 1 ≤ n
  pub most : n ≤ suc last_number

-- as it stands in a head
pub next_in_range_lem : (z : ℤ) → within 1 (suc last_number) z ≡ true → NextInRange (nat_abs z)
next_in_range_lem z h = record { least = within-least 1 (suc last_number) z h; most = within-most 1 (suc last_number) z h }

-- rows and next numbers in range, and no more rows than the tables hold
pub record Tabled (s : Sizes) (m : Map) : Type 0 where
  pub nodes : (n : Node) → Memᴰ n m.nodes → InRange n.at
  pub edges : (e : Edge) → Memᴰ e m.edges → Stored e.curve
  pub some_face : 1 ≤ length m.faces
  pub fits : Fits s m
  pub next_node : NextInRange m.next.nodes
  pub next_edge : NextInRange m.next.edges
  pub next_face : NextInRange m.next.faces

-- as many rows as were meant to be there
room : {A : Type 0} (w : ℕ) (cells : A → List ℤ) (n : ℕ) (xs : List A) → Wide w cells xs → 0 < w → length xs ≤ n
    → length (filled (n * w) (flat_map cells xs)) / w ≡ n
room w cells n xs wide above fits =
    ap (λ (k : ℕ). k / w) (table-length w cells n xs wide fits) ∙ mul-div_cancel n above

-- so the count of rows in use is in range
count_fits_lem : {A : Type 0} (w : ℕ) (cells : A → List ℤ) (n : ℕ) (xs : List A) → Wide w cells xs → 0 < w
    → (a : ℕ) → a ≤ length xs → length xs ≤ n
    → within a (length (filled (n * w) (flat_map cells xs)) / w) (pos (length xs)) ≡ true
count_fits_lem w cells n xs wide above a least most =
    ap (λ (k : ℕ). within a k (pos (length xs))) (room w cells n xs wide above most)
    ∙ in_bounds a n (length xs) least most

edges_wide : (m : Map) → ((e : Edge) → Memᴰ e m.edges → length (points e.curve) ≤ max_points)
    → Wide edge_width edge_cells m.edges
edges_wide m few = all_of_lem m.edges (λ e k. edge-wide e (few e k))

module _ (s : Sizes) (m : Map) (t : Tabled s m) where
  abbrev box : ℕ → Extent
  box = rectangle m.edges

  wide : Wide edge_width edge_cells m.edges
  wide = edges_wide m (λ e k. (t.edges e k).most)

  counts : counts_fit (lent_of s m) ≡ true
  unfolding lent_with
  counts =
      let f = t.fits in
      and_is
      (and_is
      (count_fits_lem node_width node_cells s.nodes m.nodes (nodes_wide m.nodes) (omega arith) 0 (omega arith)
      f.nodes)
      (count_fits_lem edge_width edge_cells s.edges m.edges wide (omega arith) 0 (omega arith) f.edges))
      (count_fits_lem face_width (face_cells box) s.faces m.faces (faces_wide box m.faces) (omega arith) 1
      t.some_face f.faces)

  nexts : nexts_fit (lent_of s m).head ≡ true
  unfolding lent_with
  nexts = and_is (fits t.next_node) (and_is (fits t.next_edge) (and_is (fits t.next_face) refl))
    where
      fits : {n : ℕ} → NextInRange n → within 1 (suc last_number) (pos n) ≡ true
      fits {n} r = in_bounds 1 (suc last_number) n r.least r.most

  node_row_ranges : all_of node_ranges (node_rows (lent_of s m)) ≡ true
  unfolding lent_with
  node_row_ranges = each_row node_width node_cells node_ranges m.nodes _ (nodes_wide m.nodes)
      (λ n k. node_ranges_lem n (t.nodes n k))

  -- the limit as the head has it
  limit_read : most_points (sizes_of (lent_of s m)).limit ≡ most_points s.limit
  unfolding lent_with
  limit_read = ap most_points (limit_back s.limit)

  edge_row_ranges : all_of (edge_ranges_to (most_points (sizes_of (lent_of s m)).limit)) (edge_rows (lent_of s m)) ≡ true
  unfolding lent_with
  edge_row_ranges =
      ap (λ (k : ℕ). all_of (edge_ranges_to k) (edge_rows (lent_of s m))) limit_read
      ∙ each_row edge_width edge_cells (edge_ranges_to (most_points s.limit)) m.edges _ wide
      (λ e k. edge_ranges_to_lem e (t.edges e k) (t.fits.short e k))

  face_row_ranges : all_of face_ranges (face_rows (lent_of s m)) ≡ true
  unfolding lent_with
  face_row_ranges = each_row face_width (face_cells box) face_ranges m.faces _ (faces_wide box m.faces) (λ f k. refl)

  pub tabled_ranged : ranged (lent_of s m) ≡ true
  unfolding ranged lent_with
  tabled_ranged =
      let head = and_is (and_is counts nexts) (limit_record s.limit) in
      and_is
      (and_is
      (and_is
      (and_is
      (and_is (and_is head (flat_rest node_width node_cells _ m.nodes (nodes_wide m.nodes)))
      (flat_rest edge_width edge_cells _ m.edges wide))
      (flat_rest face_width (face_cells box) _ m.faces (faces_wide box m.faces))) node_row_ranges) edge_row_ranges)
      face_row_ranges

-- the face rows have the rectangles that the edges give
pub tabled_boxed : (s : Sizes) (m : Map) → all_of (has_box (rectangle m.edges)) (face_rows (lent_of s m)) ≡ true
unfolding lent_with
tabled_boxed s m =
    let box = rectangle m.edges in
    each_row face_width (face_cells box) (has_box box) m.faces _ (faces_wide box m.faces)
    (λ f k. and_is (and_is (and_is (same_self (pos (box f).left)) (same_self (pos (box f).low)))
    (same_self (pos (box f).right))) (same_self (pos (box f).high)))

-- ---- a good map

-- where face 0 is the first there is a face
pub some_face : (fs : List ℕ) → first_or 1 fs ≡ 0 → 1 ≤ length fs
some_face [] e = absurd (omega arith)
some_face (f ∷ fs) e = omega arith

module _ (m : Map) (g : Good m) where
  abbrev given_box : ℕ → Extent
  given_box = rectangle m.edges

  few : (e : Edge) → Memᴰ e m.edges → length (points e.curve) ≤ max_points
  few e k = (g.surveyed.kept e k).most

  -- a good map is read back from its tables
  pub good_back : (s : Sizes) → map_of (lent_of s m) ≡ m
  good_back s = formed-back m (good_formed m g) s few

  module _ (s : Sizes) (f : Fits s m) where
    -- so are the sizes
    pub sizes_back : sizes_of (lent_of s m) ≡ s
    unfolding lent_with
    sizes_back = λ i.
        record {
          nodes = room node_width node_cells s.nodes m.nodes (nodes_wide m.nodes) (omega arith) f.nodes i;
          edges = room edge_width edge_cells s.edges m.edges (edges_wide m few) (omega arith) f.edges i;
          faces = room face_width (face_cells given_box) s.faces m.faces (faces_wide given_box m.faces)
              (omega arith) f.faces i;
          limit = limit_back s.limit i;
        }

    good_tabled : Tabled s m
    good_tabled =
        let n = g.numbered in
        let r = ranks m g in
        record {
          nodes = g.surveyed.nodes_in_range;
          edges = λ e k. record {
            least = curve_long m g.surveyed e k;
            most = few e k;
            in_range = (g.surveyed.kept e k).in_range;
          };
          some_face = some_face m.faces r.zero;
          fits = f;
          next_node = record { least = n.first_node; most = n.next_node };
          next_edge = record { least = n.first_edge; most = n.next_edge };
          next_face = record {
            least = omega (arith, (r.faces.bounds 0 (zero_in m.faces r.zero)).1);
            most = n.next_face;
          };
        }

    -- with the rectangles that its edges give
    good_boxed : boxed (lent_of s m) ≡ true
    unfolding boxed
    good_boxed =
        ap (λ (q : Map). all_of (has_box (rectangle q.edges)) (face_rows (lent_of s m))) (good_back s)
        ∙ tabled_boxed s m

    -- a good map in its tables is in form
    pub good_in_form : in_form (lent_of s m) ≡ true
    unfolding in_form
    good_in_form = and_is (and_is (tabled_ranged s m good_tabled) (ap formed (good_back s) ∙ good_formed m g))
        good_boxed

-- tables of these sizes are whole
pub good_whole : (m : Map) (g : Good m) (s : Sizes) (f : Fits s m) → 1 ≤ s.faces → s.nodes ≤ max_nodes
    → s.edges ≤ max_edges → s.faces ≤ max_faces → whole (lent_of s m) ≡ true
unfolding whole lent_with
good_whole m g s f h a b c =
    and_is
    (and_is
    (whole-table node_width 0 max_nodes s.nodes (lent_of s m).nodes (omega arith)
    (table-length node_width node_cells s.nodes m.nodes (nodes_wide m.nodes) f.nodes) (omega arith) a)
    (whole-table edge_width 0 max_edges s.edges (lent_of s m).edges (omega arith)
    (table-length edge_width edge_cells s.edges m.edges (edges_wide m (few m g)) f.edges) (omega arith) b))
    (whole-table face_width 1 max_faces s.faces (lent_of s m).faces (omega arith)
    (table-length face_width (face_cells (rectangle m.edges)) s.faces m.faces
    (faces_wide (rectangle m.edges) m.faces) f.faces) h c)
