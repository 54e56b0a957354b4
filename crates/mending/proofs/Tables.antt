-- The mended map in its tables: they are whole and in range as before, and nodes, faces and head are the same numbers.
-- Assumes nothing.
use mathlib.Core.Path.{◌≡◌, refl, sym, ap, ap₂, subst, ◌∙◌}
use mathlib.Core.Bool.{Bool, true, false, cond}
use mathlib.Core.List.Memᴰ
use mathlib.Core.List.{List, [], ◌∷◌, ◌++◌, map, flat_map, Memᴰ}
use Prim.Native.Nat.{ℕ, zero, suc, ◌*◌, ◌/◌, ◌≤◌}
use lib.IntN.{ℤ, pos}
use lib.ListN.{length, length-append, length-replicate, length-map}
use Rattle.lists.specs.Scans.{all_of, keep}
use Rattle.lists.proofs.Bools.{and_is}
use Rattle.lists.proofs.Maps.{all_mapped}
use Rattle.lists.proofs.Members.{all_of_lem}
use Rattle.plane.specs.declared.Point.{Point}
use Rattle.curves.specs.Curves.{points, max_points}
use Rattle.map.specs.Limits.{most_points, edge_width, face_width}
use Rattle.map.specs.Rows.{Edge, Map, Sizes, edge_rows, edge_cells, face_cells, borders, boundary, box_of, rectangle}
use Rattle.map.specs.Rows.{lent_with, lent_of, whole}
use Rattle.map.specs.Form.{edge_ranges_to, face_ranges, ranged}
use Rattle.tables.specs.Tables.{within, rest_zero, rows, filled}
use Rattle.map.proofs.RoundTrip.{edge-wide, ranged_is}
use Rattle.tables.proofs.Filled.{Wide, flat_length, rows_flat, flat_rest}
use Rattle.mending.specs.Mend.{mended}
use Rattle.mending.proofs.Mended.{relinked}

-- ---- rectangles, which look at no link

-- the boundary is that of the same curves
boundary_now : (m : Map) (f : ℕ) (es : List Edge) → boundary (map (relinked m) es) f ≡ boundary es f
unfolding flat_map
boundary_now m f [] = refl
boundary_now m f (e ∷ es) = go (borders f e) (boundary_now m f es)
  where
    drawn : List Edge → List Point
    drawn rs = flat_map (λ r. points r.curve) rs

    later : List Edge
    later = keep (borders f) (map (relinked m) es)

    go : (b : Bool) → drawn later ≡ drawn (keep (borders f) es)
        → drawn (cond b (relinked m e ∷ later) later) ≡ drawn (cond b (e ∷ keep (borders f) es) (keep (borders f) es))
    go true h = ap (λ (r : List Point). points e.curve ++ r) h
    go false h = h

pub rectangle_now : (m : Map) (f : ℕ) → rectangle (mended m).edges f ≡ rectangle m.edges f
unfolding rectangle mended
rectangle_now m zero = refl
rectangle_now m (suc f) = ap box_of (boundary_now m (suc f) m.edges)

-- ---- the tables

module _ (s : Sizes) (m : Map) where
  -- as many rows
  rows_now : length (mended m).edges ≡ length m.edges
  unfolding mended
  rows_now = length-map m.edges (relinked m)

  pub nodes_now : (lent_of s (mended m)).nodes ≡ (lent_of s m).nodes
  unfolding lent_with mended
  nodes_now = refl

  pub faces_now : (lent_of s (mended m)).faces ≡ (lent_of s m).faces
  unfolding lent_with mended
  faces_now = λ i.
      filled (s.faces * face_width) (flat_map (face_cells (λ f. rectangle_now m f i)) m.faces)

  pub head_now : (lent_of s (mended m)).head ≡ (lent_of s m).head
  unfolding lent_with mended
  head_now =
      ap (λ (n : ℕ). record {
        nodes = pos (length m.nodes);
        edges = pos n;
        faces = pos (length m.faces);
        next_node = pos m.next.nodes;
        next_edge = pos m.next.edges;
        next_face = pos m.next.faces;
        points = pos (most_points s.limit);
      }) rows_now

  -- curves that a row holds
  module _ (few : (e : Edge) → Memᴰ e m.edges → length (points e.curve) ≤ max_points) where
    pub few_now : (e : Edge) → Memᴰ e (mended m).edges → length (points e.curve) ≤ max_points
    unfolding mended
    few_now e k =
        let r = Memᴰ.of_map (relinked m) m.edges k in
        subst (λ (e : Edge). length (points e.curve) ≤ max_points) r.2 (few r.0 r.1)

    wide : Wide edge_width edge_cells m.edges
    wide = all_of_lem m.edges (λ e k. edge-wide e (few e k))

    wide_now : Wide edge_width edge_cells (mended m).edges
    wide_now = all_of_lem (mended m).edges (λ e k. edge-wide e (few_now e k))

    -- as many numbers
    pub size_now : length (lent_of s (mended m)).edges ≡ length (lent_of s m).edges
    unfolding lent_with
    size_now =
        let a = flat_length edge_width edge_cells m.edges wide in
        let b = flat_length edge_width edge_cells (mended m).edges wide_now in
        simp (length-append, length-replicate, a, b, rows_now)

    pub whole_now : whole (lent_of s m) ≡ true → whole (lent_of s (mended m)) ≡ true
    unfolding whole
    whole_now h = rw (nodes_now, size_now, faces_now) h

    rows-ranged : (most : ℕ) → all_of (edge_ranges_to most) (edge_rows (lent_of s m)) ≡ true
        → all_of (edge_ranges_to most) (edge_rows (lent_of s (mended m))) ≡ true
    unfolding lent_with edge_cells mended
    rows-ranged most h =
        ap (all_of (edge_ranges_to most)) (rows_flat edge_width edge_cells (mended m).edges _ wide_now)
        ∙ all_mapped (edge_ranges_to most) edge_cells (mended m).edges
        ∙ all_mapped (λ e. edge_ranges_to most (edge_cells e)) (relinked m) m.edges
        ∙ sym (all_mapped (edge_ranges_to most) edge_cells m.edges)
        ∙ ap (all_of (edge_ranges_to most)) (sym (rows_flat edge_width edge_cells m.edges _ wide))
        ∙ h

    pub ranged_now : ranged (lent_of s m) ≡ true → ranged (lent_of s (mended m)) ≡ true
    unfolding ranged lent_with mended
    ranged_now h =
        let k = ranged_is (lent_of s m) h in
        let edges = ap₂ (λ (a b : ℕ). within 0 (a / edge_width) (pos b)) size_now rows_now ∙ k.edges in
        let n = length m.faces in
        let faces = ap (λ (x : List ℤ). within 1 (length x / face_width) (pos n)) faces_now ∙ k.faces in
        let face_rest = ap (rest_zero face_width (pos n)) faces_now ∙ k.face_rest in
        let face_rows_lem = ap (λ (x : List ℤ). all_of face_ranges (rows face_width n x)) faces_now ∙ k.face_rows_lem in
        let counts = and_is (and_is k.nodes edges) faces in
        let nexts = and_is k.next_node (and_is k.next_edge (and_is k.next_face refl)) in
        let rest = flat_rest edge_width edge_cells _ (mended m).edges wide_now in
        let heads = and_is (and_is counts nexts) k.recorded in
        let rests = and_is (and_is (and_is heads k.node_rest) rest) face_rest in
        and_is (and_is (and_is rests k.node_rows_lem) (rows-ranged _ k.few_points)) face_rows_lem
