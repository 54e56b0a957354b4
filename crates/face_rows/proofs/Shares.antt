-- A face shared out: what the sweeps leave in the tables is what the map's definition does to its rows. Assumes
-- nothing.
use mathlib.Core.Path.{◌≡◌, refl, sym, ap, ◌∙◌, subst}
use mathlib.Core.Bool.{Bool, true, false, cond, ◌&&◌}
use mathlib.Core.Logic.{inl, inr}
use mathlib.Core.List.{List, [], ◌∷◌, ◌++◌, map, flat_map}
use mathlib.Core.Option
use mathlib.Core.Option.{Option, none, some}
use Prim.Native.Nat.{ℕ, suc, ◌+◌, ◌*◌, ◌-◌, ◌<◌}
use native.Mathlib.Omega.{arith}
use lib.Dec.{lit<}
use lib.IntN.{ℤ, pos, negsuc, nat_abs}
use lib.ListN.{length, get_or, set, replicate, length-set}
use lib.Signed.{le_z, pos-nat_abs}
use Rattle.lists.specs.Tests.{same}
use Rattle.lists.specs.Scans.{all_of, find, is_some}
use Rattle.lists.specs.Tables.{sweep}
use Rattle.lists.proofs.Bools.{which}
use Rattle.lists.proofs.Lookups.{has_map}
use Rattle.planar_maps.specs.Map.{Dart, fwd, bwd, rev}
use Rattle.tables.specs.Tables.{same_z, rows, filled, numbered}
use Rattle.tables.proofs.Rows.{map-table}
use Rattle.tables.proofs.Writes.{set_mid}
use Rattle.tables.proofs.Filled.{rows_flat, filled_long}
use Rattle.tables.proofs.Order.{same-pos}
use Rattle.plane.specs.declared.Point.{Point}
use Rattle.plane.specs.Points.{origin}
use Rattle.curves.specs.Curves.{coordinate}
use Rattle.curves.proofs.Runs.{and_left, and_right}
use Rattle.map.specs.Limits.{node_width, edge_width, last_number}
use Rattle.map.specs.Rows.{Node, Edge, Map, node_cells, edge_cells, face_cell, node_of, node, edge, has_node, counts}
use Rattle.map.specs.Darts.{next, bears, course, ring, among, lowest_edge}
use Rattle.map.specs.Faces.{encloses}
use Rattle.map.specs.Form.{node_ranges}
use Rattle.map.specs.Edits.{Shares, side_of_point, side_of_ring, side_of_dart, side_of_node, with_face, with_sides, shared_out}
use Rattle.map.proofs.RoundTrip.{node-back, nodes_wide, edge-wide}
use Rattle.map_laws.proofs.Faces.{side_number}
use Rattle.map_laws.proofs.Rings.{ring-same}
use Rattle.map_rows.specs.Rows.{NodeRows, node_at, edge_at, nodes_of, edges_of, node_map}
use Rattle.map_rows.proofs.Rows.{nodes_table, edges_table, nodes_length, edge_row_lem}
use Rattle.map_rows.proofs.RowCurves.{edge_few}
use Rattle.darts.specs.Positions.{dart_at, reverse_of, side_place}
use Rattle.darts.proofs.Positions.{dart_even, dart_odd, dart_reverse}
use Rattle.face_relabel.specs.declared.Sides.{Sides}
use Rattle.face_relabel.specs.Sharing.{ShareableFace, shares_of, node_shared, edge_shared}
use Rattle.face_rows.specs.Holds.{shares_in}
use Rattle.face_rows.proofs.Renames.{sides_wide}
use Rattle.face_rows.proofs.Sweeps.{cell_mid, swept_rows, both, sweep_pairs}

-- ---- rings and sides depend on nodes and edges alone

abbrev map_with : List Node → List Edge → List ℕ → ℕ → ℕ → ℕ → Map
map_with ns es fs a b c = record { nodes = ns; edges = es; faces = fs; next = counts a b c }

module _ (es : List Edge) (ns ns' : List Node) (fs fs' : List ℕ) (a b c a' b' c' : ℕ) where
  pub ring_any : (d : Dart) → ring (map_with ns es fs a b c) d ≡ ring (map_with ns' es fs' a' b' c') d
  unfolding next edge
  ring_any = ring-same (map_with ns es fs a b c) (map_with ns' es fs' a' b' c') (λ d. refl) refl

  module _ (old ref other : ℕ) (r r' o o' : List Dart) (er : r ≡ r') where
    pub point_any : (p : Point)
        → side_of_point (map_with ns es fs a b c)
        (record { old = old; ref_ring = r; other_ring = o; ref = ref; other = other }) p
        ≡ side_of_point (map_with ns' es fs' a' b' c')
        (record { old = old; ref_ring = r'; other_ring = o'; ref = ref; other = other }) p
    unfolding side_of_point encloses course edge
    point_any p = ap (λ (x : List Dart). cond (encloses (map_with ns es fs a b c) x p) ref other) er

    node_any : (x : Node) (q : Option ℕ)
        → side_of_node (map_with ns es fs a b c)
        (record { old = old; ref_ring = r; other_ring = o; ref = ref; other = other }) x q
        ≡ side_of_node (map_with ns' es fs' a' b' c')
        (record { old = old; ref_ring = r'; other_ring = o'; ref = ref; other = other }) x q
    node_any x none = refl
    node_any x (some f) = ap (λ (k : ℕ). cond (same f old) (with_face (some k) x) x) (point_any x.at)

    module _ (eo : o ≡ o') (at : (k : ℕ) → (node (map_with ns es fs a b c) k).at
        ≡ (node (map_with ns' es fs' a' b' c') k).at) where
      dart_any : (d : Dart)
          → side_of_dart (map_with ns es fs a b c)
          (record { old = old; ref_ring = r; other_ring = o; ref = ref; other = other }) d
          ≡ side_of_dart (map_with ns' es fs' a' b' c')
          (record { old = old; ref_ring = r'; other_ring = o'; ref = ref; other = other }) d
      unfolding side_of_dart side_of_ring side_of_point encloses course bears edge
      dart_any d =
          let M = map_with ns es fs a b c in
          let side : List Dart → List Dart → List Dart → (ℕ → Point) → ℕ = λ r o w pt.
          cond (same (bears M d) old) (cond (among r d) ref
          (cond (among o d) other (cond (encloses M r (pt (edge M (lowest_edge d.edge w)).start)) ref other)))
          (bears M d) in
          λ i. side (er i) (eo i) (ring_any d i) (λ k. at k i)

-- ---- the node rows

-- the step of row i
node_step : (K : Map) (S : Shares) (old : ℤ) → old ≡ pos S.old → (p rest : List ℤ) (a : ℕ) (x : Node) → length p
    ≡ a * node_width
    → cond (same_z (get_or (p ++ (node_cells x ++ rest)) (a * node_width + 3) (pos 0)) old)
    (set (p ++ (node_cells x ++ rest)) (a * node_width + 3) (pos (side_of_point K S x.at))) (p ++ (node_cells x ++ rest))
    ≡ p ++ (node_cells (side_of_node K S x x.face) ++ rest)
unfolding node_cells
node_step K S old eo p rest a x e = go x.face refl
  where
    t : List ℤ
    t = p ++ (node_cells x ++ rest)

    v : ℤ
    v = pos (side_of_point K S x.at)

    here : get_or t (a * node_width + 3) (pos 0) ≡ face_cell x.face
    here = cell_mid p (node_cells x) rest (a * node_width) 3 e (lit< tt)

    stores : set t (a * node_width + 3) v ≡ p ++ (set (node_cells x) 3 v ++ rest)
    stores = set_mid p (node_cells x) rest (a * node_width) 3 v e (lit< tt)

    test : (q : Option ℕ) → x.face ≡ q → same_z (get_or t (a * node_width + 3) (pos 0)) old
        ≡ same_z (face_cell q) (pos S.old)
    test q eq = λ i. same_z ((here ∙ ap face_cell eq) i) (eo i)

    pick : (b : Bool) → cond b (set t (a * node_width + 3) v) t ≡ p
        ++ (node_cells (cond b (with_face (some (side_of_point K S x.at)) x) x) ++ rest)
    pick true = stores
    pick false = refl

    go : (q : Option ℕ) → x.face ≡ q → cond (same_z (get_or t (a * node_width + 3) (pos 0)) old)
        (set t (a * node_width + 3) v) t ≡ p ++ (node_cells (side_of_node K S x q) ++ rest)
    go none eq = ap (λ (b : Bool). cond b (set t (a * node_width + 3) v) t) (test none eq)
    go (some f) eq = ap (λ (b : Bool). cond b (set t (a * node_width + 3) v) t) (test (some f) eq ∙ same-pos f S.old)
        ∙ pick (same f S.old)

-- the point is kept
side_at : (K : Map) (S : Shares) (x : Node) (q : Option ℕ) → (side_of_node K S x q).at ≡ x.at
side_at K S x none = refl
side_at K S x (some f) = go (same f S.old)
  where
    go : (b : Bool) → (cond b (with_face (some (side_of_point K S x.at)) x) x).at ≡ x.at
    go true = refl
    go false = refl

node_wide : (x : Node) → length (node_cells x) ≡ node_width
unfolding node_cells
node_wide x = refl

-- ---- nodes of which the faces alone are changed

nodes_back : (xs : List Node) → map node_of (map node_cells xs) ≡ xs
nodes_back [] = refl
nodes_back (x ∷ xs) = λ i. node-back x i ∷ nodes_back xs i

in_range : (x y : Node) → y.at ≡ x.at → node_ranges (node_cells x) ≡ true → node_ranges (node_cells y) ≡ true
unfolding node_cells
in_range x y e h =
    let inner = and_left (coordinate (pos x.at.x) && coordinate (pos x.at.y))
    (le_z (negsuc 0) (face_cell x.face)) h in
    ap (λ (p : Point). coordinate (pos p.x) && coordinate (pos p.y) && le_z (negsuc 0) (face_cell y.face)) e
    ∙ ap (λ (b : Bool). b && le_z (negsuc 0) (face_cell y.face)) inner ∙ face y.face
  where
    face : (q : Option ℕ) → le_z (negsuc 0) (face_cell q) ≡ true
    face none = refl
    face (some f) = refl

module _ (F : Node → Node) (number : (x : Node) → (F x).number ≡ x.number) (at : (x : Node) → (F x).at ≡ x.at) where
  ranges_map : (xs : List Node) → all_of node_ranges (map node_cells xs) ≡ true
      → all_of node_ranges (map node_cells (map F xs)) ≡ true
  ranges_map [] h = refl
  ranges_map (x ∷ xs) h =
      let first = in_range x (F x) (at x)
      (and_left (node_ranges (node_cells x)) (all_of node_ranges (map node_cells xs)) h) in
      let later = ranges_map xs (and_right (node_ranges (node_cells x)) (all_of node_ranges (map node_cells xs)) h) in
      rw first later

  numbers-map : (xs : List Node) → map (λ r. r.number) (map F xs) ≡ map (λ r. r.number) xs
  numbers-map [] = refl
  numbers-map (x ∷ xs) = λ i. number x i ∷ numbers-map xs i

  size_map : (xs : List Node) → length (map F xs) ≡ length xs
  size_map [] = refl
  size_map (x ∷ xs) = ap suc (size_map xs)

  abbrev spare : Node
  spare = record { number = 0; at = origin; face = none }

  find_at : (k : ℕ) (xs : List Node) → (Option.get_or (find (λ r. same r.number k) (map F xs)) spare).at
      ≡ (Option.get_or (find (λ r. same r.number k) xs) spare).at
  find_at k [] = refl
  find_at k (x ∷ xs) = let later = find_at k xs in
      elim (which (same x.number k)) [ inl e ↦ rw (number x, e) (at x) | inr e ↦ rw (number x, e) later ]

  module _ {l l' : List ℤ} {n : ℕ} (rows_are : NodeRows l n)
      (cells : filled (length l) (flat_map node_cells (nodes_of l n)) ≡ l)
      (after : filled (length l) (flat_map node_cells (map F (nodes_of l n))) ≡ l') where
    rows_before : rows node_width n l ≡ map node_cells (nodes_of l n)
    rows_before =
        ap (rows node_width n) (sym cells)
        ∙ ap (λ (k : ℕ). rows node_width k (filled (length l) (flat_map node_cells (nodes_of l n))))
        (sym (nodes_length l n))
        ∙ rows_flat node_width node_cells (nodes_of l n)
        (replicate (length l - length (flat_map node_cells (nodes_of l n))) (pos 0)) (nodes_wide (nodes_of l n))

    rows-after : rows node_width n l' ≡ map node_cells (map F (nodes_of l n))
    rows-after =
        ap (rows node_width n) (sym after)
        ∙ ap (λ (k : ℕ). rows node_width k (filled (length l) (flat_map node_cells (map F (nodes_of l n)))))
        (sym (size_map (nodes_of l n) ∙ nodes_length l n))
        ∙ rows_flat node_width node_cells (map F (nodes_of l n))
        (replicate (length l - length (flat_map node_cells (map F (nodes_of l n)))) (pos 0))
        (nodes_wide (map F (nodes_of l n)))

    pub nodes_after : nodes_of l' n ≡ map F (nodes_of l n)
    nodes_after = ap (map node_of) rows-after ∙ nodes_back (map F (nodes_of l n))

    pub long_after : length l' ≡ length l
    long_after = filled_long node_width node_cells (length l) (map F (nodes_of l n)) n (nodes_wide (map F (nodes_of l n)))
        (size_map (nodes_of l n) ∙ nodes_length l n) after rows_are.fits

    pub node_rows-after : NodeRows l' n
    node_rows-after =
        record {
          fits = rw long_after rows_are.fits;
          ranges = ap (all_of node_ranges) rows-after
              ∙ ranges_map (nodes_of l n) (ap (all_of node_ranges) (sym rows_before) ∙ rows_are.ranges);
          rising = ap (λ (xs : List Node). numbered 1 (suc last_number) (map (λ r. r.number) xs)) nodes_after
              ∙ ap (numbered 1 (suc last_number)) (numbers-map (nodes_of l n)) ∙ rows_are.rising;
        }

    pub has_after : (k : ℕ) → has_node (node_map l' n) k ≡ has_node (node_map l n) k
    has_after k = ap (λ (xs : List Node). is_some (find (λ r. same r.number k) xs)) nodes_after
        ∙ has_map (λ (r : Node). r.number) F (nodes_of l n) k (λ r i. number r)

    pub at_after : (k : ℕ) → (Option.get_or (find (λ r. same r.number k) (nodes_of l' n)) spare).at
        ≡ (Option.get_or (find (λ r. same r.number k) (nodes_of l n)) spare).at
    at_after k = ap (λ (xs : List Node). (Option.get_or (find (λ r. same r.number k) xs) spare).at) nodes_after
        ∙ find_at k (nodes_of l n)

-- ---- the edge rows

edge_step : (p rest : List ℤ) (a u v : ℕ) (x : Edge) → length p ≡ a * edge_width → length (edge_cells x) ≡ edge_width
    → set (set (p ++ (edge_cells x ++ rest)) (a * edge_width + 5) (pos u)) (a * edge_width + 6) (pos v) ≡ p
    ++ (edge_cells (with_sides u v x) ++ rest)
unfolding edge_cells
edge_step p rest a u v x e w =
    ap (λ (l : List ℤ). set l (a * edge_width + 6) (pos v))
    (set_mid p (edge_cells x) rest (a * edge_width) 5 (pos u) e (omega arith))
    ∙ set_mid p (set (edge_cells x) 5 (pos u)) rest (a * edge_width) 6 (pos v) e
    (rw (length-set (edge_cells x) 5 (pos u)) (omega arith))

-- ---- what the sweeps leave

module _ (nodes : List ℤ) (n : ℕ) (edges : List ℤ) (e : ℕ) (s : Sides) (h : ShareableFace nodes n edges e s)
    (cells : filled (length nodes) (flat_map node_cells (nodes_of nodes n)) ≡ nodes) where
  abbrev turned : Node → Node
  turned x = side_of_node (map_with (nodes_of nodes n) (edges_of edges e) [] 0 0 0) (shares_of nodes n edges e s s.ring) x
      x.face

  nodes_swept : sweep (node_shared nodes n edges e s) nodes 0 n
      ≡ filled (length nodes) (flat_map node_cells (map turned (nodes_of nodes n)))
  nodes_swept =
      let K = map_with (nodes_of nodes n) (edges_of edges e) [] 0 0 0 in
      let S = shares_of nodes n edges e s s.ring in
      let old : s.old ≡ pos S.old = sym (pos-nat_abs s.old h.old) in
      ap (λ (l : List ℤ). sweep (node_shared nodes n edges e s) l 0 n)
      (sym (ap (λ (ns : List Node). filled (length nodes) (flat_map node_cells ns)) (sym (nodes_table nodes n)) ∙ cells))
      ∙ swept_rows node_width node_cells (node_shared nodes n edges e s) (node_at nodes) (λ i. turned (node_at nodes i)) n
      (λ p rest a t k. node_step K S s.old old p rest a (node_at nodes a) k) (λ a t. node_wide (node_at nodes a))
      (λ a t. node_wide (turned (node_at nodes a))) (length nodes)
      ∙ ap (λ (ns : List Node). filled (length nodes) (flat_map node_cells ns))
      (sym (map-table turned (node_at nodes) 0 n) ∙ ap (map turned) (sym (nodes_table nodes n)))

  module _ (nodes' : List ℤ) (is : nodes' ≡ sweep (node_shared nodes n edges e s) nodes 0 n) where
    after : filled (length nodes) (flat_map node_cells (map turned (nodes_of nodes n))) ≡ nodes'
    after = sym (is ∙ nodes_swept)

    turned-number : (x : Node) → (turned x).number ≡ x.number
    turned-number x = side_number (map_with (nodes_of nodes n) (edges_of edges e) [] 0 0 0)
        (shares_of nodes n edges e s s.ring) x x.face

    turned_at : (x : Node) → (turned x).at ≡ x.at
    turned_at x = side_at (map_with (nodes_of nodes n) (edges_of edges e) [] 0 0 0)
        (shares_of nodes n edges e s s.ring) x x.face

    -- the same is asked of the tables with the nodes shared out
    pub shared_after : ShareableFace nodes' n edges e s
    shared_after =
        record {
          nodes = node_rows-after turned turned-number turned_at h.nodes cells after;
          edges = h.edges;
          few = h.few;
          ring = h.ring;
          old = h.old;
          inside = h.inside;
          other = h.other;
          ends = (λ i. all_of (λ r. has_after turned turned-number turned_at h.nodes cells after r.start i
              && has_after turned turned-number turned_at h.nodes cells after r.end i) (edges_of edges e))
              ∙ h.ends;
        }

    module _ (fs : List ℕ) (a b c : ℕ) where
      abbrev whole : Map
      whole = map_with (nodes_of nodes n) (edges_of edges e) fs a b c

      pub nodes_are : filled (length nodes)
          (flat_map node_cells (shared_out (shares_in whole (dart_at edges s.ring) s) whole).nodes) ≡ nodes'
      unfolding shared_out
      nodes_are =
          let d = dart_at edges s.ring in
          let es = edges_of edges e in
          let ns = nodes_of nodes n in
          let K = map_with ns es [] 0 0 0 in
          ap (λ (xs : List Node). filled (length nodes) (flat_map node_cells xs))
          (λ i. map (λ x. sym (node_any es ns ns [] fs 0 0 0 a b c (nat_abs s.old) (nat_abs s.inside)
          (nat_abs s.other) (ring K d) (ring whole d) (ring K d) (ring whole (rev d))
          (ring_any es ns ns [] fs 0 0 0 a b c d) x x.face) i) ns)
          ∙ after

      -- the side of a directed edge, by the nodes shared out
      abbrev side_after : Dart → ℕ
      side_after d = side_of_dart (map_with (nodes_of nodes' n) (edges_of edges e) [] 0 0 0)
          (shares_of nodes' n edges e s (reverse_of s.ring)) d

      side_is : (x : Dart) → side_after x ≡ side_of_dart whole (shares_in whole (dart_at edges s.ring) s) x
      unfolding node
      side_is x =
          let d = dart_at edges s.ring in
          let es = edges_of edges e in
          let K = map_with (nodes_of nodes' n) es [] 0 0 0 in
          dart_any es (nodes_of nodes' n) (nodes_of nodes n) [] fs 0 0 0 a b c (nat_abs s.old) (nat_abs s.inside)
          (nat_abs s.other) (ring K d) (ring whole d) (ring K (dart_at edges (reverse_of s.ring)))
          (ring whole (rev d))
          (ring_any es (nodes_of nodes' n) (nodes_of nodes n) [] fs 0 0 0 a b c d)
          (ap (ring K) (dart_reverse edges s.ring)
          ∙ ring_any es (nodes_of nodes' n) (nodes_of nodes n) [] fs 0 0 0 a b c (rev d))
          (at_after turned turned-number turned_at h.nodes cells after)
          x

      abbrev turned_edge : Edge → Edge
      turned_edge x = with_sides (side_after (fwd x.number)) (side_after (bwd x.number)) x

      wide : (j : ℕ) → j < e → length (edge_cells (edge_at edges j)) ≡ edge_width
      wide j t = edge-wide (edge_at edges j) (edge_few (edge_row_lem edges e j h.edges.fits h.edges.ranges t))

      pair_step : (p rest : List ℤ) (i : ℕ) → i < e → length p ≡ i * edge_width
          → both (edge_shared nodes' n edges e s (reverse_of s.ring)) (p ++ (edge_cells (edge_at edges i) ++ rest)) i
          ≡ p ++ (edge_cells (turned_edge (edge_at edges i)) ++ rest)
      pair_step p rest i t k =
          let l = p ++ (edge_cells (edge_at edges i) ++ rest) in
          let here : side_place (i * 2) 5 ≡ i * edge_width + 5 = omega arith in
          let there : side_place (i * 2 + 1) 5 ≡ i * edge_width + 6 = omega arith in
          (λ j. set (set l (here j) (pos (side_after (dart_even edges i j)))) (there j)
          (pos (side_after (dart_odd edges i j))))
          ∙ edge_step p rest i (side_after (fwd (edge_at edges i).number)) (side_after (bwd (edge_at edges i).number))
          (edge_at edges i) k (wide i t)

      pub edges_are : (edges' : List ℤ) → filled (length edges) (flat_map edge_cells (edges_of edges e)) ≡ edges → edges'
          ≡ sweep (edge_shared nodes' n edges e s (reverse_of s.ring)) edges 0 (e * 2)
          → filled (length edges) (flat_map edge_cells
          (shared_out (shares_in whole (dart_at edges s.ring) s) whole).edges) ≡ edges'
      unfolding shared_out
      edges_are edges' full eq =
          let g = edge_shared nodes' n edges e s (reverse_of s.ring) in
          ap (λ (xs : List Edge). filled (length edges) (flat_map edge_cells xs))
          ((λ i. map (λ x. with_sides (sym (side_is (fwd x.number)) i) (sym (side_is (bwd x.number)) i) x)
          (edges_of edges e))
          ∙ ap (map turned_edge) (edges_table edges e) ∙ map-table turned_edge (edge_at edges) 0 e)
          ∙ sym (swept_rows edge_width edge_cells (both g) (edge_at edges)
          (λ i. turned_edge (edge_at edges i)) e pair_step wide
          (λ j t. sides_wide (side_after (fwd (edge_at edges j).number)) (side_after (bwd (edge_at edges j).number))
          (edge_at edges j) ∙ wide j t) (length edges))
          ∙ ap (λ (l : List ℤ). sweep (both g) l 0 e)
          (ap (λ (xs : List Edge). filled (length edges) (flat_map edge_cells xs)) (sym (edges_table edges e)) ∙ full)
          ∙ sym (sweep_pairs g e edges)
          ∙ sym eq

-- ---- any map that has these rows

module _ (nodes : List ℤ) (n : ℕ) (edges : List ℤ) (e : ℕ) (s : Sides) (h : ShareableFace nodes n edges e s)
    (cells : filled (length nodes) (flat_map node_cells (nodes_of nodes n)) ≡ nodes)
    (full : filled (length edges) (flat_map edge_cells (edges_of edges e)) ≡ edges)
    (nodes' edges' : List ℤ) (is : nodes' ≡ sweep (node_shared nodes n edges e s) nodes 0 n)
    (eq : edges' ≡ sweep (edge_shared nodes' n edges e s (reverse_of s.ring)) edges 0 (e * 2))
    (m : Map) (en : m.nodes ≡ nodes_of nodes n) (ee : m.edges ≡ edges_of edges e) where
  whole_is : map_with (nodes_of nodes n) (edges_of edges e) m.faces m.next.nodes m.next.edges m.next.faces
      ≡ m
  whole_is = λ i. map_with (sym en i) (sym ee i) m.faces m.next.nodes m.next.edges m.next.faces

  pub shared_nodes_lem : filled (length nodes)
      (flat_map node_cells (shared_out (shares_in m (dart_at edges s.ring) s) m).nodes) ≡ nodes'
  shared_nodes_lem = subst (λ (k : Map). filled (length nodes)
      (flat_map node_cells (shared_out (shares_in k (dart_at edges s.ring) s) k).nodes) ≡ nodes') whole_is
      (nodes_are nodes n edges e s h cells nodes' is m.faces m.next.nodes m.next.edges m.next.faces)

  pub shared_edges : filled (length edges)
      (flat_map edge_cells (shared_out (shares_in m (dart_at edges s.ring) s) m).edges) ≡ edges'
  shared_edges = subst (λ (k : Map). filled (length edges)
      (flat_map edge_cells (shared_out (shares_in k (dart_at edges s.ring) s) k).edges) ≡ edges') whole_is
      (edges_are nodes n edges e s h cells nodes' is m.faces m.next.nodes m.next.edges
      m.next.faces edges' full eq)
