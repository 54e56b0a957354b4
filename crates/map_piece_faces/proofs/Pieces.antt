-- On tables in form the matrix by rows, labels and rows named has for each face of the map the pieces in it and for
-- each piece the faces it is in, by rows. Assumes nothing.
use Rattle.std.specs.Prelude.{Some, None}
use mathlib.Core.Path.{◌≡◌, refl, sym, ap, ap₂, ◌∙◌, subst}
use mathlib.Core.Logic.{◌⊎◌, inl, inr}
use mathlib.Core.Bool.{Bool, true, false, not, beq, ◌&&◌, ◌||◌, true≢false, false≢true}
use mathlib.Core.List.Memᴰ
use mathlib.Core.List.{List, map, Memᴰ}
use Prim.Native.Nat.{ℕ, ◌+◌, ◌*◌, ◌/◌, ◌%◌, ◌<◌, ◌≤◌}
use native.Mathlib.Omega.{arith}
use lib.IntN.{ℤ, pos, negsuc, nat_abs}
use lib.ListN.{get_or, get_or-eq_default}
use Rattle.lists.specs.Tests.{same}
use Rattle.lists.specs.Scans.{any_of, keep, count_of, is_some}
use Rattle.lists.specs.Tables.{table, place}
use Rattle.lists.proofs.Bools.{agree, beq_true, same_true, same_eq, same_false, same_sym, not-true, or-true, and-true}
use Rattle.lists.proofs.Bools.{and_is, and_right}
use Rattle.lists.proofs.Counts.{count_cong, count_map}
use Rattle.lists.proofs.Keeps.{keep_in, keep_has, keep-both}
use Rattle.lists.proofs.Members.{all_each, any_some, no_member}
use Rattle.lists.proofs.Scans.{table_has}
use Rattle.planar_maps.specs.Map.{Dart, fwd, bwd}
use Rattle.planar_maps.specs.Pieces.{Isolated, pieces}
use Rattle.planar_maps.proofs.Cycles.{fwd_in, bwd_in}
use Rattle.planar_maps.proofs.Chains.{label_chain, label_idem, isolated_chain}
use Rattle.tables.specs.Tables.{same_z, column}
use Rattle.tables.proofs.Order.{lt_or_ge}
use Rattle.tables.proofs.Rows.{rows_all, map-table}
use Rattle.tables.proofs.Lookups.{which_place, place_negative}
use Rattle.map.specs.declared.Head.{Head}
use Rattle.map.specs.Limits.{node_width, face_width}
use Rattle.map.specs.Rows.{Node, Map, map_of, lent, edge, face_of}
use Rattle.map.specs.Darts.{arcs, directed, leaves, bears, departures, edge_ends, piece_of, piece_count}
use Rattle.map.specs.Form.{bare_marked, formed, face_ranges}
use Rattle.map.proofs.Laws.{formed_is}
use Rattle.map.proofs.Linked.{linked}
use Rattle.map_rows.specs.Rows.{node_at, face_at, nodes_of}
use Rattle.map_rows.proofs.Rows.{nodes_table, faces_table, node_numbers_lem, NodeCells, node_cells_lem, face_cell_lem, node-row_of}
use Rattle.map_rows.proofs.Rows.{node_rows_rising, face_rows_rising}
use Rattle.map_rows.proofs.Lookups.{face_found}
use Rattle.head.specs.Heads.{counts_of}
use Rattle.darts.specs.Positions.{dart_at}
use Rattle.darts.proofs.Positions.{directed-table, cell-leaves, cell-bears}
use Rattle.form_ranges.specs.Ranges.{map_in}
use Rattle.form_ranges.proofs.Parts.{map_is}
use Rattle.form.proofs.Parts.{in_form_known}
use Rattle.outcomes.specs.Outcomes.{Formed}
use Rattle.outcomes.proofs.Formed.{counted, node_rows_lem, edge_rows_lem, face_rows_lem}
use Rattle.piece_faces.specs.Bits.{span, words, bit_at, vertex_of, related, Closed}
use Rattle.piece_faces.proofs.Words.{bit_of, bit_none}
use Rattle.nesting.specs.Contents.{piece_rows, is_it, is_in, listed_under}
use Rattle.nesting.specs.Claims.{Part}
use Rattle.map_piece_faces.specs.InFaces.{dart_relates, is_found, node_relates, is_root, Related, number_of, is_piece}
use Rattle.map_piece_faces.specs.InFaces.{row_parts, InFaces}
use Rattle.map_piece_faces.proofs.RowScans.{any_rows, kept_rows, below_rows, row_found_lem, same_rows}

-- ---- a node that has a face is a piece by itself

module _ (m : Map) (h : formed m ≡ true) {r : Node} (k : Memᴰ r m.nodes) (e : is_some r.face ≡ true) where
  no_departure : (d : Dart) → Memᴰ d (directed m) → leaves m d ≡ r.number → ⊥
  unfolding bare_marked departures
  no_departure d j q =
      let marked = beq_true (is_some r.face) (same (edge_ends m r.number) 0)
      (all_each (λ n. beq (is_some n.face) (same (edge_ends m n.number) 0)) m.nodes
      (formed_is m h).bare r k) in
      no_member (departures m r.number) (same_true (edge_ends m r.number) 0 (sym marked ∙ e))
      (keep_has (λ c. same (leaves m c) r.number) (directed m) j (same_eq (leaves m d) r.number q))

  lone : Isolated r.number (arcs m)
  lone = record {
    starts = λ a j q. no_departure (fwd a.num) (fwd_in j) ((linked m h).starts a j ∙ q);
    ends = λ a j q. no_departure (bwd a.num) (bwd_in j) ((linked m h).ends a j ∙ q);
  }

  lone_piece : piece_of m r.number ≡ r.number
  lone_piece = isolated_chain lone (label_chain (arcs m) r.number)

-- ---- faces and pieces by rows

module _ (m : Map) (nodes : List ℤ) (n k : ℕ) where
  face_part : (x : ℕ) → x < k → Memᴰ (false, x) (row_parts m nodes n k)
  face_part x t =
      Memᴰ.append_left _ (Memᴰ.map (λ (y : ℕ). (false, y)) (table_has (λ i. i) 0 k x (omega arith) (omega arith)))

  piece_part : (x : ℕ) → x < n → is_piece m nodes x ≡ true → Memᴰ (true, x) (row_parts m nodes n k)
  piece_part x t e = Memᴰ.append_right (map (λ y. (false, y)) (table (λ i. i) 0 k)) (Memᴰ.map (λ (y : ℕ). (true, y))
      (keep_has (is_piece m nodes) (table (λ i. i) 0 n) (table_has (λ i. i) 0 n x (omega arith) (omega arith)) e))

  -- a part is a row in use
  abbrev rows_of : Bool → ℕ
  rows_of false = k
  rows_of true = n

  part_below : (b : Bool) (x : ℕ) → Memᴰ (b, x) (row_parts m nodes n k) → x < rows_of b
  part_below b x j = elim (Memᴰ.append_cases (map (λ y. (false, y)) (table (λ i. i) 0 k)) j) [
    | inl q ↦ let r = Memᴰ.of_map (λ (y : ℕ). (false, y)) (table (λ i. i) 0 k) q in
        subst (λ (z : Part). z.1 < rows_of z.0) r.2 (below_rows k r.0 r.1)
    | inr q ↦ let r = Memᴰ.of_map (λ (y : ℕ). (true, y)) (keep (is_piece m nodes) (table (λ i. i) 0 n)) q in
        subst (λ (z : Part). z.1 < rows_of z.0) r.2
        (below_rows n r.0 (keep_in (is_piece m nodes) (table (λ i. i) 0 n) r.1).0)
  ]

-- ---- tables in form

module _ {nodes edges faces : List ℤ} {h : Head} (f : Formed nodes edges faces h) where
  -- so many nodes, edges and faces; the map; the number of a node row
  abbrev n : ℕ
  n = nat_abs h.nodes

  abbrev e : ℕ
  e = nat_abs h.edges

  abbrev k : ℕ
  k = nat_abs h.faces

  abbrev m : Map
  m = map_in nodes edges faces (counts_of h) h

  abbrev num : ℕ → ℕ
  num i = (node_at nodes i).number

  in_form : formed m ≡ true
  in_form = (in_form_known nodes edges faces h f.in_form).formed

  few : (n ≤ span) × (k ≤ span)
  few = (omega (arith, (counted f).nodes.most), omega (arith, (counted f).faces.most))

  node-cell : (i : ℕ) → i < n → NodeCells nodes i
  node-cell i t = node_cells_lem nodes i (node-row_of (node_rows_lem f) i t).ranges

  face_first : (i : ℕ) → i < k → get_or faces (i * face_width) (pos 0) ≡ pos (face_at faces i)
  face_first i t = face_cell_lem faces i (rows_all face_width faces face_ranges k (face_rows_lem f).ranges i t)

  -- rows are one where their numbers are
  same_nodes : (i j : ℕ) → i < n → j < n → same i j ≡ same (num i) (num j)
  same_nodes = same_rows (node_rows_rising (node_rows_lem f)) num (λ i t. (node-cell i t).number)

  same_faces : (i j : ℕ) → i < k → j < k → same i j ≡ same (face_at faces i) (face_at faces j)
  same_faces = same_rows (face_rows_rising (face_rows_lem f)) (face_at faces) face_first

  -- a face named, by row and by number
  face_named : (x : ℕ) → x < k → (z : ℤ) → is_found x (place (same_z z) 0 (column face_width faces k))
      ≡ is_it (face_at faces x) (face_of z)
  face_named x t (pos y) = elim (which_place (place (same_z (pos y)) 0 (column face_width faces k))) [
    | inl (j, q) ↦ let r = face_found faces k (face_rows_lem f).ranges (pos y) j q in
        ap (is_found x) q ∙ same_faces x j t r.0 ∙ ap (same (face_at faces x)) (sym (ap nat_abs r.1))
    | inr q ↦ ap (is_found x) q ∙ sym (same_false (face_at faces x) y (λ d.
        let c : Some x ≡ None = sym (row_found_lem (face_rows_rising (face_rows_lem f)) (face_at faces) face_first x t)
        ∙ ap (λ v. place (same_z (pos v)) 0 (column face_width faces k)) d ∙ q in
        let z : ◌≡◌ {A = ℕ} 0 1 = cc in
        omega arith))
  ]
  face_named x t (negsuc y) =
      ap (is_found x) (place_negative face_width faces k (λ v. v) (face_at faces) face_first y)

  -- node row i, by row and by number
  abbrev by_node : ℕ → ℕ → ℕ → Bool
  by_node = node_relates nodes faces k

  node-named : (p x i : ℕ) → p < n → x < k → i < n → by_node p x i
      ≡ same (num i) (num p) && is_it (face_at faces x) (node_at nodes i).face
  node-named p x i s t u = ap₂ ◌&&◌ (same_nodes p i s u ∙ same_sym (num p) (num i))
      (face_named x t (get_or nodes (i * node_width + 3) (pos 0)) ∙ ap (is_it (face_at faces x)) (node-cell i u).face)

  -- a node row in a face is a piece by itself, and the face is a row in use
  node_alone : (p x i : ℕ) → i < n → by_node p x i ≡ true → (p < n) × (x < k) × (is_piece m nodes p ≡ true)
  node_alone p x i u q =
      let z = get_or nodes (i * node_width + 3) (pos 0) in
      let r = and-true (same p i) (is_found x (place (same_z z) 0 (column face_width faces k))) q in
      subst (λ v. (v < n) × (x < k) × (is_piece m nodes v ≡ true)) (sym (same_true p i r.0))
      (elim (which_place (place (same_z z) 0 (column face_width faces k))) [
        | inl (j, c) ↦
            let at = face_found faces k (face_rows_lem f).ranges z j c in
            let on : x ≡ j = same_true x j (sym (ap (is_found x) c) ∙ r.1) in
            let below = at.0 in (
              u,
              omega arith,
              same_eq (piece_of m (num i)) (num i) (lone_piece m in_form
                  (subst (Memᴰ (node_at nodes i)) (sym (nodes_table nodes n))
                  (table_has (node_at nodes) 0 n i (omega arith) (omega arith)))
                  (ap is_some (sym (node-cell i u).face ∙ ap face_of at.1))),
            )
        | inr c ↦ absurd (false≢true (sym (ap (is_found x) c) ∙ r.1))
      ])

  module _ {g : List ℕ} {count : ℕ} (r : Related nodes edges faces (counts_of h) g count) where
    -- ---- a directed edge

    abbrev by_dart : ℕ → ℕ → ℕ → Bool
    by_dart = dart_relates r.starts r.bears r.labels

    module _ (q : ℕ) (t : q < e * 2) where
      -- the row of the node that it leaves, and that of the lowest node of its piece
      abbrev start : ℕ
      start = get_or r.starts q 0

      abbrev root : ℕ
      root = get_or r.labels start 0

      root_below : root < n
      root_below = r.labelled.below start (r.starts_named q t).0

      leaves_is : num start ≡ leaves m (dart_at edges q)
      unfolding leaves edge
      leaves_is = ap nat_abs (sym (node-cell start (r.starts_named q t).0).number ∙ (r.starts_named q t).1
          ∙ cell-leaves (edge_rows_lem f) q t)

      piece_is : num root ≡ piece_of m (leaves m (dart_at edges q))
      piece_is = r.labelled.lowest start (r.starts_named q t).0 ∙ ap (piece_of m) leaves_is

      bears_is : face_at faces (get_or r.bears q 0) ≡ bears m (dart_at edges q)
      unfolding bears edge
      bears_is = ap nat_abs (sym (face_first (get_or r.bears q 0) (r.bears-named q t).0) ∙ (r.bears-named q t).1
          ∙ cell-bears (edge_rows_lem f) q t)

      -- by row and by number
      dart_named : (p x : ℕ) → p < n → x < k → by_dart p x q
          ≡ same (piece_of m (leaves m (dart_at edges q))) (num p) && same (bears m (dart_at edges q)) (face_at faces x)
      dart_named p x s u = ap₂ ◌&&◌
          (same_nodes p root s root_below ∙ same_sym (num p) (num root) ∙ ap (λ v. same v (num p)) piece_is)
          (same_faces x (get_or r.bears q 0) u (r.bears-named q t).0
          ∙ same_sym (face_at faces x) (face_at faces (get_or r.bears q 0)) ∙ ap (λ v. same v (face_at faces x)) bears_is)

      -- a piece, and rows in use
      root_piece : is_piece m nodes root ≡ true
      root_piece = same_eq (piece_of m (num root)) (num root)
          (ap (piece_of m) piece_is ∙ label_idem (arcs m) (leaves m (dart_at edges q)) ∙ sym piece_is)

      dart_rows : (p x : ℕ) → by_dart p x q ≡ true → (p < n) × (x < k) × (is_piece m nodes p ≡ true)
      dart_rows p x c =
          let d = and-true (same p root) (same x (get_or r.bears q 0)) c in
          let on = same_true x (get_or r.bears q 0) d.1 in
          let below = (r.bears-named q t).0 in
          subst (λ v. (v < n) × (x < k) × (is_piece m nodes v ≡ true)) (sym (same_true p root d.0))
          (root_below, omega arith, root_piece)

    -- ---- what the matrix has

    abbrev rel : ℕ → ℕ → Bool
    rel p x = any_of (by_dart p x) (table (λ q. q) 0 (e * 2)) || any_of (by_node p x) (table (λ i. i) 0 n)

    -- by number it is what is in what
    rel_named : (p x : ℕ) → p < n → x < k → rel p x ≡ is_in m (num p) (face_at faces x)
    unfolding is_in
    rel_named p x s t = ap₂ ◌||◌
        (any_rows (λ d. same (piece_of m (leaves m d)) (num p) && same (bears m d) (face_at faces x)) (dart_at edges)
        (by_dart p x) (e * 2) (λ q u. dart_named q u p x s t)
        ∙ ap (any_of (λ d. same (piece_of m (leaves m d)) (num p) && same (bears m d) (face_at faces x)))
        (sym (directed-table edges e)))
        (any_rows (λ v. same v.number (num p) && is_it (face_at faces x) v.face) (node_at nodes)
        (by_node p x) n (λ i u. node-named p x i s t u)
        ∙ ap (any_of (λ v. same v.number (num p) && is_it (face_at faces x) v.face)) (sym (nodes_table nodes n)))

    -- only rows in use are related, and only those of pieces
    rel_rows : (p x : ℕ) → rel p x ≡ true → (p < n) × (x < k) × (is_piece m nodes p ≡ true)
    rel_rows p x c =
        elim (or-true (any_of (by_dart p x) (table (λ q. q) 0 (e * 2))) (any_of (by_node p x) (table (λ i. i) 0 n)) c) [
          | inl d ↦ let w = any_some (by_dart p x) (table (λ q. q) 0 (e * 2)) d in
              dart_rows w.0 (below_rows (e * 2) w.0 w.1) p x w.2
          | inr d ↦ let w = any_some (by_node p x) (table (λ i. i) 0 n) d in
              node_alone p x w.0 (below_rows n w.0 w.1) w.2
        ]

    -- a face lists pieces alone
    rel_listed : (p x : ℕ) → p < n → x < k
        → rel p x ≡ same (piece_of m (num p)) (num p) && is_in m (num p) (face_at faces x)
    rel_listed p x s t = agree (rel p x) (is_piece m nodes p && is_in m (num p) (face_at faces x))
        (λ c. and_is (rel_rows p x c).2 (sym (rel_named p x s t) ∙ c))
        (λ c. rel_named p x s t ∙ and_right (is_piece m nodes p) (is_in m (num p) (face_at faces x)) c)

    rel_past : (p x : ℕ) → (n ≤ p) ⊎ (k ≤ x) → rel p x ≡ false
    rel_past p x far = not-true (rel p x) (λ c. let w = rel_rows p x c in
        elim far [ inl s ↦ omega (arith, w.0) | inr s ↦ omega (arith, w.1) ])

    -- under a face row, under a piece row
    abbrev rel_of : Bool → ℕ → ℕ → Bool
    rel_of false x y = rel y x
    rel_of true x y = rel x y

    bit_is : (b : Bool) (x y : ℕ) → x < span → y < span → bit_at g (vertex_of b x) y ≡ rel_of b x y
    bit_is false x y s t = r.relates.pieces y x t s
    bit_is true x y s t = r.relates.faces x y s t

    under : (b : Bool) (x : ℕ) → Memᴰ (b, x) (row_parts m nodes n k)
        → map (number_of nodes faces (not b)) (related g b x) ≡ listed_under m b (number_of nodes faces b x)
    unfolding listed_under piece_rows
    under false x j =
        let t = part_below m nodes n k false x j in
        let s : x < span = omega (arith, few.1) in
        kept_rows num (bit_at g (vertex_of false x)) (λ v. same (piece_of m v) v && is_in m v (face_at faces x)) n span
        few.0 (λ i u. bit_is false x i s (omega (arith, few.0)) ∙ rel_listed i x u t)
        (λ i u v. bit_is false x i s v ∙ rel_past i x (inl u))
        ∙ ap (keep (λ v. same (piece_of m v) v && is_in m v (face_at faces x))) (sym (node_numbers_lem nodes n))
        ∙ sym (keep-both (λ v. same (piece_of m v) v) (λ v. is_in m v (face_at faces x))
        (map (λ v. v.number) (nodes_of nodes n)))
    under true x j =
        let t = part_below m nodes n k true x j in
        let s : x < span = omega (arith, few.0) in
        kept_rows (face_at faces) (bit_at g (vertex_of true x)) (λ v. is_in m (num x) v) k span few.1
        (λ i u. bit_is true x i s (omega (arith, few.1)) ∙ rel_named x i t u)
        (λ i u v. bit_is true x i s v ∙ rel_past x i (inr u))
        ∙ ap (keep (λ v. is_in m (num x) v)) (sym (faces_table faces k))

    -- past the matrix no bit is set
    bit_past : (b : Bool) (x y : ℕ) → span ≤ x → bit_at g (vertex_of b x) y ≡ false
    bit_past b x y le =
        ap (λ v. bit_of v (y % 64)) (get_or-eq_default g 0 {n = vertex_of b x * words + y / 64}
        (omega (arith, r.relates.size))) ∙ bit_none 0 0 (y % 64) refl (omega arith)

    closed : Closed g (row_parts m nodes n k)
    closed b x y j =
        let w = keep_in (bit_at g (vertex_of b x)) (table (λ i. i) 0 span) j in
        elim (lt_or_ge x span) [
          | inl s ↦ at b (sym (bit_is b x y s (below_rows span y w.0)) ∙ w.1)
          | inr s ↦ absurd (true≢false (sym w.1 ∙ bit_past b x y s))
        ]
      where
        at : (b : Bool) → rel_of b x y ≡ true → Memᴰ (not b, y) (row_parts m nodes n k)
        at false c = let w = rel_rows y x c in piece_part m nodes n k y w.0 w.2
        at true c = face_part m nodes n k y (rel_rows x y c).1

    pieces_counted : count ≡ piece_count m
    unfolding pieces
    pieces_counted = r.counted
        ∙ count_cong (is_root r.labels) (is_piece m nodes) (table (λ i. i) 0 n)
        (λ i j. let t = below_rows n i j in
        same_nodes (get_or r.labels i 0) i (r.labelled.below i t) t
        ∙ ap (λ v. same v (num i)) (r.labelled.lowest i t))
        ∙ sym (count_map num (λ v. same (piece_of m v) v) (table (λ i. i) 0 n))
        ∙ ap (count_of (λ v. same (piece_of m v) v)) (map-table num (λ i. i) 0 n ∙ sym (node_numbers_lem nodes n))

pub in_faces_lem : (nodes edges faces : List ℤ) (h : Head) → Formed nodes edges faces h → (g : List ℕ) (r : ℕ)
    → Related nodes edges faces (counts_of h) g r
    → InFaces (map_of (lent nodes edges faces h)) nodes (nat_abs h.nodes) faces (nat_abs h.faces) g r
in_faces_lem nodes edges faces h f g r w =
    subst (λ m. InFaces m nodes (nat_abs h.nodes) faces (nat_abs h.faces) g r) (sym (map_is nodes edges faces h))
    (record { matrix = w.relates.size; under = under f w; closed = closed f w; counted = pieces_counted f w })
