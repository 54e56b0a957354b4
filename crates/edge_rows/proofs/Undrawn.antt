-- An edge undrawn in the tables is undrawn in the map. Assumes nothing.
use Rattle.std.specs.Prelude.{Option as Found, Some, None}
use mathlib.Core.Path.{◌≡◌, refl, sym, ap, ap₂, ◌∙◌}
use mathlib.Core.Logic.{inl, inr}
use mathlib.Core.Bool.{Bool, true, false, cond, ◌&&◌, ◌||◌}
use mathlib.Core.List.{List, [], ◌∷◌, map, flat_map}
use mathlib.Core.Option.{Option, none, some}
use Prim.Native.Nat.{ℕ, suc, ◌+◌, ◌*◌, ◌≤◌}
use native.Mathlib.Omega.{arith}
use lib.IntN.{ℤ, pos, negsuc, nat_abs}
use lib.ListN.{length, get_or, take, drop, length-set, length-append, length-drop, length-map}
use lib.Seq.{length-take-le}
use lib.Signed.{le_z, non_neg}
use Rattle.lists.specs.Tests.{same}
use Rattle.lists.specs.Scans.{all_of, find}
use Rattle.lists.specs.Tables.{place}
use Rattle.lists.proofs.Bools.{which, same_true, eq3}
use Rattle.tables.specs.Tables.{same_z, column, closed, filled, is_zero}
use Rattle.tables.proofs.Writes.{removed_at}
use Rattle.map.specs.declared.Head.{Head}
use Rattle.map.specs.Limits.{PointLimit, node_width, edge_width}
use Rattle.map.specs.Rows.{Node, Edge, Map, map_of, head_of, edge, face_of, node_cells, edge_cells, at_nodes, without_edge}
use Rattle.map.specs.Rows.{counts, lent}
use Rattle.map.specs.Darts.{edge_ends}
use Rattle.map.specs.Links.{unlink_edge, redirect}
use Rattle.map.specs.Edits.{with_face, is_either, undrawn}
use Rattle.map.proofs.PointLimits.{limit_back, limit_record}
use Rattle.map_rows.specs.Rows.{nodes_of, edges_of, node_at, edge_at, NodeRows}
use Rattle.map_rows.proofs.Rows.{edges_length}
use Rattle.map_rows.proofs.Lookups.{node_found, node_missing}
use Rattle.map_rows.proofs.RowCurves.{table_edges_wide}
use Rattle.darts.proofs.Positions.{cells_of_lem, edge_of}
use Rattle.links.specs.Linking.{unlinked_edge}
use Rattle.links.proofs.Kept.{rest_kept, number_kept}
use Rattle.links.proofs.LinkedEdges.{unlinked_alone, unlinked_edge_kept, unlinked_edge_relinked, unlinked_edge_gone}
use Rattle.head.specs.Heads.{changed_head}
use Rattle.head.proofs.Heads.{head_changed}
use Rattle.edge_rows.specs.Holds.{NodeTable, EdgeTable, Undrawable, Undrawn, isolated_without}
use Rattle.edge_rows.specs.Holds.{faced_where, faced_if}
use Rattle.edge_rows.proofs.Filled.{nodes_filled, edges_filled}
use Rattle.edge_rows.proofs.NodeFaces.{faced_nodes, faced_table}
use Rattle.edge_rows.proofs.Ends.{without_row, isolated_is}

-- ---- nodes that take a face

module _ (f : Option ℕ) where
  -- no node of the number
  none_faced : (k : ℕ) (xs : List Node) → find (λ r. same r.number k) xs ≡ none
      → map (λ (r : Node). cond (same r.number k) (with_face f r) r) xs ≡ xs
  none_faced k [] e = refl
  none_faced k (x ∷ xs) e = go (same x.number k) refl (none_faced k xs)
    where
      go : (b : Bool) → same x.number k ≡ b
          → (find (λ r. same r.number k) xs ≡ none
          → map (λ (r : Node). cond (same r.number k) (with_face f r) r) xs ≡ xs)
          → map (λ (r : Node). cond (same r.number k) (with_face f r) r) (x ∷ xs) ≡ x ∷ xs
      go true q later = let z : some x ≡ none = rw q at e in let k : ◌≡◌ {A = ℕ} 0 1 = cc in absurd (omega arith)
      go false q later = rw q (ap (λ (ys : List Node). x ∷ ys) (later (rw q at e)))

  module _ (p : ℕ → Bool) where
    abbrev faced : ℕ → Node → Node
    faced k r = cond (same r.number k && p r.number) (with_face f r) r

    -- nodes of the number, if it is isolated
    one_faced : (k : ℕ) (xs : List Node)
        → cond (p k) (map (λ (r : Node). cond (same r.number k) (with_face f r) r) xs) xs ≡ map (faced k) xs
    one_faced k xs = go (p k) refl xs
      where
        each : (b : Bool) → p k ≡ b → (r : Node) → cond b (cond (same r.number k) (with_face f r) r) r ≡ faced k r
        each b e r = elim (which (same r.number k)) [
          | inl q ↦ rw (q, ap p (same_true r.number k q) ∙ e) (at b)
          | inr q ↦ rw q (other b)
        ]
          where
            at : (b : Bool) → cond b (with_face f r) r ≡ cond b (with_face f r) r
            at b = refl

            other : (b : Bool) → cond b r r ≡ r
            other true = refl
            other false = refl

        go : (b : Bool) → p k ≡ b → (xs : List Node)
            → cond b (map (λ (r : Node). cond (same r.number k) (with_face f r) r) xs) xs ≡ map (faced k) xs
        go true e [] = refl
        go false e [] = refl
        go true e (x ∷ xs) = ap₂ (λ (y : Node) (ys : List Node). y ∷ ys) (each true e x) (go true e xs)
        go false e (x ∷ xs) = ap₂ (λ (y : Node) (ys : List Node). y ∷ ys) (each false e x) (go false e xs)

    either_faced : (s t : ℕ) (xs : List Node) → map (faced t) (map (faced s) xs)
        ≡ map (λ (r : Node). cond (is_either s t r && p r.number) (with_face f r) r) xs
    either_faced s t [] = refl
    either_faced s t (x ∷ xs) = ap₂ (λ (y : Node) (ys : List Node). y ∷ ys) (each x) (either_faced s t xs)
      where
        last : (b : Bool) → cond b (with_face f (with_face f x)) (with_face f x) ≡ with_face f x
        last true = refl
        last false = refl

        go : (a b : Bool) → same x.number t && p x.number ≡ b → faced t (cond a (with_face f x) x)
            ≡ cond (a || b) (with_face f x) x
        go true b e = last (same x.number t && p x.number)
        go false b e = rw e

        each : (y : Node) → faced t (faced s x) ≡ cond (is_either s t x && p x.number) (with_face f x) x
        each y =
            go (same x.number s && p x.number) (same x.number t && p x.number) refl
            ∙ ap (λ (b : Bool). cond b (with_face f x) x)
            (eq3 (λ a b c. a && c || b && c) (λ a b c. (a || b) && c) tt (same x.number s) (same x.number t)
            (p x.number))

module _ {l : List ℤ} {n : ℕ} (t : NodeTable l n) (k : ℕ) (face : ℤ) (least : le_z (negsuc 0) face ≡ true) where
  where_faced : (r : Found ℕ) → place (same_z (pos k)) 0 (column node_width l n) ≡ r → NodeTable (faced_where l face r) n
      × (nodes_of (faced_where l face r) n
      ≡ map (λ (x : Node). cond (same x.number k) (with_face (face_of face) x) x) (nodes_of l n))
      × (length (faced_where l face r) ≡ length l)
  where_faced (Some i) e =
      let q = node_found l n t.rows.ranges (pos k) i e in
      let num : (node_at l i).number ≡ k = sym (ap nat_abs q.1) in (
        faced_table t i q.0 face least,
        faced_nodes t i q.0 face least
            ∙ ap (λ (j : ℕ). map (λ (x : Node). cond (same x.number j) (with_face (face_of face) x) x)
            (nodes_of l n)) num,
        length-set l (i * node_width + 3) face,
      )
  where_faced None e = (
    t,
    sym (none_faced (face_of face) k (nodes_of l n) (node_missing l n t.rows.ranges k e)),
    refl,
  )

  if_faced : (b : Bool) → NodeTable (faced_if l n (pos k) face b) n
      × (nodes_of (faced_if l n (pos k) face b) n
      ≡ cond b (map (λ (x : Node). cond (same x.number k) (with_face (face_of face) x) x) (nodes_of l n))
      (nodes_of l n)) × (length (faced_if l n (pos k) face b) ≡ length l)
  if_faced true = where_faced (place (same_z (pos k)) 0 (column node_width l n)) refl
  if_faced false = (t, refl, refl)

natural-least : (z : ℤ) → non_neg z ≡ true → le_z (negsuc 0) z ≡ true
natural-least (pos n) e = refl
natural-least (negsuc n) e = let k : ◌≡◌ {A = ℕ} 0 1 = cc in absurd (omega arith)

face_some : (z : ℤ) → non_neg z ≡ true → face_of z ≡ some (nat_abs z)
face_some (pos n) e = refl
face_some (negsuc n) e = let k : ◌≡◌ {A = ℕ} 0 1 = cc in absurd (omega arith)

module _ {nodes edges : List ℤ} {h : Head} {i : ℕ} {face : ℤ} (d : Undrawable nodes edges h i face) where
  abbrev n : ℕ
  n = nat_abs h.edges

  abbrev number : ℕ
  number = (edge_at edges i).number

  abbrev unlinked : List ℤ
  unlinked = unlinked_edge edges n i

  table : EdgeTable edges n
  table = d.held.edge-table

  unlinked_held : EdgeTable unlinked n
  unlinked_held =
      let r = unlinked_edge_relinked table.rows i d.row in
      record {
        rows = unlinked_edge_kept table.rows i d.row;
        rest = ap (all_of is_zero) (rest_kept r) ∙ table.rest;
        whole = rw r.long table.whole;
      }

  number_is : (edge_at unlinked i).number ≡ number
  number_is = number_kept (unlinked_edge_relinked table.rows i d.row) table.rows.fits i d.row

  abbrev start : ℕ
  start = (edge_at edges i).start

  abbrev end : ℕ
  end = (edge_at edges i).end

  abbrev start_faced : List ℤ
  start_faced = faced_if nodes (nat_abs h.nodes) (pos start) face (isolated_without unlinked n i (pos start))

  abbrev end_faced : List ℤ
  end_faced = faced_if start_faced (nat_abs h.nodes) (pos end) face (isolated_without unlinked n i (pos end))

  start_held : NodeTable start_faced (nat_abs h.nodes)
      × (nodes_of start_faced (nat_abs h.nodes)
      ≡ cond (isolated_without unlinked n i (pos start))
      (map (λ (x : Node). cond (same x.number start) (with_face (face_of face) x) x)
      (nodes_of nodes (nat_abs h.nodes))) (nodes_of nodes (nat_abs h.nodes))) × (length start_faced ≡ length nodes)
  start_held = if_faced d.held.node_table_lem start face (natural-least face d.natural)
      (isolated_without unlinked n i (pos start))

  end_held : NodeTable end_faced (nat_abs h.nodes)
      × (nodes_of end_faced (nat_abs h.nodes)
      ≡ cond (isolated_without unlinked n i (pos end))
      (map (λ (x : Node). cond (same x.number end) (with_face (face_of face) x) x)
      (nodes_of start_faced (nat_abs h.nodes))) (nodes_of start_faced (nat_abs h.nodes)))
      × (length end_faced ≡ length start_faced)
  end_held = if_faced start_held.0 end face (natural-least face d.natural)
      (isolated_without unlinked n i (pos end))

  module _ (faces : List ℤ) where
    abbrev m : Map
    m = map_of (lent nodes edges faces h)

    edges_left : (unlink_edge number m).edges ≡ without_edge number (edges_of unlinked n)
    unfolding map_of
    edges_left = unlinked_alone number m ∙ unlinked_edge_gone table.rows i d.row

    edges_gone : (unlink_edge number m).edges ≡ without_edge (edge_at unlinked i).number (edges_of unlinked n)
    edges_gone = edges_left ∙ ap (λ (k : ℕ). without_edge k (edges_of unlinked n)) (sym number_is)

    edge_cells_lem : filled (length edges) (flat_map edge_cells (undrawn number (nat_abs face) m).edges)
        ≡ closed edge_width unlinked n i
    unfolding undrawn at_nodes
    edge_cells_lem =
        let t = unlinked_held in
        let r = unlinked_edge_relinked table.rows i d.row in
        let es = edges_of unlinked n in
        let len : length es ≡ n = edges_length unlinked n in
        let fits : length es * edge_width ≤ length unlinked = rw len t.rows.fits in
        ap₂ (λ (k : ℕ) (xs : List Edge). filled k (flat_map edge_cells xs)) (sym r.long)
        (edges_gone ∙ without_row t.rows i d.row)
        ∙ sym (removed_at edge_width edge_cells (length unlinked) es i (edge_at unlinked i)
        (table_edges_wide unlinked n t.rows.fits t.rows.ranges) (rw len d.row) fits)
        ∙ ap₂ (λ (x : List ℤ) (k : ℕ). closed edge_width x k i) (edges_filled t) len

    edges_fewer : length (undrawn number (nat_abs face) m).edges + 1 ≡ n
    unfolding undrawn at_nodes
    edges_fewer =
        let es = edges_of unlinked n in
        let len = edges_length unlinked n in
        omega (
          arith,
          d.row,
          len,
          ap length (edges_gone ∙ without_row unlinked_held.rows i d.row)
              ∙ length-append (take i es) (drop (suc i) es),
          length-take-le i es (rw len (omega (arith, d.row))),
          length-drop (suc i) es,
        )

    row_is : edge m number ≡ edge_at edges i
    unfolding map_of edge
    row_is = edge_of table.rows i d.row

    isolated : (k : ℕ) → isolated_without unlinked n i (pos k) ≡ same (edge_ends (unlink_edge number m) k) 0
    isolated k = isolated_is unlinked_held.rows i d.row (unlink_edge number m) k edges_gone

    nodes_are : (undrawn number (nat_abs face) m).nodes ≡ nodes_of end_faced (nat_abs h.nodes)
    unfolding undrawn at_nodes unlink_edge redirect map_of
    nodes_are =
        let ns = nodes_of nodes (nat_abs h.nodes) in
        let p : ℕ → Bool = λ k. same (edge_ends (unlink_edge number m) k) 0 in
        let f = face_of face in
        let g : ℕ → Node → Node = λ k x. cond (same x.number k) (with_face f x) x in
        ap₂ (λ (r : Edge) (o : Option ℕ). map
        (λ (x : Node). cond (is_either r.start r.end x && p x.number) (with_face o x) x) ns) row_is
        (sym (face_some face d.natural))
        ∙ sym (
        end_held.1
        ∙ ap₂ (λ (q : Bool) (xs : List Node). cond q (map (g end) xs) xs) (isolated end)
        (start_held.1 ∙ ap (λ (q : Bool). cond q (map (g start) ns) ns) (isolated start) ∙ one_faced f p start ns)
        ∙ one_faced f p end (map (faced f p start) ns)
        ∙ either_faced f p start end ns
        )

    node_cells_lem : filled (length nodes) (flat_map node_cells (undrawn number (nat_abs face) m).nodes) ≡ end_faced
    node_cells_lem =
        ap₂ (λ (k : ℕ) (xs : List Node). filled k (flat_map node_cells xs)) (sym (end_held.2 ∙ start_held.2)) nodes_are
        ∙ nodes_filled end_held.0

  -- what a call left
  pub undrawn_as : {nodes' edges' : List ℤ} {h' : Head} → nodes' ≡ end_faced → edges' ≡ closed edge_width unlinked n i
      → h' ≡ changed_head h (counts 0 0 0) (counts 0 1 0) (counts 0 0 0) → Undrawn nodes edges h i face nodes' edges' h'
  undrawn_as en ee eh = record {
    node_cells_lem = λ faces. node_cells_lem faces ∙ sym en;
    edge_cells_lem = λ faces. edge_cells_lem faces ∙ sym ee;
    edges_left = edges_fewer;
    head = eh;
  }

  -- ---- what the call asks

  pub start_cell : get_or edges (i * edge_width + 1) (pos 0) ≡ pos (edge_at edges i).start
  start_cell = (cells_of_lem table.rows i d.row).start

  pub end-cell : get_or edges (i * edge_width + 2) (pos 0) ≡ pos (edge_at edges i).end
  end-cell = (cells_of_lem table.rows i d.row).end

  pub start_rows : NodeRows (faced_if nodes (nat_abs h.nodes) (pos (edge_at edges i).start) face
      (isolated_without (unlinked_edge edges (nat_abs h.edges) i) (nat_abs h.edges) i (pos (edge_at edges i).start)))
      (nat_abs h.nodes)
  start_rows = start_held.0.rows

pub faced_alike : {l l' : List ℤ} {n n' : ℕ} {z z' f f' : ℤ} {b b' : Bool} → l ≡ l' → n ≡ n' → z ≡ z' → f ≡ f' → b ≡ b'
    → faced_if l n z f b ≡ faced_if l' n' z' f' b'
faced_alike el en ez ef eb = λ i. faced_if (el i) (en i) (ez i) (ef i) (eb i)

pub isolated_alike : (l : List ℤ) (i : ℕ) {n n' : ℕ} {z z' : ℤ} → n ≡ n' → z ≡ z'
    → isolated_without (unlinked_edge l n i) n i z ≡ isolated_without (unlinked_edge l n' i) n' i z'
isolated_alike l i en ez = ap₂ (λ (k : ℕ) (x : ℤ). isolated_without (unlinked_edge l k i) k i x) en ez

-- an edge less, and nothing else in the head
pub undrawn_head : (limit : PointLimit) (k g : ℕ) (m : Map) {h : Head} → head_of limit m ≡ h
    → length (undrawn k g m).edges + 1 ≡ nat_abs h.edges
    → head_of limit (undrawn k g m) ≡ changed_head h (counts 0 0 0) (counts 0 1 0) (counts 0 0 0)
unfolding undrawn at_nodes unlink_edge redirect
undrawn_head limit k g m {h} e fewer =
    let isolated : Node → Bool = λ x. is_either (edge m k).start (edge m k).end x
    && same (edge_ends (unlink_edge k m) x.number) 0 in
    let nodes = length-map m.nodes (λ (x : Node). cond (isolated x) (with_face (some g) x) x) in
    ap (λ (l : PointLimit). head_of l (undrawn k g m)) (sym (limit_back limit))
    ∙ head_changed (head_of limit m) (undrawn k g m) (counts 0 0 0) (counts 0 1 0) (counts 0 0 0) (limit_record limit)
    (omega (arith, nodes)) (omega (arith, fewer, ap (λ (x : Head). nat_abs x.edges) e)) (omega arith) (omega arith)
    (omega arith) (omega arith)
    ∙ ap (λ (x : Head). changed_head x (counts 0 0 0) (counts 0 1 0) (counts 0 0 0)) e
