-- What is lent after a node is added, moved or removed: a row pushed, replaced or closed up. Assumes nothing.
use mathlib.Core.Path.{◌≡◌, refl, sym, ap, ◌∙◌}
use mathlib.Core.List.{List, [], ◌∷◌, ◌++◌, map, flat_map}
use mathlib.Core.Bool.{true, cond, ◌&&◌}
use Prim.Native.Nat.{ℕ, suc, ◌+◌, ◌*◌, ◌-◌, ◌/◌, ◌≤◌, ◌<◌}
use native.Mathlib.Nat.{add-zero}
use native.Mathlib.Omega.{arith}
use lib.IntN.{ℤ, pos, nat_abs}
use lib.ListN.{length, get_or, take, drop, set, length-append, length-map, length-drop}
use lib.Seq.{paste, length-take-le}
use Rattle.lists.specs.Tests.{same}
use Rattle.tables.specs.Tables.{closed, filled}
use Rattle.tables.proofs.Writes.{pushed, replaced_at, removed_at}
use Rattle.tables.proofs.Numbers.{without_at, changed_at_lem}
use Rattle.plane.specs.declared.Point.{Point}
use Rattle.curves.specs.Curves.{coordinate, point}
use Rattle.curves.proofs.Runs.{and_left, and_right, coordinate-pos}
use Rattle.map.specs.declared.Counts.{Counts}
use Rattle.map.specs.declared.Head.{Head}
use Rattle.map.specs.Limits.{node_width}
use Rattle.map.specs.Rows.{Node, Map, Sizes, map_of, lent_of, sizes_of, node_cells, at_nodes, without_node, head_of, given}
use Rattle.map.specs.Rows.{counts, lent, rectangle}
use Rattle.map.specs.Faces.{face_of_point}
use Rattle.map.specs.Tickets.{AddIsoNode, MoveIsoNode, RemoveIsoNode}
use Rattle.map.specs.Ticket.{carried}
use Rattle.map.specs.Edits.{lone, add_iso_node, move_iso_node, remove_iso_node}
use Rattle.map.proofs.RoundTrip.{nodes_wide}
use Rattle.map_rows.specs.Rows.{nodes_of, edges_of, faces_of, node_at}
use Rattle.map_rows.proofs.Rows.{nodes_length, edges_length, faces_length, nodes_get_d}
use Rattle.head.specs.Heads.{changed_head}
use Rattle.head.proofs.Heads.{head_changed, head_same}
use Rattle.outcomes.specs.Outcomes.{Formed}
use Rattle.outcomes.proofs.Formed.{nodes_count, node-next, counted, nodes_filled, edges_filled, faces_filled}
use Rattle.outcomes.proofs.Formed.{node_numbers_once, lent_is}

-- the numbers of a node with the face of its point
row_cells_lem : (m : Map) (k : ℕ) (number x y face : ℤ) → coordinate x && coordinate y ≡ true → number ≡ pos k → face
    ≡ pos (face_of_point m (point x y)) → node_cells (lone m k (point x y)) ≡ number ∷ x ∷ y ∷ face ∷ []
unfolding node_cells
row_cells_lem m k number x y face e en ef =
    λ i. sym en i ∷ sym (coordinate-pos x (and_left (coordinate x) (coordinate y) e)) i
    ∷ sym (coordinate-pos y (and_right (coordinate x) (coordinate y) e)) i ∷ sym ef i ∷ []

module _ {nodes edges faces : List ℤ} {h : Head} (f : Formed nodes edges faces h) where
  abbrev m : Map
  m = map_of (lent nodes edges faces h)

  abbrev s : Sizes
  s = sizes_of (lent nodes edges faces h)

  abbrev n : ℕ
  n = nat_abs h.nodes

  abbrev xs : List Node
  xs = nodes_of nodes n

  abbrev size : ℕ
  size = length nodes / node_width * node_width

  -- a map with other nodes and next numbers
  abbrev changed : List Node → Counts → Map
  changed ns k = record {
    nodes = ns;
    edges = edges_of edges (nat_abs h.edges);
    faces = faces_of faces (nat_abs h.faces);
    next = k;
  }

  nodes_lent_lem : (ns : List Node) (k : Counts) {l : List ℤ} {g : Head} → filled size (flat_map node_cells ns) ≡ l
      → head_of s.limit (changed ns k) ≡ g → lent_of s (changed ns k) ≡ lent l edges faces g
  nodes_lent_lem ns k e head = lent_is (rectangle (edges_of edges (nat_abs h.edges))) s (changed ns k) e
      (edges_filled f) (faces_filled f) head

  edge_count : length (edges_of edges (nat_abs h.edges)) ≡ nat_abs h.edges
  edge_count = edges_length edges (nat_abs h.edges)

  face_count : length (faces_of faces (nat_abs h.faces)) ≡ nat_abs h.faces
  face_count = faces_length faces (nat_abs h.faces)

  -- the head with so many nodes more and less
  nodes_head : (ns : List Node) (k : Counts) (more less given : ℕ) → length ns + less ≡ n + more
      → k.nodes ≡ nat_abs h.next_node + given → k.edges ≡ nat_abs h.next_edge
      → k.faces ≡ nat_abs h.next_face
      → head_of s.limit (changed ns k) ≡ changed_head h (counts more 0 0) (counts less 0 0) (counts given 0 0)
  nodes_head ns k more less given e ea eb ec =
      head_changed h (changed ns k) (counts more 0 0) (counts less 0 0) (counts given 0 0) (counted f).recorded e
      (omega (arith, edge_count)) (omega (arith, face_count)) ea (omega arith) (omega arith)

  -- ---- kind 1

  add-lent : (p : Point) → n + 1 ≤ length nodes / node_width → lent_of s (add_iso_node p m)
      ≡ lent (paste nodes (n * node_width) (node_cells (lone m (nat_abs h.next_node) p)) node_width) edges faces
      (changed_head h (counts 1 0 0) (counts 0 0 0) (counts 1 0 0))
  unfolding map_of add_iso_node node_cells
  add-lent p room =
      let x = lone m (nat_abs h.next_node) p in
      let long = nodes_length nodes n in
      nodes_lent_lem (xs ++ x ∷ []) (given (counts 1 0 0) m).next
      (sym (pushed node_width node_cells size xs x (nodes_wide xs) refl (rw long (omega arith)))
      ∙ rw (nodes_filled f, long))
      (nodes_head (xs ++ x ∷ []) _ 1 0 1 (omega (arith, length-append xs (x ∷ []), long)) refl
      (add-zero (nat_abs h.next_edge)) (add-zero (nat_abs h.next_face)))

  next_is : pos m.next.nodes ≡ h.next_node
  unfolding map_of
  next_is = sym (node-next f).0

  pub add-carried : (face x y : ℤ) {a : ℤ} {l : List ℤ} → coordinate x && coordinate y ≡ true
      → n + 1 ≤ length nodes / node_width → a ≡ pos (face_of_point m (point x y))
      → l ≡ paste nodes (n * node_width) (h.next_node ∷ x ∷ y ∷ a ∷ []) node_width
      → (lent_of s (carried m (AddIsoNode face x y)).0
      ≡ lent l edges faces (changed_head h (counts 1 0 0) (counts 0 0 0) (counts 1 0 0)))
      × ((carried m (AddIsoNode face x y)).1 ≡ h.next_node)
  unfolding carried
  add-carried face x y {a} e room ea el = (
    add-lent (point x y) room
        ∙ ap (λ (r : List ℤ). lent r edges faces (changed_head h (counts 1 0 0) (counts 0 0 0) (counts 1 0 0)))
        (ap (λ (r : List ℤ). paste nodes (n * node_width) r node_width)
        (row_cells_lem m (nat_abs h.next_node) h.next_node x y a e (node-next f).0 ea) ∙ sym el),
    next_is,
  )

  -- ---- kinds 2 and 3, on the node of row i

  module _ (i : ℕ) (t : i < n) where
    abbrev number : ℕ
    number = (node_at nodes i).number

    row_in : i < length xs
    row_in = rw (nodes_length nodes n) t

    row_is : get_or xs i (node_at nodes i) ≡ node_at nodes i
    row_is = nodes_get_d nodes n i (node_at nodes i) t

    move_lent : (p : Point) → lent_of s (move_iso_node number p m)
        ≡ lent (paste nodes (i * node_width) (node_cells (lone m number p)) node_width) edges faces h
    unfolding map_of move_iso_node at_nodes node_cells
    move_lent p =
        let y = lone m number p in
        let ys = map (λ (r : Node). cond (same r.number number) y r) xs in
        let is : ys ≡ set xs i y = rw row_is at
        (changed_at_lem (λ (r : Node). r.number) (λ (r : Node). y) xs (node_numbers_once f) i (node_at nodes i) row_in) in
        nodes_lent_lem ys m.next
        (ap (λ (r : List Node). filled size (flat_map node_cells r)) is
        ∙ sym (replaced_at node_width node_cells size xs i (node_at nodes i) (nodes_wide xs) row_in y refl)
        ∙ rw (nodes_filled f))
        (head_same (counted f) (changed ys m.next)
        (length-map xs (λ (r : Node). cond (same r.number number) y r) ∙ nodes_length nodes n)
        edge_count face_count refl refl refl)

    pub move_carried : (x y : ℤ) {a : ℤ} {l : List ℤ} → coordinate x && coordinate y ≡ true
        → a ≡ pos (face_of_point m (point x y))
        → l ≡ paste nodes (i * node_width) (pos number ∷ x ∷ y ∷ a ∷ []) node_width
        → (lent_of s (carried m (MoveIsoNode (pos number) x y)).0 ≡ lent l edges faces h)
        × ((carried m (MoveIsoNode (pos number) x y)).1 ≡ pos 0)
    unfolding carried
    move_carried x y {a} e ea el = (
      move_lent (point x y)
          ∙ ap (λ (r : List ℤ). lent r edges faces h)
          (ap (λ (r : List ℤ). paste nodes (i * node_width) r node_width)
          (row_cells_lem m number (pos number) x y a e refl ea) ∙ sym el),
      refl,
    )

    remove_lent : lent_of s (remove_iso_node number m)
        ≡ lent (closed node_width nodes n i) edges faces (changed_head h (counts 0 0 0) (counts 1 0 0) (counts 0 0 0))
    unfolding map_of remove_iso_node
    remove_lent =
        let long = nodes_length nodes n in
        let is : without_node number xs ≡ take i xs ++ drop (suc i) xs =
        rw row_is at (without_at (λ (r : Node). r.number) xs (node_numbers_once f) i (node_at nodes i) row_in) in
        let fewer : length (take i xs ++ drop (suc i) xs) ≡ n - 1 = length-append (take i xs) (drop (suc i) xs)
        ∙ rw (length-take-le i xs (rw long (omega arith)), length-drop (suc i) xs, long) (omega arith) in
        nodes_lent_lem (without_node number xs) m.next
        (ap (λ (r : List Node). filled size (flat_map node_cells r)) is
        ∙ sym (removed_at node_width node_cells size xs i (node_at nodes i) (nodes_wide xs) row_in
        (rw long (omega (arith, (nodes_count f).2))))
        ∙ rw (nodes_filled f, long))
        (nodes_head (without_node number xs) m.next 0 1 0 (omega (arith, ap length is ∙ fewer))
        (sym (add-zero (nat_abs h.next_node))) refl refl)

    pub remove_carried : {l : List ℤ} → l ≡ closed node_width nodes n i
        → (lent_of s (carried m (RemoveIsoNode (pos number))).0
        ≡ lent l edges faces (changed_head h (counts 0 0 0) (counts 1 0 0) (counts 0 0 0)))
        × ((carried m (RemoveIsoNode (pos number))).1 ≡ pos 0)
    unfolding carried
    remove_carried el = (
      remove_lent
          ∙ ap (λ (r : List ℤ). lent r edges faces (changed_head h (counts 0 0 0) (counts 1 0 0) (counts 0 0 0)))
          (sym el),
      refl,
    )
