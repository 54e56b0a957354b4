-- What is lent after a split: a node's row pushed, an edge's row cut, and the head. Assumes nothing.
use mathlib.Core.Path.{◌≡◌, refl, sym, ap, ◌∙◌}
use mathlib.Core.Bool.{true, ◌&&◌}
use mathlib.Core.List.{List, [], ◌∷◌, flat_map}
use mathlib.Core.Option.{none}
use Prim.Native.Nat.{ℕ, ◌+◌, ◌*◌, ◌/◌, ◌<◌, ◌≤◌}
use native.Mathlib.Omega.{arith}
use lib.IntN.{ℤ, pos, negsuc, nat_abs}
use lib.ListN.{length, length-append}
use lib.Seq.{paste}
use Rattle.tables.specs.Tables.{filled}
use Rattle.tables.proofs.Writes.{pushed}
use Rattle.curves.specs.Curves.{point, coordinate}
use Rattle.curves.proofs.Runs.{and_left, and_right, coordinate-pos}
use Rattle.map.specs.declared.Head.{Head}
use Rattle.map.specs.declared.Variant.{Variant}
use Rattle.map.specs.declared.Variant.TheVariants.{New, Mod}
use Rattle.map.specs.Limits.{limit_of, node_width, edge_width, face_width}
use Rattle.map.specs.Rows.{Node, Map, map_of, lent_with, rectangle, sizes_of, node_cells, edge_cells, head_of, counts, lent}
use Rattle.map.specs.Ticket.{carried}
use Rattle.map.specs.Edits.{split}
use Rattle.map.proofs.RoundTrip.{nodes_wide}
use Rattle.map_rows.specs.Rows.{nodes_of, edges_of, faces_in, edge_at}
use Rattle.map_rows.proofs.Rows.{nodes_length, edges_length, faces_length, edges_get_d, edge-row_of, edge_number_in}
use Rattle.head.specs.Heads.{changed_head}
use Rattle.head.proofs.Heads.{head_changed}
use Rattle.outcomes.specs.Outcomes.{Formed}
use Rattle.outcomes.proofs.Formed.{node-next, counted, nodes_filled, edges_filled, faces_filled, edge_rows_lem}
use Rattle.outcomes.proofs.Formed.{edges_are_wide, edge_numbers_once, lent_is}
use Rattle.outcomes.specs.Variants.{split_ticket, own_or_next}
use Rattle.edit_split.specs.Cuts.{cut_row, end_number, split_numbers}
use Rattle.edit_split.proofs.Cut.{cut-map, split_count}

-- the numbers of a node where edges end
node_cells_are : (k : ℕ) (number x y : ℤ) → coordinate x && coordinate y ≡ true → number ≡ pos k
    → node_cells (record { number = k; at = point x y; face = none }) ≡ number ∷ x ∷ y ∷ negsuc 0 ∷ []
unfolding node_cells
node_cells_are k number x y e en =
    λ i. sym en i ∷ sym (coordinate-pos x (and_left (coordinate x) (coordinate y) e)) i
    ∷ sym (coordinate-pos y (and_right (coordinate x) (coordinate y) e)) i ∷ negsuc 0 ∷ []

carried_is : (how : Variant) (z x y : ℤ) (q : Map) → carried q (split_ticket how z x y)
    ≡ (split how (nat_abs z) (point x y) q, pos q.next.nodes)
unfolding carried
carried_is New z x y q = refl
carried_is Mod z x y q = refl

module _ {nodes edges faces : List ℤ} {h : Head} (f : Formed nodes edges faces h) (how : Variant) (i : ℕ)
    (t : i < nat_abs h.edges) (x y : ℤ) (range : coordinate x && coordinate y ≡ true)
    (node_room : nat_abs h.nodes + 1 ≤ length nodes / node_width)
    (edge-room : nat_abs h.edges + 1 ≤ length edges / edge_width) where
  own : ℕ
  own = (edge_at edges i).number

  m : Map
  m = map_of (lent nodes edges faces h)

  after : Map
  after = split how own (point x y) m

  -- the edges' table after it, and the nodes'
  abbrev edges_cut : List ℤ
  edges_cut = cut_row edges (nat_abs h.edges) i h.next_node (point x y) how
      (pos (own_or_next h how (edge_at edges i).number)) (pos (end_number h how))

  abbrev nodes_more : List ℤ
  nodes_more = paste nodes (nat_abs h.nodes * node_width) (h.next_node ∷ x ∷ y ∷ negsuc 0 ∷ []) node_width

  -- the rows of the edges, and how many
  rows-after : (edges_cut ≡ filled (length edges / edge_width * edge_width) (flat_map edge_cells after.edges))
      × (length after.edges ≡ nat_abs h.edges + 1)
  unfolding map_of own m after
  rows-after =
      let n = nat_abs h.edges in
      let N = length edges / edge_width * edge_width in
      let xs = edges_of edges n in
      let a = own_or_next h how own in
      let b = end_number h how in
      let row = edge-row_of (edge_rows_lem f) i t in
      let at = edges_get_d edges n i (edge_at edges i) t in
      let least = (edge_number_in (edge_rows_lem f) i t).0 in (
        ap (λ (u : ℤ). cut_row edges n i u (point x y) how (pos a) (pos b)) (node-next f).0
            ∙ cut-map edges N n xs (edges_filled f) (edges_are_wide f) (edges_length edges n) (edge_numbers_once f)
            (omega arith) i t row at least (nat_abs h.next_node) a b (point x y) m refl how refl refl refl,
        split_count edges N n xs (edges_filled f) (edges_are_wide f) (edges_length edges n) (edge_numbers_once f)
            (omega arith) i t row at least (nat_abs h.next_node) a b (point x y) m refl how refl refl refl,
      )

  nodes_after : filled (length nodes / node_width * node_width) (flat_map node_cells after.nodes) ≡ nodes_more
  unfolding map_of split own m after
  nodes_after =
      let n = nat_abs h.nodes in
      let xs = nodes_of nodes n in
      let r : Node = record { number = nat_abs h.next_node; at = point x y; face = none } in
      let long = nodes_length nodes n in
      let cells = node_cells_are (nat_abs h.next_node) h.next_node x y range (node-next f).0 in
      sym (pushed node_width node_cells (length nodes / node_width * node_width) xs r (nodes_wide xs)
      (nodes_wide (r ∷ [])).0 (rw long (omega arith)))
      ∙ rw (nodes_filled f, long, cells)

  faces_after : faces_in (length faces / face_width * face_width) (rectangle m.edges) after.faces ≡ faces
  unfolding map_of split own m after
  faces_after = faces_filled f

  head_is : head_of (limit_of h.points) after ≡ changed_head h (counts 1 1 0) (counts 0 0 0) (split_numbers how)
  unfolding map_of split own m after
  head_is =
      head_changed h after (counts 1 1 0) (counts 0 0 0) (split_numbers how) (counted f).recorded
      (omega (
        arith,
        length-append (nodes_of nodes (nat_abs h.nodes))
            (record { number = nat_abs h.next_node; at = point x y; face = none } ∷ []),
        nodes_length nodes (nat_abs h.nodes),
      )) (omega (arith, rows-after.1))
      (omega (arith, faces_length faces (nat_abs h.faces))) refl refl refl

  number_is : pos m.next.nodes ≡ h.next_node
  unfolding map_of m
  number_is = sym (node-next f).0

  pub split-lent : {nodes' edges' : List ℤ} → nodes' ≡ nodes_more → edges' ≡ edges_cut
      → (lent_with (rectangle (map_of (lent nodes edges faces h)).edges) (sizes_of (lent nodes edges faces h))
      (carried (map_of (lent nodes edges faces h)) (split_ticket how (pos (edge_at edges i).number) x y)).0
      ≡ lent nodes' edges' faces (changed_head h (counts 1 1 0) (counts 0 0 0) (split_numbers how)))
      × ((carried (map_of (lent nodes edges faces h)) (split_ticket how (pos (edge_at edges i).number) x y)).1
      ≡ h.next_node)
  unfolding own m after
  split-lent en ee =
      let c = carried_is how (pos own) x y m in
      let s = sizes_of (lent nodes edges faces h) in (
        ap (λ (q : Map × ℤ). lent_with (rectangle m.edges) s q.0) c
            ∙ lent_is (rectangle m.edges) s after (nodes_after ∙ sym en) (sym rows-after.0 ∙ sym ee) faces_after
            head_is,
        ap (λ (q : Map × ℤ). q.1) c ∙ number_is,
      )
