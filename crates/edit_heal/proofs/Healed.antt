-- What is lent after two edges are healed: the tables of the map that the definition gives. Assumes nothing.
use Rattle.std.specs.Prelude.{Some}
use mathlib.Core.Path.{◌≡◌, refl, sym, ap, ap₂, ◌∙◌, subst}
use mathlib.Core.Logic.{inl, inr, ⊎_elim}
use mathlib.Core.Bool.{true, ◌&&◌, false≢true}
use mathlib.Core.List.{List, ◌++◌, map, flat_map}
use mathlib.Core.Option
use mathlib.Core.Option.{Option}
use Prim.Native.Nat.{ℕ, suc, ◌+◌, ◌*◌, ◌-◌, ◌/◌, ◌%◌, ◌≤◌, ◌<◌}
use native.Mathlib.Omega.{arith}
use lib.Dec.{lit<}
use lib.IntN.{ℤ, pos, neg_ℤ, nat_abs}
use lib.ListN.{length, get_or, take, drop, length-append, length-drop, get_or-map}
use lib.Seq.{length-take-le}
use Rattle.lists.specs.Scans.{is_some}
use Rattle.lists.specs.Tables.{place}
use Rattle.lists.specs.Members.{Distinct}
use Rattle.planar_maps.specs.Map.{Dart, fwd, bwd, rev}
use Rattle.tables.specs.Tables.{same_z, column, closed, filled}
use Rattle.tables.proofs.Writes.{removed_at}
use Rattle.tables.proofs.Filled.{Wide}
use Rattle.tables.proofs.Numbers.{without_at}
use Rattle.tables.proofs.Lookups.{which_place}
use Rattle.curves.specs.Curves.{Curve, points, max_points}
use Rattle.curves.specs.Edits.{joined}
use Rattle.curves.proofs.Runs.{and_left, and_right}
use Rattle.curve_edits.specs.Lines.{line_of}
use Rattle.map.specs.declared.Head.{Head}
use Rattle.map.specs.declared.Variant.{Variant}
use Rattle.map.specs.declared.Variant.TheVariants.{New, Mod}
use Rattle.map.specs.Limits.{node_width, edge_width}
use Rattle.map.specs.Rows.{Node, Edge, Map, map_of, lent_with, rectangle, sizes_of, node_cells, edge_cells, dart_cell, edge}
use Rattle.map.specs.Rows.{has_node, has_edge, has_face, given, at_edge, without_node, counts, lent}
use Rattle.map.specs.Darts.{leaves, arrives, next, course, departures}
use Rattle.map.specs.Links.{redirect, instead}
use Rattle.map.specs.Edits.{shared_nodes, joint, parts, healed_curve, heal}
use Rattle.map.specs.Ticket.{carried}
use Rattle.map.proofs.Laws.{names}
use Rattle.map.proofs.Redirects.{redirect_has, redirect-next}
use Rattle.map.proofs.RoundTrip.{nodes_wide, edge-wide}
use Rattle.map_rows.specs.Rows.{nodes_of, edges_of, node_at, edge_at, edge_map, EdgeRows}
use Rattle.map_rows.proofs.Rows.{nodes_length, edges_length, faces_length, nodes_get_d, edges_get_d, edge_member}
use Rattle.map_rows.proofs.Lookups.{node_missing}
use Rattle.map_rows.specs.Cells.{cells_of}
use Rattle.head.specs.Heads.{changed_head}
use Rattle.head.proofs.Heads.{head_changed}
use Rattle.darts.specs.Positions.{reverse_of, dart_at, side_place, side_cell}
use Rattle.darts.proofs.Positions.{cells_of_lem, edge_of, dart_reverse, reverse_below, cell-leaves, cell-arrives, cell-next}
use Rattle.links.specs.Linking.{redirected}
use Rattle.links.proofs.Kept.{Relinked, relinked_then, redirected_relinked, redirected-link, new_for}
use Rattle.links.proofs.Darts.{dart_least, dart_named}
use Rattle.outcomes.specs.Outcomes.{Formed}
use Rattle.outcomes.proofs.Formed.{ranges, formed-map, nodes_count, edges_count, edge-next, edges_size, edge_rows_lem}
use Rattle.outcomes.proofs.Formed.{node_numbers_once, edge_numbers_once, nodes_filled, edges_filled, faces_filled}
use Rattle.outcomes.proofs.Formed.{edges_are_wide, lent_is, counted}
use Rattle.outcomes.proofs.FoundRows.{node_in, node-number}
use Rattle.edit_heal.specs.declared.Parts.{Parts}
use Rattle.outcomes.specs.Variants.{heal_ticket, own_or_next}
use Rattle.edit_heal.specs.Heals.{PartsOf, course_at, joined_line, led_to_healed, healed_incidence, healed_rows}
use Rattle.edit_heal.specs.Heals.{healed_written, healed_value, heal_numbers}
use Rattle.edit_heal.proofs.Joints.{joint_is}
use Rattle.edit_heal.proofs.Redirected.{cell-instead, redirect-wide, redirect-numbers, redirect-length}
use Rattle.edit_heal.proofs.Redirected.{redirect-filled}
use Rattle.edit_heal.proofs.Written.{healed_edges, healed_table, healed_length}
use Rattle.map_rows.proofs.Cells as cells

-- ---- the map after the ticket

carried-map : (m : Map) (how : Variant) (a b : ℕ) → (carried m (heal_ticket how (pos a) (pos b))).0 ≡ heal how a b m
unfolding carried
carried-map m New a b = refl
carried-map m Mod a b = refl

-- ---- the curve

module _ {l : List ℤ} {n i j : ℕ} {s : Parts} (t : EdgeRows l n) (ps : PartsOf l n i j s) where
  course_at_lem : (p : ℕ) → p < n * 2 → course (edge_map l n) (dart_at l p) ≡ course_at l p
  unfolding course
  course_at_lem p h = rw (edge_of t (p / 2) (omega arith))

  pub curve_is : joined (course_at l s.first) (course_at l s.second)
      ≡ healed_curve (edge_map l n) (edge_at l i).number (edge_at l j).number
  unfolding healed_curve
  curve_is =
      ap₂ joined (sym (course_at_lem s.first ps.first_below) ∙ ap (course (edge_map l n)) ps.first)
      (sym (course_at_lem s.second ps.second_below) ∙ ap (course (edge_map l n)) ps.second)

  pub line_counted : (joined_line l s.first s.second).count
      ≡ length (points (healed_curve (edge_map l n) (edge_at l i).number (edge_at l j).number))
  line_counted = cells.line_count (points (joined (course_at l s.first) (course_at l s.second)))
      ∙ ap (λ (c : Curve). length (points c)) curve_is

module _ {nodes edges faces : List ℤ} {h : Head} (f : Formed nodes edges faces h) (i j : ℕ)
    (hi : i < nat_abs h.edges) (hj : j < nat_abs h.edges) (how : Variant)
    (s : Parts) (ps : PartsOf edges (nat_abs h.edges) i j s) where
  abbrev n : ℕ
  n = nat_abs h.edges

  abbrev m : Map
  m = edge_map edges n

  abbrev a : ℕ
  a = (edge_at edges i).number

  abbrev b : ℕ
  b = (edge_at edges j).number

  abbrev whole : Map
  whole = map_of (lent nodes edges faces h)

  -- ---- the links that lead there

  abbrev number : ℕ
  number = own_or_next h how a

  abbrev z : ℤ
  z = pos number

  abbrev c : Dart
  c = (parts m a b).0

  abbrev d : Dart
  d = (parts m a b).1

  abbrev m₁ : Map
  m₁ = redirect c (fwd number) m

  abbrev m₂ : Map
  m₂ = redirect (rev d) (bwd number) m₁

  c_least : 1 ≤ c.edge
  c_least = subst (λ (x : Dart). 1 ≤ x.edge) ps.first (dart_least (edge_rows_lem f) s.first ps.first_below)

  back_is : dart_at edges (reverse_of s.second) ≡ rev d
  back_is = dart_reverse edges s.second ∙ ap rev ps.second

  d_least : 1 ≤ (rev d).edge
  d_least = subst (λ (x : Dart). 1 ≤ x.edge) back_is
      (dart_least (edge_rows_lem f) (reverse_of s.second) (reverse_below n s.second ps.second_below))

  abbrev t : List ℤ
  t = led_to_healed edges n s.first s.second z

  abbrev N : ℕ
  N = length edges / edge_width * edge_width

  wide₁ : Wide edge_width edge_cells m₁.edges
  wide₁ = redirect-wide c (fwd number) c_least m (edges_are_wide f)

  wide₂ : Wide edge_width edge_cells m₂.edges
  wide₂ = redirect-wide (rev d) (bwd number) d_least m₁ wide₁

  long₁ : length m₁.edges ≡ n
  long₁ = redirect-length c (fwd number) c_least m ∙ edges_length edges n

  long₂ : length m₂.edges ≡ n
  long₂ = redirect-length (rev d) (bwd number) d_least m₁ ∙ long₁

  led_is : t ≡ filled N (flat_map edge_cells m₂.edges)
  led_is =
      (λ x. redirected (dart_cell (back_is x)) (neg_ℤ z)
      (redirected (dart_cell (ps.first x)) z (sym (edges_filled f) x) n) n)
      ∙ ap (λ (u : List ℤ). redirected (dart_cell (rev d)) (dart_cell (bwd number)) u n)
      (redirect-filled c (fwd number) c_least m N n (edges_are_wide f) (edges_length edges n))
      ∙ redirect-filled (rev d) (bwd number) d_least m₁ N n wide₁ long₁

  abbrev t₁ : List ℤ
  t₁ = redirected (dart_cell (dart_at edges s.first)) z edges n

  first_relinked : Relinked edges t₁ n
  first_relinked = redirected_relinked (dart_cell (dart_at edges s.first)) z edges n

  relinked : Relinked edges t n
  relinked = relinked_then first_relinked
      (redirected_relinked (dart_cell (dart_at edges (reverse_of s.second))) (neg_ℤ z) t₁ n)

  -- ---- the row that is written

  row : Edge
  row =
      record {
        number = number;
        start = leaves m c;
        end = arrives m d;
        next_left = next m₂ d;
        next_right = next m₂ (rev c);
        left = (edge m a).left;
        right = (edge m a).right;
        curve = healed_curve m a b;
      }

  node_kept : (p : ℕ) → p < n * 2 → side_cell t p 1 ≡ side_cell edges p 1
  node_kept p k =
      let e : side_place p 1 ≡ p / 2 * edge_width + (1 + p % 2) = omega arith in
      ap (λ (x : ℕ). get_or t x (pos 0)) e
      ∙ relinked.row (p / 2) (1 + p % 2) (omega arith) (omega arith) (λ q. omega arith) (λ q. omega arith)
      ∙ ap (λ (x : ℕ). get_or edges x (pos 0)) (sym e)

  link_kept : (p : ℕ) → p < n * 2 → side_cell t p 3 ≡ dart_cell (next m₂ (dart_at edges p))
  link_kept p k =
      let x = dart_at edges p in
      let has = dart_named (edge_rows_lem f) p k in
      redirected-link (dart_cell (dart_at edges (reverse_of s.second))) (neg_ℤ z) t₁ n
      (rw first_relinked.long (edge_rows_lem f).fits) p k
      ∙ ap (new_for (dart_cell (dart_at edges (reverse_of s.second))) (neg_ℤ z))
      (redirected-link (dart_cell (dart_at edges s.first)) z edges n (edge_rows_lem f).fits p k)
      ∙ (λ y. new_for (dart_cell (back_is y)) (neg_ℤ z)
      (new_for (dart_cell (ps.first y)) z (cell-next (edge_rows_lem f) p k y)))
      ∙ ap (new_for (dart_cell (rev d)) (dart_cell (bwd number))) (cell-instead c (fwd number) c_least (next m x))
      ∙ cell-instead (rev d) (bwd number) d_least (instead c (fwd number) (next m x))
      ∙ ap dart_cell (sym (redirect-next (rev d) (bwd number) m₁ x (redirect_has c (fwd number) m x.edge ∙ has)
      ∙ ap (instead (rev d) (bwd number)) (redirect-next c (fwd number) m x has)))

  module _ (few : length (points (healed_curve m a b)) ≤ max_points) where
    row_written : cells_of (healed_incidence t i s.first s.second z) (joined_line edges s.first s.second)
        ≡ edge_cells row
    unfolding row
    row_written =
        let rows = edge_rows_lem f in
        ap (λ (y : Curve). cells_of (healed_incidence t i s.first s.second z) (line_of (points y)))
        (curve_is rows ps)
        ∙ cells.row_cells_lem (healed_incidence t i s.first s.second z) row refl
        (node_kept s.first ps.first_below ∙ cell-leaves rows s.first ps.first_below
        ∙ ap (λ (x : Dart). pos (leaves m x)) ps.first)
        (node_kept (reverse_of s.second) (reverse_below n s.second ps.second_below)
        ∙ cell-arrives rows s.second ps.second_below ∙ ap (λ (x : Dart). pos (arrives m x)) ps.second)
        (link_kept s.second ps.second_below ∙ ap (λ (x : Dart). dart_cell (next m₂ x)) ps.second)
        (link_kept (reverse_of s.first) (reverse_below n s.first ps.first_below)
        ∙ ap (λ (x : Dart). dart_cell (next m₂ x)) (dart_reverse edges s.first ∙ ap rev ps.first))
        (relinked.row i 5 hi (lit< tt) (λ q. omega arith) (λ q. omega arith) ∙ (cells_of_lem rows i hi).left
        ∙ ap (λ (r : Edge). pos r.left) (sym (edge_of rows i hi)))
        (relinked.row i 6 hi (lit< tt) (λ q. omega arith) (λ q. omega arith) ∙ (cells_of_lem rows i hi).right
        ∙ ap (λ (r : Edge). pos r.right) (sym (edge_of rows i hi)))
        few

    row_wide : length (edge_cells row) ≡ edge_width
    unfolding row
    row_wide = edge-wide row few

    -- ---- the edges

    numbers : map (λ (e : Edge). e.number) m₂.edges ≡ map (λ (e : Edge). e.number) (edges_of edges n)
    numbers = redirect-numbers (rev d) (bwd number) d_least m₁ ∙ redirect-numbers c (fwd number) c_least m

    number_at : (k : ℕ) → k < n → (get_or m₂.edges k row).number ≡ (edge_at edges k).number
    number_at k e =
        sym (get_or-map (λ (r : Edge). r.number) m₂.edges k row)
        ∙ ap (λ (r : List ℕ). get_or r k row.number) numbers
        ∙ get_or-map (λ (r : Edge). r.number) (edges_of edges n) k row
        ∙ ap (λ (r : Edge). r.number) (edges_get_d edges n k row e)

    module _ (apart : i ≡ j → ⊥) where
      once : Distinct (map (λ (e : Edge). e.number) m₂.edges)
      once = subst Distinct (sym numbers) (edge_numbers_once f)

      kept : how ≡ Mod → row.number ≡ (get_or m₂.edges i row).number
      unfolding row
      kept e = ap (λ (k : Variant). own_or_next h k a) e ∙ sym (number_at i hi)

      fits : length m₂.edges * edge_width ≤ N
      fits = rw long₂ (omega (arith, (edges_count f).2, (edges_size f).0))

      edges_healed : healed_rows edges n i j s.first s.second how z (joined_line edges s.first s.second)
          ≡ filled N (flat_map edge_cells (healed_edges how a b row m₂.edges))
      edges_healed =
          (λ x. healed_written how (led_is x) (sym long₂ x) i j (row_written x))
          ∙ healed_table N m₂.edges wide₂ once i j (rw long₂ hi) (rw long₂ hj) apart row row row_wide fits how kept
          ∙ ap₂ (λ (x y : ℕ). filled N (flat_map edge_cells (healed_edges how x y row m₂.edges))) (number_at i hi)
          (number_at j hj)

      edges_fewer : length (healed_edges how a b row m₂.edges) ≡ n - 1
      edges_fewer =
          ap₂ (λ (x y : ℕ). length (healed_edges how x y row m₂.edges)) (sym (number_at i hi))
          (sym (number_at j hj))
          ∙ healed_length N m₂.edges wide₂ once i j (rw long₂ hi)
          (rw long₂ hj) apart row row row_wide fits how kept
          ∙ ap (λ (k : ℕ). k - 1) long₂

      -- ---- the nodes

      module _ (k : ℕ) (at : place (same_z s.joint) 0 (column node_width nodes (nat_abs h.nodes)) ≡ Some k) where
        abbrev node_count : ℕ
        node_count = nat_abs h.nodes

        abbrev joined-node : ℕ
        joined-node = Option.get_or (joint m a b) 0

        below : k < node_count
        below = node_in f s.joint k at

        is_joint : joined-node ≡ (node_at nodes k).number
        is_joint = ap nat_abs (sym ps.joint ∙ node-number f s.joint k at)

        in_nodes_lem : k < length (nodes_of nodes node_count)
        in_nodes_lem = rw (nodes_length nodes node_count) below

        fewer_nodes : without_node joined-node (nodes_of nodes node_count) ≡ take k (nodes_of nodes node_count)
            ++ drop (suc k) (nodes_of nodes node_count)
        fewer_nodes =
            let xs = nodes_of nodes node_count in
            ap (λ (x : ℕ). without_node x xs)
            (is_joint ∙ ap (λ (r : Node). r.number) (sym (nodes_get_d nodes node_count k (node_at nodes k) below)))
            ∙ without_at (λ (r : Node). r.number) xs (node_numbers_once f) k (node_at nodes k) in_nodes_lem

        nodes_healed : filled (length nodes / node_width * node_width)
            (flat_map node_cells (without_node joined-node (nodes_of nodes node_count))) ≡ closed node_width nodes node_count k
        nodes_healed =
            let xs = nodes_of nodes node_count in
            let size = length nodes / node_width * node_width in
            ap (λ (r : List Node). filled size (flat_map node_cells r)) fewer_nodes
            ∙ sym (removed_at node_width node_cells size xs k (node_at nodes k) (nodes_wide xs) in_nodes_lem
            (rw (nodes_length nodes node_count) (omega (arith, (nodes_count f).2))))
            ∙ ap₂ (λ (l : List ℤ) (x : ℕ). closed node_width l x k) (nodes_filled f) (nodes_length nodes node_count)

        nodes_fewer : length (without_node joined-node (nodes_of nodes node_count)) ≡ node_count - 1
        nodes_fewer =
            let xs = nodes_of nodes node_count in
            let long = nodes_length nodes node_count in
            ap length fewer_nodes ∙ length-append (take k xs) (drop (suc k) xs)
            ∙ rw (length-take-le k xs (rw long (omega (arith, below))), length-drop (suc k) xs, long)
            (omega (arith, below))

        -- ---- the map

        healed : Map
        healed =
            record {
              nodes = without_node joined-node whole.nodes;
              edges = healed_edges how a b row m₂.edges;
              faces = whole.faces;
              next = (given (heal_numbers how) whole).next;
            }

        heal_is : heal how a b whole ≡ healed
        unfolding heal healed row map_of healed_curve parts joint shared_nodes departures leaves next course edge redirect
            at_edge
        heal_is = refl

        healed_lent : lent_with (rectangle whole.edges) (sizes_of (lent nodes edges faces h)) healed
            ≡ lent (closed node_width nodes node_count k)
            (healed_rows edges n i j s.first s.second how z (joined_line edges s.first s.second)) faces
            (changed_head h (counts 0 0 0) (counts 1 1 0) (heal_numbers how))
        unfolding healed map_of
        healed_lent =
            lent_is (rectangle whole.edges) (sizes_of (lent nodes edges faces h)) healed nodes_healed
            (sym edges_healed) (faces_filled f)
            (head_changed h healed (counts 0 0 0) (counts 1 1 0) (heal_numbers how) (counted f).recorded
            (omega (arith, nodes_fewer, below)) (omega (arith, edges_fewer))
            (omega (arith, faces_length faces (nat_abs h.faces))) refl refl refl)

        -- the ticket carried out
        pub heal-carried : {l r : List ℤ} → l ≡ closed node_width nodes node_count k → r
            ≡ healed_rows edges n i j s.first s.second how z (joined_line edges s.first s.second)
            → lent_with (rectangle whole.edges) (sizes_of (lent nodes edges faces h))
            (carried whole (heal_ticket how (pos a) (pos b))).0
            ≡ lent l r faces (changed_head h (counts 0 0 0) (counts 1 1 0) (heal_numbers how))
        heal-carried el er =
            ap (lent_with (rectangle whole.edges) (sizes_of (lent nodes edges faces h))) (map-carried how ∙ heal_is)
            ∙ healed_lent
            ∙ ap₂ (λ (x y : List ℤ). lent x y faces (changed_head h (counts 0 0 0) (counts 1 1 0) (heal_numbers how)))
            (sym el) (sym er)
          where
            map-carried : (x : Variant) → (carried whole (heal_ticket x (pos a) (pos b))).0 ≡ heal x a b whole
            map-carried x = carried-map whole x a b

  -- ---- the joint has a row

  abbrev count : ℕ
  count = nat_abs h.nodes

  ends_named_lem : has_node whole (edge_at edges i).start && has_node whole (edge_at edges i).end ≡ true
  unfolding map_of
  ends_named_lem =
      let e = edge_at edges i in
      and_left _ (has_edge whole e.next_left.edge)
      (and_left _ (has_edge whole e.next_right.edge)
      (and_left _ (has_face whole e.left)
      (and_left _ (has_face whole e.right) (names whole (formed-map f) e (edge_member edges n i hi)))))

  module _ (some-joint : is_some (joint m a b) ≡ true) where
    joint-named : has_node whole (Option.get_or (joint m a b) 0) ≡ true
    joint-named =
        ⊎_elim
        (λ e. ap (λ (x : Option ℕ). has_node whole (Option.get_or x 0)) e
        ∙ and_right (has_node whole (edge_at edges i).start) (has_node whole (edge_at edges i).end) ends_named_lem)
        (λ e. ap (λ (x : Option ℕ). has_node whole (Option.get_or x 0)) e
        ∙ and_left (has_node whole (edge_at edges i).start) (has_node whole (edge_at edges i).end) ends_named_lem)
        (joint_is (edge_rows_lem f) i j hi hj some-joint)

    pub joint_row : (k : ℕ) × (place (same_z s.joint) 0 (column node_width nodes count) ≡ Some k)
    unfolding map_of
    joint_row =
        elim (which_place (place (same_z s.joint) 0 (column node_width nodes count))) [
          | inl q ↦ q
          | inr e ↦ absurd (false≢true (sym
              (ap is_some (node_missing nodes count (ranges f).node_rows_lem (Option.get_or (joint m a b) 0)
              (ap (λ (x : ℤ). place (same_z x) 0 (column node_width nodes count)) (sym ps.joint) ∙ e))) ∙ joint-named))
        ]

    pub some_node : 1 ≤ count
    some_node = let t = node_in f s.joint joint_row.0 joint_row.1 in omega arith

-- the value
pub value-carried : {nodes edges faces : List ℤ} {h : Head} → Formed nodes edges faces h → (how : Variant) (x y : ℤ)
    → (carried (map_of (lent nodes edges faces h)) (heal_ticket how x y)).1 ≡ healed_value h how
unfolding carried map_of
value-carried f Mod x y = refl
value-carried f New x y = sym (edge-next f).0
