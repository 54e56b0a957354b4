-- Two edge rows healed into one, in the numbers of the table; the reasons of a heal in parts, and its numbers.
use Rattle.std.specs.Prelude.{◌≡◌, true, cond, ◌&&◌, List, [], ◌∷◌, ℕ, ◌+◌, ◌*◌, ◌-◌, ◌/◌, ◌≤◌, ◌<◌, ltb, ℤ, pos, neg_ℤ, nat_abs, length, get_or, Some}
use Rattle.std.proofs.Math.Option
use Rattle.std.proofs.Math.Seq.{paste}
use Rattle.std.specs.Int.Signed.{non_neg}
use Rattle.lists.specs.Scans.{is_some}
use Rattle.lists.specs.Tables.{place}
use Rattle.tables.specs.Tables.{same_z, column, closed}
use Rattle.curves.specs.Curves.{Curve, points, max_points}
use Rattle.curves.specs.Edits.{course, joined}
use Rattle.curve_edits.specs.declared.Line.{Line}
use Rattle.curve_edits.specs.Lines.{line_of}
use Rattle.map.specs.declared.Counts.{Counts}
use Rattle.map.specs.declared.Head.{Head}
use Rattle.map.specs.declared.Variant.{Variant}
use Rattle.map.specs.Limits.{max_edges, node_width, edge_width, most_points, limit_of}
use Rattle.map.specs.Rows.{dart_cell, counts}
use Rattle.map.specs.Edits.{is_new, is_mod, joint, parts}
use Rattle.map.specs.Reasons.{Reasons}
use Rattle.map_rows.specs.Rows.{edge_at, edge_map, NodeRows, EdgeRows}
use Rattle.lent_rows.specs.declared.Edges.{Edges}
use Rattle.lent_rows.specs.Lent.{drawn}
use Rattle.map_rows.specs.declared.Incidence.{Incidence}
use Rattle.map_rows.specs.Cells.{cells_of}
use Rattle.head.specs.Heads.{Counted, changed_head, spent_at}
use Rattle.darts.specs.Positions.{odd, reverse_of, dart_at, side_cell}
use Rattle.links.specs.Linking.{redirected}
use Rattle.outcomes.specs.declared.Carried.{Carried}
use Rattle.outcomes.specs.Variants.{own_or_next}
use Rattle.edit_heal.specs.declared.Parts.{Parts}

-- ---- the two directed edges that are joined

-- the position of the directed edge of row j that has the node at its end k, 1 where it leaves and 2 where it arrives
abbrev pub dart_with : List ℤ → ℕ → ℕ → ℤ → ℕ
dart_with l j k node = cond (same_z (get_or l (j * edge_width + k) (pos 0)) node) (j * 2) (j * 2 + 1)

abbrev pub dart_leaving : List ℤ → ℕ → ℤ → ℕ
dart_leaving l j node = dart_with l j 1 node

abbrev pub dart_arriving : List ℤ → ℕ → ℤ → ℕ
dart_arriving l j node = dart_with l j 2 node

-- rows i and j of those in use, with a joint
pub record JointRows (e : Edges) (i j : ℕ) : Type 0 where
  pub few : e.count ≤ max_edges
  pub first_row : i < e.count
  pub second_row : j < e.count
  pub joint : is_some (joint (drawn e) (edge_at e.rows.now i).number (edge_at e.rows.now j).number) ≡ true

-- s are the parts of the heal of rows i and j, and their joint
pub record PartsOf (l : List ℤ) (n i j : ℕ) (s : Parts) : Type 0 where
  pub first_below : s.first < n * 2
  pub second_below : s.second < n * 2
  pub first : dart_at l s.first ≡ (parts (edge_map l n) (edge_at l i).number (edge_at l j).number).0
  pub second : dart_at l s.second ≡ (parts (edge_map l n) (edge_at l i).number (edge_at l j).number).1
  pub joint : s.joint ≡ pos (Option.get_or (joint (edge_map l n) (edge_at l i).number (edge_at l j).number) 0)

-- the curve of the directed edge at a position, in its own direction
abbrev pub course_at : List ℤ → ℕ → Curve
course_at l p = course (odd p) (edge_at l (p / 2)).curve

-- that of p, and after it that of q
abbrev pub joined_line : List ℤ → ℕ → ℕ → Line
joined_line l p q = line_of (points (joined (course_at l p) (course_at l q)))

-- ---- the table

-- two directed edges by position, and a number for the healed one
pub record TwoDarts (l : List ℤ) (n p q : ℕ) (a : ℤ) : Type 0 where
  pub rows : EdgeRows l n
  pub few : n ≤ max_edges
  pub first : p < n * 2
  pub second : q < n * 2
  pub natural : non_neg a ≡ true

-- what led to p leads to the edge a, and what led to the reverse of q to its reverse
abbrev pub led_to_healed : List ℤ → ℕ → ℕ → ℕ → ℤ → List ℤ
led_to_healed l n p q a = redirected (dart_cell (dart_at l (reverse_of q))) (neg_ℤ a)
    (redirected (dart_cell (dart_at l p)) a l n) n

-- row i and the rows of two directed edges
pub record RowAndDarts (l : List ℤ) (i p q : ℕ) : Type 0 where
  pub row : i * edge_width + edge_width ≤ length l
  pub first_row : p / 2 * edge_width + edge_width ≤ length l
  pub second_row : q / 2 * edge_width + edge_width ≤ length l
  pub first : p < max_edges * 2
  pub second : q < max_edges * 2

-- the numbers of the edge a along p and q, with the faces of row i
abbrev pub healed_incidence : List ℤ → ℕ → ℕ → ℕ → ℤ → Incidence
healed_incidence t i p q a =
    record {
      number = a;
      start = side_cell t p 1;
      end = side_cell t (reverse_of q) 1;
      next_left = side_cell t q 3;
      next_right = side_cell t (reverse_of p) 3;
      left = get_or t (i * edge_width + 5) (pos 0);
      right = get_or t (i * edge_width + 6) (pos 0);
    }

-- the place of row i after row j is gone
abbrev pub closed_up : ℕ → ℕ → ℕ
closed_up i j = cond (ltb j i) (i - 1) i

-- rows i and j of n are two
pub record TwoRows (l : List ℤ) (n i j : ℕ) : Type 0 where
  pub first_row : i < n
  pub second_row : j < n
  pub apart : i ≡ j → ⊥
  pub room : n * edge_width ≤ length l

-- the row r in the place of row i, or last after row i is gone; row j is gone
abbrev pub healed_written : Variant → List ℤ → ℕ → ℕ → ℕ → List ℤ → List ℤ
healed_written how t n i j r =
    cond (is_mod how) (closed edge_width (paste t (i * edge_width) r edge_width) n j)
    (paste (closed edge_width (closed edge_width t n j) (n - 1) (closed_up i j)) ((n - 2) * edge_width) r edge_width)

-- two rows, two directed edges, and the points of the healed one
pub record HealableRows (l : List ℤ) (n i j p q : ℕ) (a : ℤ) (line : Line) : Type 0 where
  pub darts : TwoDarts l n p q a
  pub rows : TwoRows l n i j
  pub few_points : line.count ≤ max_points

-- rows i and j of n healed along p and q
abbrev pub healed_rows : List ℤ → ℕ → ℕ → ℕ → ℕ → ℕ → Variant → ℤ → Line → List ℤ
healed_rows l n i j p q how a line = let t = led_to_healed l n p q a in
    healed_written how t n i j (cells_of (healed_incidence t i p q a) line)

-- ---- the reasons

-- 18 and 21, of the number of points, the record and the next edge's number
abbrev pub late_reasons : ℕ → Head → Variant → Reasons
late_reasons count h how = (18, ltb (most_points (limit_of h.points)) count)
    ∷ (21, is_new how && spent_at h (counts 0 1 0)) ∷ []

-- ---- numbers

-- the value: the new number
abbrev pub healed_value : Head → Variant → ℤ
healed_value h how = cond (is_mod how) (pos 0) h.next_edge

-- the numbers that are given: an edge's, or none
abbrev pub heal_numbers : Variant → Counts
heal_numbers how = counts 0 (cond (is_mod how) 0 1) 0

-- ---- the tables

-- edge rows i and j, their parts and the points of the healed edge, with a node to remove
pub record HealableEdges (nodes edges : List ℤ) (h : Head) (i j : ℕ) (s : Parts) (line : Line) : Type 0 where
  pub counted : Counted h
  pub node_rows_lem : NodeRows nodes (nat_abs h.nodes)
  pub edge_rows_lem : EdgeRows edges (nat_abs h.edges)
  pub some_node : 1 ≤ nat_abs h.nodes
  pub first_row : i < nat_abs h.edges
  pub second_row : j < nat_abs h.edges
  pub apart : i ≡ j → ⊥
  pub first : s.first < nat_abs h.edges * 2
  pub second : s.second < nat_abs h.edges * 2
  pub few_points : line.count ≤ max_points

-- they are healed, the joint's row is gone, and so the head and the answer
pub record HealedTables (nodes edges : List ℤ) (h : Head) (how : Variant) (i j : ℕ) (s : Parts) (line : Line)
    (nodes' edges' : List ℤ) (d : Carried) : Type 0 where
  pub edges_after : edges' ≡ healed_rows edges (nat_abs h.edges) i j s.first s.second how
      (pos (own_or_next h how (edge_at edges i).number)) line
  pub nodes_after : (k : ℕ) → place (same_z s.joint) 0 (column node_width nodes (nat_abs h.nodes)) ≡ Some k
      → nodes' ≡ closed node_width nodes (nat_abs h.nodes) k
  pub answered : d ≡ record {
    head = changed_head h (counts 0 0 0) (counts 1 1 0) (heal_numbers how);
    value = healed_value h how;
  }
