-- An edge row cut in two, in the numbers of the table; the reasons of a split in parts, and its numbers.
use Rattle.std.specs.Prelude.{◌≡◌, true, cond, not, ◌&&◌, List, [], ◌∷◌, ℕ, ◌+◌, ◌*◌, ◌-◌, ◌≤◌, ◌<◌, ℤ, pos, neg_ℤ, nat_abs, length, get_or}
use Rattle.std.proofs.Math.Seq.{paste}
use Rattle.std.specs.Int.Signed.{non_neg}
use Rattle.plane.specs.declared.Point.{Point}
use Rattle.plane.specs.Points.{InRange}
use Rattle.curves.specs.Curves.{points, point, coordinate}
use Rattle.curves.specs.Tests.{on_curve}
use Rattle.curves.specs.Edits.{front, back}
use Rattle.curve_edits.specs.Lines.{line_of}
use Rattle.map.specs.declared.Counts.{Counts}
use Rattle.map.specs.declared.Head.{Head}
use Rattle.map.specs.declared.Variant.{Variant}
use Rattle.map.specs.Limits.{max_edges, edge_width}
use Rattle.map.specs.Rows.{dart_cell, counts}
use Rattle.map.specs.Edits.{is_mod}
use Rattle.map.specs.Reasons.{Reasons, outside, any_node_at}
use Rattle.tables.specs.Tables.{closed}
use Rattle.map_rows.specs.Rows.{EdgeRow, edge_at, nodes_of}
use Rattle.map_rows.specs.declared.Incidence.{Incidence}
use Rattle.map_rows.specs.Cells.{cells_of}
use Rattle.darts.specs.Positions.{dart_at}
use Rattle.links.specs.Linking.{redirected}
use Rattle.head.specs.Heads.{Counted}

-- ---- the table

-- what led to row i leads to the half a, and what led to its reverse to the reverse of b
abbrev pub led_to_halves : List ℤ → ℕ → ℕ → ℤ → ℤ → List ℤ
led_to_halves l n i a b = redirected (dart_cell (dart_at l (i * 2 + 1))) (neg_ℤ b)
    (redirected (dart_cell (dart_at l (i * 2))) a l n) n

-- the numbers of the half a from the start of row i to the new node, and of the half b from there to its end
abbrev pub start_incidence : List ℤ → ℕ → ℤ → ℤ → ℤ → Incidence
start_incidence t i node a b =
    record {
      number = a;
      start = get_or t (i * edge_width + 1) (pos 0);
      end = node;
      next_left = b;
      next_right = get_or t (i * edge_width + 4) (pos 0);
      left = get_or t (i * edge_width + 5) (pos 0);
      right = get_or t (i * edge_width + 6) (pos 0);
    }

abbrev pub end_incidence : List ℤ → ℕ → ℤ → ℤ → ℤ → Incidence
end_incidence t i node a b =
    record {
      number = b;
      start = node;
      end = get_or t (i * edge_width + 2) (pos 0);
      next_left = get_or t (i * edge_width + 3) (pos 0);
      next_right = neg_ℤ a;
      left = get_or t (i * edge_width + 5) (pos 0);
      right = get_or t (i * edge_width + 6) (pos 0);
    }

-- the row r in the place of row i, or last of the n after row i is gone
abbrev pub start_half_written : Variant → List ℤ → ℕ → ℕ → List ℤ → List ℤ
start_half_written how t n i r = cond (is_mod how) (paste t (i * edge_width) r edge_width)
    (paste (closed edge_width t n i) ((n - 1) * edge_width) r edge_width)

-- row i of n cut at p by the new node
abbrev pub cut_row : List ℤ → ℕ → ℕ → ℤ → Point → Variant → ℤ → ℤ → List ℤ
cut_row l n i node p how a b =
    let t = led_to_halves l n i a b in
    let c = (edge_at l i).curve in
    let first = cells_of (start_incidence t i node a b) (line_of (points (front p c))) in
    let second = cells_of (end_incidence t i node a b) (line_of (points (back p c))) in
    paste (start_half_written how t n i first) (n * edge_width) second edge_width

-- row i of n, a point in range and numbers for the halves, with room for a row more
pub record CuttableRow (edges : List ℤ) (n i : ℕ) (p : Point) (a b : ℤ) : Type 0 where
  pub row : EdgeRow edges i
  pub point : InRange p
  pub below : i < n
  pub few : n ≤ max_edges
  pub room : n * edge_width + edge_width ≤ length edges
  pub start_natural : non_neg a ≡ true
  pub end-natural : non_neg b ≡ true

-- the same by the head, of a point as it was sent
pub record CuttableEdge (edges : List ℤ) (h : Head) (i : ℕ) (x y : ℤ) : Type 0 where
  pub counted : Counted h
  pub row : EdgeRow edges i
  pub below : i < nat_abs h.edges
  pub room : nat_abs h.edges * edge_width + edge_width ≤ length edges
  pub point : coordinate x && coordinate y ≡ true

-- ---- the reasons

-- 5, 10 and 13, of the point and edge row i
abbrev pub point_reasons : List ℤ → ℕ → List ℤ → ℕ → ℤ → ℤ → Reasons
point_reasons nodes n edges i x y =
    (5, outside x y) ∷ (10, any_node_at (nodes_of nodes n) (point x y))
    ∷ (13, not (on_curve (edge_at edges i).curve (point x y))) ∷ []

-- ---- numbers

-- the numbers that are given: a node's, and one edge's or two
abbrev pub split_numbers : Variant → Counts
split_numbers how = counts 1 (cond (is_mod how) 1 2) 0

-- the number of the half at the end
abbrev pub end_number : Head → Variant → ℕ
end_number h how = cond (is_mod how) (nat_abs h.next_edge) (nat_abs h.next_edge + 1)
