-- Directed edges by position: a position names one directed edge of the map, each of which has one, and the columns in
-- a row tell what the map says of it. Assumes nothing.
use Rattle.std.specs.Prelude.{Option, Some, None}
use mathlib.Core.Path.{◌≡◌, refl, sym, ap, ◌∙◌, subst}
use mathlib.Core.Bool.{Bool, true, false, not, ◌&&◌, ◌||◌, false≢true}
use mathlib.Core.Logic.{◌⊎◌, inl, inr}
use mathlib.Core.List.{List, map, Memᴰ}
use Prim.Native.Nat.{ℕ, zero, suc, ◌+◌, ◌*◌, ◌-◌, ◌/◌, ◌%◌, ◌<◌}
use native.Mathlib.Omega.{arith}
use lib.IntN.{ℤ, pos, negsuc, nat_abs, ◌-ℤ◌}
use lib.Dec.{ltb}
use lib.ListN.{get_or}
use lib.Signed.{lt_z}
use borrow.Author.Tests.{ltb-true, ltb-false}
use mir.Syntax.{w64}
use mir.Val.{SFits}
use Rattle.lists.specs.Scans.{all_of, is_some}
use Rattle.lists.specs.Tables.{table, place}
use Rattle.lists.proofs.Bools.{which, same_true, same_eq, same_false, differ, not-true}
use Rattle.lists.proofs.Scans.{place_at, place_none, table_in}
use Rattle.curves.proofs.Runs.{and_left, and_right}
use Rattle.planar_maps.specs.Map.{Dart, fwd, bwd, rev, darts}
use Rattle.planar_maps.specs.Rings.{same_dart}
use Rattle.planar_maps.proofs.Rings.{same_dart_refl, same_dart-true, dart_is}
use Rattle.map.specs.Limits.{edge_width, last_number}
use Rattle.map.specs.Rows.{Edge, edge, has_edge, dart_of, dart_cell}
use Rattle.map.specs.Darts.{directed, leaves, arrives, next, bears, course, way}
use Rattle.map.proofs.RoundTrip.{dart_cell-back}
use Rattle.tables.specs.Tables.{same_z, column}
use Rattle.map_rows.specs.Rows.{edge_at, edge_map, EdgeRows}
use Rattle.tables.proofs.Rows.{all_table}
use Rattle.map_rows.proofs.Rows.{edges_table, EdgeCells, edge_cells_lem, edge-row_of, edge_rows_rising, edge_number_in}
use Rattle.tables.proofs.Lookups.{which_place, row_place}
use Rattle.map_rows.proofs.Lookups.{edge_found, edge_missing}
use Rattle.darts.proofs.Steps.{negative_is}
use Rattle.darts.specs.Positions.{odd, reverse_of, dart_at, side_place, side_cell, way_at}

-- ---- positions

-- an even position is an edge, an odd one its reverse
pub record Even (p : ℕ) : Type 0 where
  pub test : odd p ≡ false
  pub rest : p % 2 ≡ 0

pub record Odd (p : ℕ) : Type 0 where
  pub test : odd p ≡ true
  pub rest : p % 2 ≡ 1

pub side : (p : ℕ) → Even p ⊎ Odd p
side p = elim (which (odd p)) [
  | inl e ↦ inr (record { test = e; rest = same_true (p % 2) 1 e })
  | inr e ↦ inl
      (record { test = e; rest = let d = differ (p % 2) 1 e in omega arith })
]

pub even_of : (p : ℕ) → p % 2 ≡ 0 → Even p
even_of p e = record { test = same_false (p % 2) 1 (λ q. omega arith); rest = e }

pub odd_of : (p : ℕ) → p % 2 ≡ 1 → Odd p
odd_of p e = record { test = same_eq (p % 2) 1 e; rest = e }

pub reverse_even : {p : ℕ} → Even p → reverse_of p ≡ p + 1
reverse_even e = rw e.test

pub reverse-odd : {p : ℕ} → Odd p → reverse_of p ≡ p - 1
reverse-odd e = rw e.test

-- a column of both in row i
module _ (l : List ℤ) (i k : ℕ) where
  pub side_even : side_cell l (i * 2) k ≡ get_or l (i * edge_width + k) (pos 0)
  side_even = let e : side_place (i * 2) k ≡ i * edge_width + k = omega arith in ap (λ (j : ℕ). get_or l j (pos 0)) e

  pub side_odd : side_cell l (i * 2 + 1) k ≡ get_or l (i * edge_width + (k + 1)) (pos 0)
  side_odd = let e : side_place (i * 2 + 1) k ≡ i * edge_width + (k + 1) = omega arith in
      ap (λ (j : ℕ). get_or l j (pos 0)) e

module _ (l : List ℤ) where
  pub dart_even : (i : ℕ) → dart_at l (i * 2) ≡ fwd (edge_at l i).number
  dart_even i =
      let e : i * 2 / 2 ≡ i = omega arith in
      dart_is (ap (λ (k : ℕ). (edge_at l k).number) e) (even_of (i * 2) (omega arith)).test

  pub dart_odd : (i : ℕ) → dart_at l (i * 2 + 1) ≡ bwd (edge_at l i).number
  dart_odd i =
      let e : (i * 2 + 1) / 2 ≡ i = omega arith in
      dart_is (ap (λ (k : ℕ). (edge_at l k).number) e) (odd_of (i * 2 + 1) (omega arith)).test

  -- the position of the reverse
  pub dart_reverse : (p : ℕ) → dart_at l (reverse_of p) ≡ rev (dart_at l p)
  dart_reverse p =
      elim (side p) [
        | inl e ↦
            let h : (p + 1) / 2 ≡ p / 2 = let r = e.rest in omega arith in
            let o = odd_of (p + 1) (let r = e.rest in omega arith) in
            ap (dart_at l) (reverse_even e)
            ∙ dart_is (ap (λ (k : ℕ). (edge_at l k).number) h) (o.test ∙ ap not (sym e.test))
        | inr e ↦
            let h : (p - 1) / 2 ≡ p / 2 = let r = e.rest in omega arith in
            let o = even_of (p - 1) (let r = e.rest in omega arith) in
            ap (dart_at l) (reverse-odd e)
            ∙ dart_is (ap (λ (k : ℕ). (edge_at l k).number) h) (o.test ∙ ap not (sym e.test))
      ]

  darts-from : (n a : ℕ) → darts (map (λ e. record { num = e.number; from = e.start; to = e.end })
      (table (edge_at l) a n)) ≡ table (dart_at l) (a * 2) (n * 2)
  darts-from zero a = refl
  darts-from (suc n) a =
      let e : suc n * 2 ≡ suc (suc (n * 2)) = omega arith in
      let f : (a + 1) * 2 ≡ a * 2 + 1 + 1 = omega arith in
      rw (e, dart_even a, dart_odd a, ← f, darts-from n (a + 1))

  -- the order of positions is that of the map
  pub directed-table : (n : ℕ) → directed (edge_map l n) ≡ table (dart_at l) 0 (n * 2)
  directed-table n = ap (λ (es : List Edge). darts
      (map (λ e. record { num = e.number; from = e.start; to = e.end }) es)) (edges_table l n) ∙ darts-from n 0

pub reverse_below : (n p : ℕ) → p < n * 2 → reverse_of p < n * 2
reverse_below n p h =
    elim (side p) [
      | inl e ↦ rw (reverse_even e) (let r = e.rest in omega arith)
      | inr e ↦ rw (reverse-odd e)
          (omega arith)
    ]

pub half_below : (n p : ℕ) → p < n * 2 → p / 2 < n
half_below n p h = omega arith

-- ---- a table of edges whose numbers rise

module _ {l : List ℤ} {n : ℕ} (t : EdgeRows l n) where
  pub cells_of_lem : (i : ℕ) → i < n → EdgeCells l i
  cells_of_lem i h = edge_cells_lem l i (edge-row_of t i h).ranges

  -- the row of an edge's number
  row_of : (i : ℕ) → i < n → place (same_z (pos (edge_at l i).number)) 0 (column edge_width l n) ≡ Some i
  row_of i h = ap (λ (z : ℤ). place (same_z z) 0 (column edge_width l n)) (sym (cells_of_lem i h).number)
      ∙ row_place edge_width l n (edge_rows_rising t) i h

  pub number_injective : (i j : ℕ) → i < n → j < n → (edge_at l i).number ≡ (edge_at l j).number → i ≡ j
  number_injective i j h k e =
      let f : Some i ≡ Some j = sym (row_of i h) ∙ ap (λ (m : ℕ). place (same_z (pos m)) 0 (column edge_width l n)) e
      ∙ row_of j k in
      cc

  pub edge_of : (i : ℕ) → i < n → edge (edge_map l n) (edge_at l i).number ≡ edge_at l i
  unfolding edge
  edge_of i h = rw (edge_found l n t.ranges (pos (edge_at l i).number) i (row_of i h)).2

  -- no two positions have one directed edge
  pub dart_injective : (p q : ℕ) → p < n * 2 → q < n * 2 → dart_at l p ≡ dart_at l q → p ≡ q
  dart_injective p q h k e =
      let f : p / 2 ≡ q / 2 = number_injective (p / 2) (q / 2) (omega arith) (omega arith)
      (ap (λ (d : Dart). d.edge) e) in
      let g : odd p ≡ odd q = ap (λ (d : Dart). d.back) e in
      elim (side p) [
        | inl a ↦ let r = a.rest in let s = differ (q % 2) 1 (sym g ∙ a.test) in omega arith
        | inr a ↦ let r = a.rest in let s = same_true (q % 2) 1 (sym g ∙ a.test) in omega arith
      ]

  -- the place of a directed edge in the map's order is its position
  pub position_is : (p : ℕ) → p < n * 2 → place (λ c. same_dart c (dart_at l p)) 0 (directed (edge_map l n)) ≡ Some p
  position_is p h =
      ap (place (λ c. same_dart c (dart_at l p)) 0) (directed-table l n)
      ∙ place_at (dart_at l) (λ c. same_dart c (dart_at l p)) (n * 2) p h
      (λ k s. not-true (same_dart (dart_at l k) (dart_at l p))
      (λ e. let q = dart_injective k p (omega arith) h (same_dart-true (dart_at l k) (dart_at l p) e) in omega arith))
      (same_dart_refl (dart_at l p))

  found_at : (d : Dart) (p : ℕ) → p < n * 2 → dart_at l p ≡ d → place (λ c. same_dart c d) 0 (directed (edge_map l n))
      ≡ Some p
  found_at d p h e = subst (λ (x : Dart). place (λ c. same_dart c x) 0 (directed (edge_map l n)) ≡ Some p) e
      (position_is p h)

  -- one that has no position is missing
  pub position_none : (d : Dart) → ((p : ℕ) → p < n * 2 → dart_at l p ≡ d → ⊥)
      → place (λ c. same_dart c d) 0 (directed (edge_map l n)) ≡ None
  position_none d never =
      ap (place (λ c. same_dart c d) 0) (directed-table l n)
      ∙ place_none (dart_at l) (λ c. same_dart c d) (n * 2)
      (λ k s. not-true (same_dart (dart_at l k) d) (λ e. never k s (same_dart-true (dart_at l k) d e)))

  -- the row of an edge that exists
  pub row_there : (e : ℕ) → has_edge (edge_map l n) e ≡ true → (i : ℕ) × (i < n) × ((edge_at l i).number ≡ e)
  row_there e h =
      elim (which_place (place (same_z (pos e)) 0 (column edge_width l n))) [
        | inl (i, q) ↦ let r = edge_found l n t.ranges (pos e) i q in (i, r.0, sym (ap nat_abs r.1))
        | inr q ↦ absurd (false≢true (sym (ap is_some (edge_missing l n t.ranges e q)) ∙ h))
      ]

  -- each directed edge whose edge exists has a position
  pub position_there : (d : Dart) → has_edge (edge_map l n) d.edge ≡ true → (p : ℕ) × (p < n * 2) × (dart_at l p ≡ d)
  position_there d h = let r = row_there d.edge h in at d.back refl r.0 r.1 r.2
    where
      at : (b : Bool) → d.back ≡ b → (i : ℕ) → i < n → (edge_at l i).number ≡ d.edge → (p : ℕ) × (p < n * 2)
          × (dart_at l p ≡ d)
      at false q i s e = (i * 2, omega arith, dart_even l i ∙ dart_is e (sym q))
      at true q i s e = (i * 2 + 1, omega arith, dart_odd l i ∙ dart_is e (sym q))

  -- each directed edge of the map has one
  pub position_in : (d : Dart) → Memᴰ d (directed (edge_map l n)) → (p : ℕ) × (p < n * 2) × (dart_at l p ≡ d)
  position_in d m = let r = table_in (dart_at l) 0 (n * 2)
      (subst (λ (r : List Dart). Memᴰ d r) (directed-table l n) m) in let h = r.2 in (r.0, omega arith, r.3)

  -- ---- what the columns say

  module _ (p : ℕ) (h : p < n * 2) where
    row : EdgeCells l (p / 2)
    row = cells_of_lem (p / 2) (omega arith)

    own : edge (edge_map l n) (dart_at l p).edge ≡ edge_at l (p / 2)
    own = edge_of (p / 2) (omega arith)

    cell_even : Even p → (k : ℕ) → side_cell l p k ≡ get_or l (p / 2 * edge_width + k) (pos 0)
    cell_even e k = let r = e.rest in let s : side_place p k ≡ p / 2 * edge_width + k = omega arith in rw s

    cell-odd : Odd p → (k : ℕ) → side_cell l p k ≡ get_or l (p / 2 * edge_width + (k + 1)) (pos 0)
    cell-odd e k = let r = e.rest in let s : side_place p k ≡ p / 2 * edge_width + (k + 1) = omega arith in rw s

    pub cell-leaves : side_cell l p 1 ≡ pos (leaves (edge_map l n) (dart_at l p))
    unfolding leaves
    cell-leaves =
        elim (side p) [
          | inl e ↦ cell_even e 1 ∙ row.start ∙ rw (own, e.test) refl
          | inr e ↦ cell-odd e 1 ∙ row.end ∙ rw (own, e.test) refl
        ]

    -- what follows, as it is read
    pub link_is : dart_of (side_cell l p 3) ≡ next (edge_map l n) (dart_at l p)
    unfolding next
    link_is =
        elim (side p) [
          | inl e ↦ ap dart_of (cell_even e 3) ∙ row.next_left ∙ rw (own, e.test) refl
          | inr e ↦ ap dart_of (cell-odd e 3) ∙ row.next_right ∙ rw (own, e.test) refl
        ]

    pub cell-next : side_cell l p 3 ≡ dart_cell (next (edge_map l n) (dart_at l p))
    cell-next = sym (dart_cell-back (side_cell l p 3)) ∙ ap dart_cell link_is

    pub cell-bears : side_cell l p 5 ≡ pos (bears (edge_map l n) (dart_at l p))
    unfolding bears
    cell-bears =
        elim (side p) [
          | inl e ↦ cell_even e 5 ∙ row.left ∙ rw (own, e.test) refl
          | inr e ↦ cell-odd e 5 ∙ row.right ∙ rw (own, e.test) refl
        ]

    pub way_is : way (edge_map l n) (dart_at l p) ≡ way_at l p
    unfolding way course
    way_is = rw own

    -- what follows is a directed edge of the map
    pub next-named : has_edge (edge_map l n) (next (edge_map l n) (dart_at l p)).edge ≡ true
    unfolding next
    next-named =
        let test : Edge → Bool = λ e. has_edge (edge_map l n) e.next_left.edge
        && has_edge (edge_map l n) e.next_right.edge in
        let both = all_table test (edge_at l) n (ap (all_of test) (sym (edges_table l n)) ∙ t.named) (p / 2)
        (omega arith) in
        let a = has_edge (edge_map l n) (edge_at l (p / 2)).next_left.edge in
        let b = has_edge (edge_map l n) (edge_at l (p / 2)).next_right.edge in
        elim (side p) [ inl e ↦ rw (own, e.test) (and_left a b both) | inr e ↦ rw (own, e.test) (and_right a b both) ]

    pub next_there : (q : ℕ) × (q < n * 2) × (dart_at l q ≡ next (edge_map l n) (dart_at l p))
    next_there = position_there (next (edge_map l n) (dart_at l p)) next-named

  -- the place that its number is found at
  pub next_place : (p : ℕ) (h : p < n * 2) (r : Option ℕ) → r
      ≡ place (λ c. same_dart c (dart_of (side_cell l p 3))) 0 (directed (edge_map l n)) → r ≡ Some (next_there p h).0
  next_place p h r e =
      let q = next_there p h in
      e ∙ ap (λ (d : Dart). place (λ c. same_dart c d) 0 (directed (edge_map l n))) (link_is p h)
      ∙ found_at (next (edge_map l n) (dart_at l p)) q.0 q.1 q.2

  -- the node where it arrives is the one that its reverse leaves
  pub cell-arrives : (p : ℕ) → p < n * 2 → side_cell l (reverse_of p) 1 ≡ pos (arrives (edge_map l n) (dart_at l p))
  cell-arrives p h = cell-leaves (reverse_of p) (reverse_below n p h)
      ∙ ap (λ (d : Dart). pos (leaves (edge_map l n) d)) (dart_reverse l p)

  -- ---- a directed edge looked up

  pub forward_found : (m i : ℕ) → place (same_z (pos m)) 0 (column edge_width l n) ≡ Some i → (i < n)
      × (place (λ c. same_dart c (fwd m)) 0 (directed (edge_map l n)) ≡ Some (i * 2))
  forward_found m i e =
      let r = edge_found l n t.ranges (pos m) i e in
      let h = r.0 in
      (h, found_at (fwd m) (i * 2) (omega arith) (dart_even l i ∙ ap fwd (sym (ap nat_abs r.1))))

  pub back_found : (m i : ℕ) → place (same_z (pos m)) 0 (column edge_width l n) ≡ Some i → (i < n)
      × (place (λ c. same_dart c (bwd m)) 0 (directed (edge_map l n)) ≡ Some (i * 2 + 1))
  back_found m i e =
      let r = edge_found l n t.ranges (pos m) i e in
      let h = r.0 in
      (h, found_at (bwd m) (i * 2 + 1) (omega arith) (dart_odd l i ∙ ap bwd (sym (ap nat_abs r.1))))

  -- where the edge is missing
  pub edge_none : (d : Dart) → place (same_z (pos d.edge)) 0 (column edge_width l n) ≡ None
      → place (λ c. same_dart c d) 0 (directed (edge_map l n)) ≡ None
  edge_none d e =
      position_none d (λ p h q.
      let k : Some (p / 2) ≡ None = sym (row_of (p / 2) (omega arith))
      ∙ ap (λ (x : Dart). place (same_z (pos x.edge)) 0 (column edge_width l n)) q ∙ e in
      let z : ◌≡◌ {A = ℕ} 0 1 = cc in
      omega arith)

  -- where it is past the last number
  pub past_none : (d : Dart) → last_number < d.edge → place (λ c. same_dart c d) 0 (directed (edge_map l n)) ≡ None
  past_none d far =
      position_none d (λ p h q.
      let k = (edge_number_in t (p / 2) (omega arith)).1 in
      let e : (edge_at l (p / 2)).number ≡ d.edge = ap (λ (x : Dart). x.edge) q in
      omega arith)

-- ---- the tests of a written directed edge

not_below : (m : ℕ) → ltb m 0 ≡ true → ⊥
not_below m h = let k = ltb-true m 0 h in omega arith

one : (a : Bool) → a || false ≡ true → a ≡ true
one true e = e
one false e = e

-- it lies outside the numbers
abbrev pub far : ℤ → Bool
far z = lt_z z (negsuc 999998) || lt_z (pos 999999) z

module _ {l : List ℤ} {n : ℕ} (t : EdgeRows l n) where
  pub far_none : (z : ℤ) → far z ≡ true → place (λ c. same_dart c (dart_of z)) 0 (directed (edge_map l n)) ≡ None
  far_none (pos m) h = past_none t (fwd m) (ltb-true 999999 m h)
  far_none (negsuc m) h = past_none t (bwd (suc m)) (let k = ltb-true 999998 m (one (ltb 999998 m) h) in omega arith)

  pub negative_found : (z u : ℤ) (i : ℕ) → lt_z z (pos 0) ≡ true → u ≡ pos 0 -ℤ z
      → place (same_z u) 0 (column edge_width l n) ≡ Some i → (i < n)
      × (place (λ c. same_dart c (dart_of z)) 0 (directed (edge_map l n)) ≡ Some (i * 2 + 1))
  negative_found (pos m) u i h e f = absurd (not_below m h)
  negative_found (negsuc m) u i h e f =
      back_found t (suc m) i (ap (λ (v : ℤ). place (same_z v) 0 (column edge_width l n))
      (sym (e ∙ negative_is (negsuc m))) ∙ f)

  pub negative_missing : (z u : ℤ) → lt_z z (pos 0) ≡ true → u ≡ pos 0 -ℤ z → place (same_z u) 0 (column edge_width l n)
      ≡ None → place (λ c. same_dart c (dart_of z)) 0 (directed (edge_map l n)) ≡ None
  negative_missing (pos m) u h e f = absurd (not_below m h)
  negative_missing (negsuc m) u h e f =
      edge_none t (bwd (suc m)) (ap (λ (v : ℤ). place (same_z v) 0 (column edge_width l n))
      (sym (e ∙ negative_is (negsuc m))) ∙ f)

  pub positive_found : (z u : ℤ) (i : ℕ) → lt_z z (pos 0) ≡ false → u ≡ z → place (same_z u) 0 (column edge_width l n)
      ≡ Some i → (i < n) × (place (λ c. same_dart c (dart_of z)) 0 (directed (edge_map l n)) ≡ Some (i * 2))
  positive_found (pos m) u i h e f = forward_found t m i
      (ap (λ (v : ℤ). place (same_z v) 0 (column edge_width l n)) (sym e) ∙ f)
  positive_found (negsuc m) u i h e f = absurd (false≢true (sym h))

  pub positive_missing : (z u : ℤ) → lt_z z (pos 0) ≡ false → u ≡ z → place (same_z u) 0 (column edge_width l n) ≡ None
      → place (λ c. same_dart c (dart_of z)) 0 (directed (edge_map l n)) ≡ None
  positive_missing (pos m) u h e f = edge_none t (fwd m)
      (ap (λ (v : ℤ). place (same_z v) 0 (column edge_width l n)) (sym e) ∙ f)
  positive_missing (negsuc m) u h e f = absurd (false≢true (sym h))

-- the negative of one that is not far fits
pub near_fits : (z : ℤ) → far z ≡ false → lt_z z (pos 0) ≡ true → SFits w64 (pos 0 -ℤ z)
near_fits (pos m) h k = absurd (not_below m k)
near_fits (negsuc m) h k = rw (negative_is (negsuc m))
    (record { sfits = let f = ltb-false 999998 m (or_left (ltb 999998 m) h) in omega arith })
  where
    or_left : (a : Bool) → a || false ≡ false → a ≡ false
    or_left true e = e
    or_left false e = e
