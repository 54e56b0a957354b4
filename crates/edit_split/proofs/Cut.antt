-- Row i cut in the table is the edge split in the map: the edges of the split, with zeros behind. Assumes nothing.
use mathlib.Core.Path.{◌≡◌, refl, sym, ap, ap₂, ◌∙◌, subst}
use mathlib.Core.Bool.{cond}
use mathlib.Core.List.{List, [], ◌∷◌, ◌++◌, map, flat_map, append_assoc, map-map}
use Prim.Native.Nat.{ℕ, suc, ◌+◌, ◌*◌, ◌-◌, ◌<◌, ◌≤◌}
use native.Mathlib.Omega.{arith}
use lib.Dec.{lit<}
use lib.IntN.{ℤ, pos, neg_ℤ}
use lib.ListN.{length, get_or, set, take, drop, length-map, length-set, length-append, length-drop, get_or-map}
use lib.Seq.{paste, length-take-le}
use Rattle.lists.specs.Tests.{same}
use Rattle.lists.specs.Members.{Distinct}
use Rattle.lists.proofs.Appends.{each_append}
use Rattle.plane.specs.declared.Point.{Point}
use Rattle.curves.specs.Curves.{points}
use Rattle.curves.specs.Edits.{front, back}
use Rattle.planar_maps.specs.Map.{Dart, fwd, bwd}
use Rattle.curve_edits.specs.Lines.{line_of}
use Rattle.map.specs.declared.Variant.{Variant}
use Rattle.map.specs.declared.Variant.TheVariants.{New, Mod}
use Rattle.map.specs.Limits.{edge_width}
use Rattle.map.specs.Rows.{Edge, Map, edge, dart_cell, edge_cells, at_edge, without_edge}
use Rattle.tables.specs.Tables.{closed, filled}
use Rattle.map.specs.Links.{redirect}
use Rattle.map.specs.Edits.{is_mod, start_half, end_half, split}
use Rattle.map_rows.specs.Rows.{edge_at, EdgeRow}
use Rattle.tables.proofs.Numbers.{without_at, changed_at_lem}
use Rattle.tables.proofs.Writes.{pushed, replaced_at, removed_at, wide-set}
use Rattle.tables.proofs.Filled.{Wide}
use Rattle.map.proofs.RoundTrip.{edge-wide}
use Rattle.darts.proofs.Positions.{dart_even, dart_odd}
use Rattle.links.specs.Linking.{redirected}
use Rattle.links.proofs.Filled.{renamed_row, renamed-wide, redirected-filled}
use Rattle.map_rows.specs.Cells.{cells_of}
use Rattle.map_rows.proofs.Cells.{row_cells_lem}
use Rattle.map.proofs.Laws.{edge_is}
use Rattle.edit_split.specs.Cuts.{led_to_halves, start_incidence, end_incidence, start_half_written, cut_row}
use Rattle.edit_split.proofs.Halves.{front_few, back_few}
use Rattle.edit_split.proofs.Rows.{found_at, wide_without, row_number}

-- row k written
abbrev written_at : List ℤ → ℕ → List ℤ → List ℤ
written_at t k r = paste t (k * edge_width) r edge_width

-- a table l of rows xs in form, row i of it, and the new numbers
module _ (l : List ℤ) (N n : ℕ) (xs : List Edge) (is : filled N (flat_map edge_cells xs) ≡ l)
    (wide : Wide edge_width edge_cells xs) (long : length xs ≡ n) (dis : Distinct (map (λ r. r.number) xs))
    (fits : n * edge_width + edge_width ≤ N) (i : ℕ) (t : i < n) (row : EdgeRow l i)
    (at : get_or xs i (edge_at l i) ≡ edge_at l i) (some : 1 ≤ (edge_at l i).number) (node a b : ℕ) (p : Point) where
  abbrev table_of : List Edge → List ℤ
  table_of es = filled N (flat_map edge_cells es)

  abbrev led : List ℤ
  led = led_to_halves l n i (pos a) (pos b)

  -- the edge's number
  abbrev own : ℕ
  own = (edge_at l i).number

  -- a row with the links that led to the edge
  abbrev rename : Edge → Edge
  rename x = renamed_row (bwd own) (bwd b) (renamed_row (fwd own) (fwd a) x)

  abbrev ys : List Edge
  ys = map (renamed_row (bwd own) (bwd b)) (map (renamed_row (fwd own) (fwd a)) xs)

  -- row i
  abbrev y : Edge
  y = rename (edge_at l i)

  ys_wide : Wide edge_width edge_cells ys
  ys_wide = renamed-wide (bwd own) (bwd b) (map (renamed_row (fwd own) (fwd a)) xs)
      (renamed-wide (fwd own) (fwd a) xs wide)

  ys_long : length ys ≡ n
  ys_long = length-map (map (renamed_row (fwd own) (fwd a)) xs) (renamed_row (bwd own) (bwd b))
      ∙ length-map xs (renamed_row (fwd own) (fwd a)) ∙ long

  row_in : i < length ys
  row_in = omega (arith, ys_long)

  ys_are : ys ≡ map rename xs
  ys_are = map-map (renamed_row (bwd own) (bwd b)) (renamed_row (fwd own) (fwd a)) xs

  here : get_or ys i y ≡ y
  here = ap (λ (r : List Edge). get_or r i y) ys_are ∙ get_or-map rename xs i (edge_at l i) ∙ ap rename at

  ys_once : Distinct (map (λ r. r.number) ys)
  ys_once = subst Distinct (sym (ap (map (λ r. r.number)) ys_are ∙ map-map (λ r. r.number) rename xs)) dis

  table_is : led ≡ table_of ys
  table_is =
      let mid = redirected-filled (fwd own) (fwd a) some N n xs wide long in
      let end = redirected-filled (bwd own) (bwd b) some N n (map (renamed_row (fwd own) (fwd a)) xs)
      (renamed-wide (fwd own) (fwd a) xs wide) (length-map xs (renamed_row (fwd own) (fwd a)) ∙ long) in
      ap₂ (λ (c d : Dart). redirected (dart_cell d) (neg_ℤ (pos b)) (redirected (dart_cell c) (pos a) l n) n)
      (dart_even l i) (dart_odd l i)
      ∙ ap (λ (r : List ℤ). redirected (dart_cell (bwd own)) (neg_ℤ (pos b))
      (redirected (dart_cell (fwd own)) (pos a) r n) n) (sym is)
      ∙ ap (λ (r : List ℤ). redirected (dart_cell (bwd own)) (neg_ℤ (pos b)) r n) mid ∙ end

  -- number k of row i there
  cell_is : (k : ℕ) → k < edge_width → get_or led (i * edge_width + k) (pos 0) ≡ get_or (edge_cells y) k (pos 0)
  cell_is k h = ap (λ (r : List ℤ). get_or r (i * edge_width + k) (pos 0)) table_is
      ∙ row_number edge_width edge_cells ys _ ys_wide i y row_in k h
      ∙ ap (λ (r : Edge). get_or (edge_cells r) k (pos 0)) here

  first : Edge
  first = start_half y node a b p

  second : Edge
  second = end_half y node a b p

  first_wide : length (edge_cells first) ≡ edge_width
  unfolding first
  first_wide = edge-wide first (front_few row p)

  second_wide : length (edge_cells second) ≡ edge_width
  unfolding second
  second_wide = edge-wide second (back_few row p)

  first_cells : cells_of (start_incidence led i (pos node) (pos a) (pos b))
      (line_of (points (front p (edge_at l i).curve))) ≡ edge_cells first
  unfolding first edge_cells
  first_cells = row_cells_lem (start_incidence led i (pos node) (pos a) (pos b)) first refl
      (cell_is 1 (lit< tt)) refl refl (cell_is 4 (lit< tt)) (cell_is 5 (lit< tt)) (cell_is 6 (lit< tt))
      (front_few row p)

  second_cells : cells_of (end_incidence led i (pos node) (pos a) (pos b))
      (line_of (points (back p (edge_at l i).curve))) ≡ edge_cells second
  unfolding second edge_cells
  second_cells = row_cells_lem (end_incidence led i (pos node) (pos a) (pos b)) second refl refl
      (cell_is 2 (lit< tt)) (cell_is 3 (lit< tt)) refl (cell_is 5 (lit< tt)) (cell_is 6 (lit< tt)) (back_few row p)

  -- ---- the rows after it

  kept : List Edge
  kept = map (λ r. cond (same r.number own) first r) ys ++ second ∷ []

  new : List Edge
  new = without_edge own ys ++ first ∷ second ∷ []

  kept_is : map (λ r. cond (same r.number own) first r) ys ≡ set ys i first
  kept_is = rw here at (changed_at_lem (λ (r : Edge). r.number) (λ r. first) ys ys_once i y row_in)

  new_is : without_edge own ys ≡ take i ys ++ drop (suc i) ys
  new_is = rw here at (without_at (λ (r : Edge). r.number) ys ys_once i y row_in)

  new_long : length (take i ys ++ drop (suc i) ys) ≡ n - 1
  new_long = length-append (take i ys) (drop (suc i) ys)
      ∙ rw (length-take-le i ys (omega (arith, row_in)), length-drop (suc i) ys, ys_long) (omega arith)

  in_place : written_at (written_at (table_of ys) i (edge_cells first)) n (edge_cells second) ≡ table_of kept
  unfolding kept
  in_place =
      let zs = set ys i first in
      let zl : length zs ≡ n = length-set ys i first ∙ ys_long in
      ap (λ (r : List ℤ). written_at r n (edge_cells second))
      (replaced_at edge_width edge_cells N ys i y ys_wide row_in first first_wide)
      ∙ ap (λ (k : ℕ). written_at (table_of zs) k (edge_cells second)) (sym zl)
      ∙ pushed edge_width edge_cells N zs second (wide-set edge_width edge_cells ys i first ys_wide first_wide) second_wide
      (rw zl fits)
      ∙ ap (λ (r : List Edge). table_of (r ++ second ∷ [])) (sym kept_is)

  at_end_lem : written_at (written_at (closed edge_width (table_of ys) n i) (n - 1) (edge_cells first)) n (edge_cells second)
      ≡ table_of new
  unfolding new
  at_end_lem =
      let zs = take i ys ++ drop (suc i) ys in
      let zw = wide_without edge_width edge_cells ys i ys_wide in
      let us = zs ++ first ∷ [] in
      let ul : length us ≡ n = length-append zs (first ∷ []) ∙ omega (arith, new_long) in
      let gone : closed edge_width (table_of ys) n i ≡ table_of zs =
      ap (λ (k : ℕ). closed edge_width (table_of ys) k i) (sym ys_long)
      ∙ removed_at edge_width edge_cells N ys i y ys_wide row_in (rw ys_long (omega arith)) in
      let one : written_at (table_of zs) (n - 1) (edge_cells first) ≡ table_of us =
      ap (λ (k : ℕ). written_at (table_of zs) k (edge_cells first)) (sym new_long)
      ∙ pushed edge_width edge_cells N zs first zw first_wide (rw new_long (omega arith)) in
      ap (λ (r : List ℤ). written_at (written_at r (n - 1) (edge_cells first)) n (edge_cells second)) gone
      ∙ ap (λ (r : List ℤ). written_at r n (edge_cells second)) one
      ∙ ap (λ (k : ℕ). written_at (table_of us) k (edge_cells second)) (sym ul)
      ∙ pushed edge_width edge_cells N us second
      (each_append (λ e. length (edge_cells e) ≡ edge_width) zs (first ∷ []) zw (first_wide, tt)) second_wide (rw ul fits)
      ∙ ap table_of (append_assoc zs (first ∷ []) (second ∷ [])
      ∙ ap (λ (r : List Edge). r ++ first ∷ second ∷ []) (sym new_is))

  cut-rows : (how : Variant) → cut_row l n i (pos node) p how (pos a) (pos b)
      ≡ table_of (cond (is_mod how) kept new)
  cut-rows how =
      (λ j. written_at (start_half_written how (table_is j) n i (first_cells j)) n (second_cells j)) ∙ go how
    where
      go : (k : Variant) → written_at (start_half_written k (table_of ys) n i (edge_cells first)) n (edge_cells second)
          ≡ table_of (cond (is_mod k) kept new)
      go Mod = in_place
      go New = at_end_lem

  kept_long : length kept ≡ n + 1
  unfolding kept
  kept_long = length-append (map (λ r. cond (same r.number own) first r) ys) (second ∷ [])
      ∙ rw (length-map ys (λ (r : Edge). cond (same r.number own) first r), ys_long) refl

  new_length : length new ≡ n + 1
  unfolding new
  new_length = length-append (without_edge own ys) (first ∷ second ∷ []) ∙ rw (new_is, new_long) (omega arith)

  -- the map's edge of that number
  module _ (m : Map) (em : m.edges ≡ xs) where
    edge_here : edge (redirect (bwd own) (bwd b) (redirect (fwd own) (fwd a) m)) own ≡ y
    unfolding redirect
    edge_here =
        let found = rw here at (found_at (λ (r : Edge). r.number) ys ys_once i y row_in) in
        edge_is (redirect (bwd own) (bwd b) (redirect (fwd own) (fwd a) m)) own y (rw em found)

    -- the rows of a split, by the edge and the new numbers
    abbrev rows_of : Variant → ℕ → ℕ → ℕ → List Edge → Edge → List Edge
    rows_of how k c d es r =
        let zs = map (renamed_row (bwd own) (bwd d)) (map (renamed_row (fwd own) (fwd c)) es) in
        cond (is_mod how) (map (λ q. cond (same q.number own) (start_half r k c d p) q) zs ++ end_half r k c d p ∷ [])
        (without_edge own zs ++ start_half r k c d p ∷ end_half r k c d p ∷ [])

    module _ (how : Variant) (ea : a ≡ cond (is_mod how) own m.next.edges)
        (eb : b ≡ cond (is_mod how) m.next.edges (m.next.edges + 1)) (ek : node ≡ m.next.nodes) where
      split_rows_lem : (split how own p m).edges ≡ cond (is_mod how) kept new
      unfolding split at_edge redirect kept new first second
      split_rows_lem =
          (λ j. rows_of how (sym ek j) (sym ea j) (sym eb j) (em j)
          (edge (redirect (bwd own) (bwd (sym eb j)) (redirect (fwd own) (fwd (sym ea j)) m)) own))
          ∙ ap (rows_of how node a b xs) edge_here

      pub cut-map : cut_row l n i (pos node) p how (pos a) (pos b) ≡ table_of (split how own p m).edges
      cut-map = cut-rows how ∙ ap table_of (sym split_rows_lem)

      pub split_count : length (split how own p m).edges ≡ n + 1
      split_count = ap length split_rows_lem ∙ go how
        where
          go : (k : Variant) → length (cond (is_mod k) kept new) ≡ n + 1
          go Mod = kept_long
          go New = new_length
