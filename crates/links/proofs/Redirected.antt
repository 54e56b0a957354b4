-- Links changed in the table are links changed in the map: redirected, and stored. Assumes nothing.
use mathlib.Core.Path.{◌≡◌, sym, ap, ap₂, ◌∙◌}
use mathlib.Core.Logic.{◌⊎◌, inl, inr}
use mathlib.Core.Bool.{cond}
use mathlib.Core.List.{List, map}
use Prim.Native.Nat.{ℕ, ◌+◌, ◌*◌, ◌/◌, ◌<◌, ◌≤◌}
use native.Mathlib.Omega.{arith}
use lib.IntN.{ℤ}
use lib.ListN.{set}
use Rattle.lists.specs.Tests.{same}
use Rattle.lists.proofs.Bools.{equal?, same_eq, same_false}
use Rattle.lists.proofs.Scans.{table_same}
use Rattle.planar_maps.specs.Map.{Dart}
use Rattle.map.specs.Rows.{Edge, dart_of, dart_cell, set_edges, at_edge}
use Rattle.map.specs.Links.{with_links, instead, redirect, lead}
use Rattle.map_rows.specs.Rows.{edges_of, edge_at, edge_map, EdgeRows}
use Rattle.tables.proofs.Rows.{map-table}
use Rattle.map_rows.proofs.Rows.{edges_table}
use Rattle.darts.specs.Positions.{odd, dart_at, side_place, side_cell}
use Rattle.darts.proofs.Positions.{Even, Odd, side, cells_of_lem, number_injective, side_even, side_odd}
use Rattle.links.specs.Linking.{redirected}
use Rattle.links.proofs.Kept.{Relinked, redirected_relinked, redirected-link, stored_relinked, stored_here}
use Rattle.links.proofs.Kept.{stored_there, edge_relinked, number_kept}
use Rattle.links.proofs.Darts.{cell_dart, new_dart}

-- rows changed one by one
rows-changed : (l l' : List ℤ) (n : ℕ) (f : Edge → Edge) → ((i : ℕ) → i < n → edge_at l' i ≡ f (edge_at l i))
    → edges_of l' n ≡ map f (edges_of l n)
rows-changed l l' n f h =
    edges_table l' n ∙ table_same (edge_at l') (λ i. f (edge_at l i)) 0 n (λ i s t. h i (omega arith))
    ∙ sym (map-table f (edge_at l) 0 n) ∙ ap (map f) (sym (edges_table l n))

links_are : {a b c d : Dart} (e : Edge) → a ≡ b → c ≡ d → with_links a c e ≡ with_links b d e
links_are e f g = ap₂ (λ (x y : Dart). with_links x y e) f g

module _ {l l' : List ℤ} {n : ℕ} (t : EdgeRows l n) (r : Relinked l l' n) (i : ℕ) (h : i < n) where
  -- a row by its two links
  row_relinked : edge_at l' i ≡ with_links (dart_of (side_cell l' (i * 2) 3)) (dart_of (side_cell l' (i * 2 + 1) 3))
      (edge_at l i)
  row_relinked = edge_relinked r t.fits i h
      ∙ links_are (edge_at l i) (ap dart_of (sym (side_even l' i 3))) (ap dart_of (sym (side_odd l' i 3)))

  left_was : dart_of (side_cell l (i * 2) 3) ≡ (edge_at l i).next_left
  left_was = ap dart_of (side_even l i 3) ∙ (cells_of_lem t i h).next_left

  right_was : dart_of (side_cell l (i * 2 + 1) 3) ≡ (edge_at l i).next_right
  right_was = ap dart_of (side_odd l i 3) ∙ (cells_of_lem t i h).next_right

-- a position has its directed edge still
pub dart_kept : {l l' : List ℤ} {n : ℕ} → EdgeRows l n → Relinked l l' n → (p : ℕ) → p < n * 2 → dart_at l' p
    ≡ dart_at l p
dart_kept t r p h = ap (λ (k : ℕ). record { edge = k; back = odd p }) (number_kept r t.fits (p / 2) (omega arith))

module _ {l : List ℤ} {n : ℕ} (t : EdgeRows l n) where
  -- ---- what led to `old` leads to `new`

  module _ (old new : Dart) (h : 1 ≤ old.edge) (k : 1 ≤ new.edge) where
    pub redirected-map : edge_map (redirected (dart_cell old) (dart_cell new) l n) n ≡ redirect old new (edge_map l n)
    unfolding redirect
    redirected-map =
        let l' = redirected (dart_cell old) (dart_cell new) l n in
        let f : Edge → Edge = λ e. with_links (instead old new e.next_left) (instead old new e.next_right) e in
        let r = redirected_relinked (dart_cell old) (dart_cell new) l n in
        ap (λ (es : List Edge). set_edges es (edge_map l n)) (rows-changed l l' n f (λ i b.
        row_relinked t r i b ∙ links_are (edge_at l i)
        (ap dart_of (redirected-link (dart_cell old) (dart_cell new) l n t.fits (i * 2) (omega arith))
        ∙ new_dart old new (side_cell l (i * 2) 3) h k ∙ ap (instead old new) (left_was t r i b))
        (ap dart_of (redirected-link (dart_cell old) (dart_cell new) l n t.fits (i * 2 + 1) (omega arith))
        ∙ new_dart old new (side_cell l (i * 2 + 1) 3) h k ∙ ap (instead old new) (right_was t r i b))))

  -- ---- q leads to c

  module _ (q : ℕ) (b : q < n * 2) (c : Dart) (k : 1 ≤ c.edge) where
    stored : List ℤ
    stored = set l (side_place q 3) (dart_cell c)

    was : Relinked l stored n
    unfolding stored
    was = stored_relinked l n q (dart_cell c) b

    leading : Edge → Edge
    leading e = cond (same e.number (dart_at l q).edge)
        (cond (odd q) (with_links e.next_left c e) (with_links c e.next_right e)) e

    here : (p : ℕ) → p ≡ q → dart_of (side_cell stored p 3) ≡ c
    unfolding stored
    here p e = ap dart_of (ap (λ (j : ℕ). side_cell (set l (side_place q 3) (dart_cell c)) j 3) e
        ∙ stored_here l n q (dart_cell c) b t.fits) ∙ cell_dart c k

    there : (p : ℕ) → (p ≡ q → ⊥) → dart_of (side_cell stored p 3) ≡ dart_of (side_cell l p 3)
    unfolding stored
    there p d = ap dart_of (stored_there l n q (dart_cell c) b p d)

    row : (i : ℕ) → i < n → edge_at stored i ≡ leading (edge_at l i)
    unfolding leading
    row i h = row_relinked t was i h ∙ go (equal? i (q / 2)) (side q)
      where
        go : (i ≡ q / 2) ⊎ ((i ≡ q / 2) → ⊥) → Even q ⊎ Odd q
            → with_links (dart_of (side_cell stored (i * 2) 3)) (dart_of (side_cell stored (i * 2 + 1) 3)) (edge_at l i)
            ≡ cond (same (edge_at l i).number (dart_at l q).edge)
            (cond (odd q) (with_links (edge_at l i).next_left c (edge_at l i))
            (with_links c (edge_at l i).next_right (edge_at l i))) (edge_at l i)
        go (inl e) (inl s) =
            let f = s.rest in
            rw (same_eq (edge_at l i).number (dart_at l q).edge (ap (λ (j : ℕ). (edge_at l j).number) e), s.test)
            (links_are (edge_at l i) (here (i * 2) (omega arith))
            (there (i * 2 + 1) (λ x. omega arith) ∙ right_was t was i h))
        go (inl e) (inr s) =
            let f = s.rest in
            rw (same_eq (edge_at l i).number (dart_at l q).edge (ap (λ (j : ℕ). (edge_at l j).number) e), s.test)
            (links_are (edge_at l i) (there (i * 2) (λ x. omega arith) ∙ left_was t was i h)
            (here (i * 2 + 1) (omega arith)))
        go (inr d) s =
            rw (same_false (edge_at l i).number (dart_at l q).edge
            (λ e. d (number_injective t i (q / 2) h (omega arith) e)))
            (links_are (edge_at l i) (there (i * 2) (λ x. d (omega arith)) ∙ left_was t was i h)
            (there (i * 2 + 1) (λ x. d (omega arith)) ∙ right_was t was i h))

    pub stored_map : edge_map (set l (side_place q 3) (dart_cell c)) n ≡ lead (dart_at l q) c (edge_map l n)
    unfolding lead at_edge leading stored
    stored_map = ap (λ (es : List Edge). set_edges es (edge_map l n)) (rows-changed l stored n leading row)
