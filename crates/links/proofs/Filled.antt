-- Links redirected in a table with zeros behind are links redirected in its rows. Assumes nothing.
use mathlib.Core.Path.{◌≡◌, refl}
use mathlib.Core.Logic.{inl, inr}
use mathlib.Core.List.{List, map, map-map, flat_map}
use Prim.Native.Nat.{ℕ, ◌≤◌}
use lib.Dec.{lit<}
use lib.ListN.{length, length-map}
use Rattle.lists.proofs.Bools.{which}
use Rattle.planar_maps.specs.Map.{Dart}
use Rattle.planar_maps.specs.Rings.{same_dart}
use Rattle.map.specs.Limits.{edge_width}
use Rattle.map.specs.Rows.{Edge, dart_cell, edge_cells}
use Rattle.tables.specs.Tables.{replace_at, filled}
use Rattle.map.specs.Links.{with_links, instead}
use Rattle.tables.proofs.Writes.{wide-map, column_swept}
use Rattle.tables.proofs.Filled.{Wide}
use Rattle.links.specs.Linking.{redirected}
use Rattle.links.proofs.Darts.{cell_same}

-- a row's links with `new` for `old`
abbrev pub renamed_row : Dart → Dart → Edge → Edge
renamed_row old new e = with_links (instead old new e.next_left) (instead old new e.next_right) e

links_wide : (l r : Edge → Dart) (xs : List Edge) → Wide edge_width edge_cells xs
    → Wide edge_width edge_cells (map (λ x. with_links (l x) (r x) x) xs)
unfolding edge_cells
links_wide l r xs k = wide-map edge_width edge_cells (λ x. with_links (l x) (r x) x) (λ x e. e) xs k

module _ (old new : Dart) where
  pub renamed-wide : (xs : List Edge) → Wide edge_width edge_cells xs
      → Wide edge_width edge_cells (map (renamed_row old new) xs)
  renamed-wide = links_wide (λ x. instead old new x.next_left) (λ x. instead old new x.next_right)

  module _ (h : 1 ≤ old.edge) where
    left_row : (x : Edge) → replace_at (dart_cell old) (dart_cell new) (edge_cells x) 3
        ≡ edge_cells (with_links (instead old new x.next_left) x.next_right x)
    unfolding edge_cells
    left_row x = rw (cell_same x.next_left old h)
        (elim (which (same_dart x.next_left old)) [ inl e ↦ rw e refl | inr e ↦ rw e refl ])

    right_row : (x : Edge) → replace_at (dart_cell old) (dart_cell new) (edge_cells x) 4
        ≡ edge_cells (with_links x.next_left (instead old new x.next_right) x)
    unfolding edge_cells
    right_row x = rw (cell_same x.next_right old h)
        (elim (which (same_dart x.next_right old)) [ inl e ↦ rw e refl | inr e ↦ rw e refl ])

    pub redirected-filled : (N n : ℕ) (xs : List Edge) → Wide edge_width edge_cells xs → length xs ≡ n
        → redirected (dart_cell old) (dart_cell new) (filled N (flat_map edge_cells xs)) n
        ≡ filled N (flat_map edge_cells (map (renamed_row old new) xs))
    redirected-filled N n xs k e =
        let f : Edge → Edge = λ x. with_links (instead old new x.next_left) x.next_right x in
        let g : Edge → Edge = λ x. with_links x.next_left (instead old new x.next_right) x in
        let first = column_swept edge_width edge_cells (dart_cell old) (dart_cell new) 3 f (lit< tt) left_row N xs k in
        let second = column_swept edge_width edge_cells (dart_cell old) (dart_cell new) 4 g (lit< tt) right_row N
        (map f xs) (links_wide (λ x. instead old new x.next_left) (λ x. x.next_right) xs k) in
        rw (← e, first) (rw (length-map xs f, map-map g f xs) at second)
