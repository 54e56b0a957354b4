-- Links redirected in a table that is written row by row are links redirected in the map. Assumes nothing.
use mathlib.Core.Path.{◌≡◌, refl, ap, ◌∙◌}
use mathlib.Core.Bool.{Bool, true, false, cond}
use mathlib.Core.List.{map, flat_map, map-map}
use Prim.Native.Nat.{ℕ, ◌≤◌}
use lib.ListN.{length, length-map}
use Rattle.planar_maps.specs.Map.{Dart}
use Rattle.planar_maps.specs.Rings.{same_dart}
use Rattle.map.specs.Limits.{edge_width}
use Rattle.map.specs.Rows.{Edge, Map, edge_cells, dart_cell}
use Rattle.tables.specs.Tables.{filled}
use Rattle.map.specs.Links.{instead, redirect}
use Rattle.tables.proofs.Filled.{Wide}
use Rattle.links.specs.Linking.{redirected}
use Rattle.links.proofs.Kept.{new_for}
use Rattle.links.proofs.Darts.{cell_same}
use Rattle.links.proofs.Filled.{renamed_row, renamed-wide, redirected-filled}

-- ---- directed edges as they are written

module _ (old new : Dart) (h : 1 ≤ old.edge) where
  pub cell-instead : (x : Dart) → new_for (dart_cell old) (dart_cell new) (dart_cell x) ≡ dart_cell (instead old new x)
  cell-instead x = ap (λ (b : Bool). cond b (dart_cell new) (dart_cell x)) (cell_same x old h) ∙ go (same_dart x old)
    where
      go : (b : Bool) → cond b (dart_cell new) (dart_cell x) ≡ dart_cell (cond b new x)
      go true = refl
      go false = refl

  module _ (m : Map) where
    pub redirect-wide : Wide edge_width edge_cells m.edges → Wide edge_width edge_cells (redirect old new m).edges
    unfolding redirect
    redirect-wide w = renamed-wide old new m.edges w

    pub redirect-numbers : map (λ (e : Edge). e.number) (redirect old new m).edges
        ≡ map (λ (e : Edge). e.number) m.edges
    unfolding redirect
    redirect-numbers = map-map (λ (e : Edge). e.number) (renamed_row old new) m.edges

    pub redirect-length : length (redirect old new m).edges ≡ length m.edges
    unfolding redirect
    redirect-length = length-map m.edges (renamed_row old new)

    -- the table of a map with its links redirected
    pub redirect-filled : (N n : ℕ) → Wide edge_width edge_cells m.edges → length m.edges ≡ n
        → redirected (dart_cell old) (dart_cell new) (filled N (flat_map edge_cells m.edges)) n
        ≡ filled N (flat_map edge_cells (redirect old new m).edges)
    unfolding redirect
    redirect-filled N n = redirected-filled old new h N n m.edges
