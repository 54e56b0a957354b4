-- Positions and the map: departures of a node by position are those of the map, and so is the first one met clockwise.
-- Assumes nothing.
use Rattle.std.specs.Prelude.{Some, None}
use mathlib.Core.Path.{◌≡◌, sym, ap, ◌∙◌}
use mathlib.Core.List.{List, [], ◌∷◌, map, Memᴰ}
use Prim.Native.Nat.{ℕ, ◌*◌, ◌<◌}
use native.Mathlib.Omega.{arith}
use lib.IntN.{ℤ, pos}
use lib.ListN.{length, length-map}
use Rattle.lists.specs.Tests.{same}
use Rattle.lists.specs.Scans.{keep, count_of}
use Rattle.lists.proofs.Counts.{count_keep}
use Rattle.lists.proofs.Keeps.{keep-map}
use Rattle.plane.specs.Directions.{Way}
use Rattle.planar_maps.specs.Map.{Dart}
use Rattle.rotation.specs.Law.{first_clockwise}
use Rattle.rotation.proofs.Rename.{first_map}
use Rattle.map.specs.Darts.{directed, leaves, departures, edge_ends, way}
use Rattle.tables.specs.Tables.{same_z}
use Rattle.map_rows.specs.Rows.{edge_map, EdgeRows}
use Rattle.tables.proofs.Rows.{map-table}
use Rattle.tables.proofs.Order.{same-pos}
use Rattle.darts.specs.Positions.{dart_at, way_at}
use Rattle.darts.proofs.Positions.{directed-table, cell-leaves, way_is}
use Rattle.links.specs.Linking.{positions, leaves_node, first_met}
use Rattle.links.proofs.FirstMet.{first_any, met_at, met_none, position_below}

module _ {l : List ℤ} {n : ℕ} (t : EdgeRows l n) where
  pub directed-map : directed (edge_map l n) ≡ map (dart_at l) (positions n)
  directed-map = directed-table l n ∙ sym (map-table (dart_at l) (λ p. p) 0 (n * 2))

  pub leaves_is : (k p : ℕ) → p < n * 2 → same (leaves (edge_map l n) (dart_at l p)) k ≡ leaves_node l (pos k) p
  leaves_is k p h = sym (ap (λ (z : ℤ). same_z z (pos k)) (cell-leaves t p h)
      ∙ same-pos (leaves (edge_map l n) (dart_at l p)) k)

  pub departures-map : (k : ℕ) → departures (edge_map l n) k ≡ map (dart_at l) (keep (leaves_node l (pos k)) (positions n))
  unfolding departures
  departures-map k =
      ap (keep (λ d. same (leaves (edge_map l n) d) k)) directed-map
      ∙ keep-map (dart_at l) (leaves_node l (pos k)) (λ d. same (leaves (edge_map l n) d) k) (positions n)
      (λ p m. leaves_is k p (position_below n p m))

  pub ends_count : (k : ℕ) → edge_ends (edge_map l n) k ≡ count_of (leaves_node l (pos k)) (positions n)
  ends_count k = ap length (departures-map k) ∙ length-map (keep (leaves_node l (pos k)) (positions n)) (dart_at l)
      ∙ sym (count_keep (leaves_node l (pos k)) (positions n))

  -- ---- the first one met

  module _ (ds : List ℕ) (below : (p : ℕ) → Memᴰ p ds → p < n * 2) (v : Way) where
    ways : (p : ℕ) → Memᴰ p ds → way (edge_map l n) (dart_at l p) ≡ way_at l p
    ways p m = way_is t p (below p m)

    pub met_found : (q : ℕ) → first_met (way_at l) v ds ≡ Some q → (u : Dart)
        → first_clockwise (way (edge_map l n)) v u (map (dart_at l) ds) ≡ dart_at l q
    met_found q e u = go ds ways e
      where
        go : (ds : List ℕ) → ((p : ℕ) → Memᴰ p ds → way (edge_map l n) (dart_at l p) ≡ way_at l p)
            → first_met (way_at l) v ds ≡ Some q → first_clockwise (way (edge_map l n)) v u (map (dart_at l) ds) ≡ dart_at l q
        go [] w e = let z : ◌≡◌ {A = ℕ} 0 1 = cc in absurd (omega arith)
        go (d ∷ ds) w e = first_any (way (edge_map l n)) v (dart_at l d) (map (dart_at l) ds) u (dart_at l d)
            ∙ first_map (dart_at l) (way_at l) (way (edge_map l n)) v d (d ∷ ds) w
            ∙ ap (dart_at l) (met_at (way_at l) v (d ∷ ds) q e d)

    pub met_nothing : first_met (way_at l) v ds ≡ None → map (dart_at l) ds ≡ []
    met_nothing e = ap (map (dart_at l)) (met_none (way_at l) v ds e)
