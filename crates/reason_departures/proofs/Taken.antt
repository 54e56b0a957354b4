-- A direction that is taken at a node, by position and in the map. Assumes nothing.
use mathlib.Core.Path.{◌≡◌, sym, ap, ap₂, ◌∙◌}
use mathlib.Core.Logic.{⊎_elim}
use mathlib.Core.Bool.{Bool, not, ◌&&◌, ◌||◌}
use mathlib.Core.List.{List}
use Prim.Native.Nat.{ℕ, ◌*◌, ◌/◌, ◌<◌, ◌≤◌}
use native.Mathlib.Omega.{arith}
use lib.IntN.{ℤ, pos}
use Rattle.lists.specs.Tests.{same}
use Rattle.lists.specs.Scans.{any_of, keep}
use Rattle.lists.proofs.Bools.{eq3, same_false}
use Rattle.plane.specs.Directions.{Way, same_way}
use Rattle.curves.specs.Curves.{Curve, start_way, end_way}
use Rattle.planar_maps.specs.Map.{Dart}
use Rattle.map.specs.Darts.{departures, way}
use Rattle.map.specs.Reasons.{way_taken, direction_taken}
use Rattle.map_rows.specs.Rows.{edge_at, edge_map, EdgeRows}
use Rattle.tables.proofs.Order.{lt_or_ge}
use Rattle.darts.specs.Positions.{dart_at, way_at}
use Rattle.darts.proofs.Positions.{way_is}
use Rattle.links.specs.Linking.{positions, leaves_node}
use Rattle.links.proofs.FirstMet.{position_below}
use Rattle.links.proofs.Departures.{departures-map}
use Rattle.reason_departures.specs.Turning.{way_taken_at, direction_taken_at}
use Rattle.reason_departures.proofs.Scans.{any_map, any_keep, any_same}
use Rattle.reason_departures.proofs.Ends.{same_row}

-- e is the number of edge row `own`, and of none where `own` is past them all
pub record Own (l : List ℤ) (n own e : ℕ) : Type 0 where
  pub is : own < n → (edge_at l own).number ≡ e
  pub none : n ≤ own → (i : ℕ) → i < n → (edge_at l i).number ≡ e → ⊥

module _ {l : List ℤ} {n : ℕ} (t : EdgeRows l n) where
  own_row : (own e : ℕ) → Own l n own e → (i : ℕ) → i < n → same (edge_at l i).number e ≡ same i own
  own_row own e o i h =
      ⊎_elim (λ k. ap (same (edge_at l i).number) (sym (o.is k)) ∙ sym (same_row t i own h k))
      (λ k. same_false (edge_at l i).number e (λ q. o.none k i h q) ∙ sym (same_false i own (λ q. omega arith)))
      (lt_or_ge own n)

  -- a scan of the departures from a node, by position
  pub departures_any : (a : ℕ) (f : Dart → Bool) (g : ℕ → Bool) → ((p : ℕ) → p < n * 2 → f (dart_at l p) ≡ g p)
      → any_of f (departures (edge_map l n) a) ≡ any_of (λ p. leaves_node l (pos a) p && g p) (positions n)
  departures_any a f g h =
      ap (any_of f) (departures-map t a) ∙ any_map f (dart_at l) (keep (leaves_node l (pos a)) (positions n))
      ∙ any_keep (λ p. f (dart_at l p)) (leaves_node l (pos a)) (positions n)
      ∙ any_same (λ p. leaves_node l (pos a) p && f (dart_at l p)) (λ p. leaves_node l (pos a) p && g p) (positions n)
      (λ p m. ap (λ (b : Bool). leaves_node l (pos a) p && b) (h p (position_below n p m)))

  taken_is : (own e a : ℕ) (v : Way) → Own l n own e → way_taken_at l n own (pos a) v ≡ way_taken (edge_map l n) e a v
  taken_is own e a v o =
      any_same (λ p. leaves_node l (pos a) p && not (same (p / 2) own) && same_way (way_at l p) v)
      (λ p. leaves_node l (pos a) p && (not (same (p / 2) own) && same_way (way_at l p) v)) (positions n)
      (λ p m. eq3 (λ x y z. x && y && z) (λ x y z. x && (y && z)) tt (leaves_node l (pos a) p) (not (same (p / 2) own))
      (same_way (way_at l p) v))
      ∙ sym (departures_any a (λ d. not (same d.edge e) && same_way (way (edge_map l n) d) v)
      (λ p. not (same (p / 2) own) && same_way (way_at l p) v)
      (λ p h. ap₂ (λ (b : Bool) (w : Way). not b && same_way w v) (own_row own e o (p / 2) (omega arith))
      (way_is t p h)))

  -- both ends, by the numbers of the nodes and of the edge
  pub direction_is : (own e : ℕ) (c : Curve) {a b : ℕ} {u v : ℤ} → Own l n own e → u ≡ pos a → v ≡ pos b
      → direction_taken_at l n own u v c ≡ direction_taken (edge_map l n) e a b c
  unfolding direction_taken
  direction_is own e c {a} {b} o p q =
      ap₂ (λ (x y : ℤ). direction_taken_at l n own x y c) p q
      ∙ ap₂ ◌||◌ (taken_is own e a (start_way c) o) (taken_is own e b (end_way c) o)
