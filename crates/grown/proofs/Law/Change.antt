-- Kinds 1, 2, 3 and 6: isolated nodes, and an edge redrawn that leaves the cyclic order at its ends, keep the law.
-- Curves may cross. Assumes nothing.
use mathlib.Core.Path.{◌≡◌, sym, ap, ◌∙◌, subst}
use mathlib.Core.Logic.{inl, inr, ◌≢◌}
use mathlib.Core.Bool.{Bool, true, false, not}
use mathlib.Core.List.{Memᴰ}
use Prim.Native.Nat.{ℕ}
use borrow.Author.Tests.{not-false}
use Rattle.lists.proofs.Bools.{equal?, or-false}
use Rattle.lists.proofs.Members.{none_has}
use Rattle.planar_maps.specs.Map.{Dart, rev}
use Rattle.planar_maps.specs.Rings.{same_dart}
use Rattle.planar_maps.proofs.Rings.{same_dart-true}
use Rattle.plane.specs.declared.Point.{Point}
use Rattle.plane.specs.Directions.{same_way}
use Rattle.curves.specs.Curves.{Curve}
use Rattle.rotation.specs.Law.{lawful_next}
use Rattle.rotation.proofs.Order.{same_way_refl}
use Rattle.map.specs.Rows.{Map, edge, at_nodes}
use Rattle.map.specs.Darts.{leaves, next, course, way, departures}
use Rattle.map.specs.Links.{clockwise}
use Rattle.map.specs.Edits.{add_iso_node, move_iso_node, remove_iso_node, change_edge_geom}
use Rattle.map.specs.Reasons.{turn_changes, order_changes}
use Rattle.map_laws.proofs.Readings.{tail_in, leaves_row, way_row, departs, departures_by}
use Rattle.map_laws.proofs.Redrawn.{same-arcs, same-leaves, same_next, other_course}
use Rattle.map_laws.proofs.LawOrder.{lawful_alike}
use Rattle.grown.proofs.Law.Lawful.{Obeys}

-- ---- nodes alone change

pub add_node_obeys : (m : Map) (p : Point) → Obeys m → Obeys (add_iso_node p m)
unfolding add_iso_node leaves next way course edge
add_node_obeys m p l = l

pub move_node_obeys : (m : Map) (n : ℕ) (p : Point) → Obeys m → Obeys (move_iso_node n p m)
unfolding move_iso_node at_nodes leaves next way course edge
move_node_obeys m n p l = l

pub remove_node_obeys : (m : Map) (n : ℕ) → Obeys m → Obeys (remove_iso_node n m)
unfolding remove_iso_node leaves next way course edge
remove_node_obeys m n l = l

-- ---- kind 6

module _ (m : Map) (e : ℕ) (c : Curve) where
  abbrev redrawn : Map
  redrawn = change_edge_geom e c m

  -- only the edge e departs in other directions
  same_way_lem : (d : Dart) → d.edge ≢ e → way redrawn d ≡ way m d
  same_way_lem d ne = rw (way_row, way_row, other_course m e c d ne)

  same-departures : (n : ℕ) → departures redrawn n ≡ departures m n
  same-departures = departures_by m redrawn (same-arcs m e c) (λ d k. same-leaves m e c d)

  -- the first departure met clockwise from each is the one it was, by the cyclic order at the ends of e
  same_first : (n : ℕ) (d : Dart) → Memᴰ d (departures m n) → turn_changes m redrawn n ≡ false
      → lawful_next (way m) same_dart d (departures m n) ≡ lawful_next (way redrawn) same_dart d (departures redrawn n)
  unfolding clockwise
  same_first n d k h = ap (λ (x : ℕ). lawful_next (way m) same_dart d (departures m x)) (sym (departs m n k).1)
      ∙ same_dart-true (clockwise m d) (clockwise redrawn d)
      (not-false _ (none_has (λ d. not (same_dart (clockwise m d) (clockwise redrawn d))) (departures m n) h d k))
      ∙ ap (λ (x : ℕ). lawful_next (way redrawn) same_dart d (departures redrawn x))
      (same-leaves m e c d ∙ (departs m n k).1)

  -- and away from them nothing turns
  same_elsewhere : (n : ℕ) (d : Dart) → Memᴰ d (departures m n) → (edge m e).start ≢ n → (edge m e).end ≢ n
      → lawful_next (way m) same_dart d (departures m n) ≡ lawful_next (way redrawn) same_dart d (departures redrawn n)
  same_elsewhere n d k ns nt = lawful_alike (way m) (way redrawn) same_dart (departures m n) alike d k
      ∙ ap (lawful_next (way redrawn) same_dart d) (sym (same-departures n))
    where
      other : (x : Dart) → Memᴰ x (departures m n) → x.edge ≢ e
      other x j p = go x.back (ap (λ (y : ℕ). tail_in x.back (edge m y)) (sym p) ∙ sym (leaves_row m x)
          ∙ (departs m n j).1)
        where
          go : (b : Bool) → tail_in b (edge m e) ≡ n → ⊥
          go true q = nt q
          go false q = ns q

      alike : (x : Dart) → Memᴰ x (departures m n) → same_way (way m x) (way redrawn x) ≡ true
      alike x j = ap (same_way (way m x)) (same_way_lem x (other x j)) ∙ same_way_refl (way m x)

  pub change_obeys : order_changes m e c ≡ false → Obeys m → Obeys (change_edge_geom e c m)
  unfolding departures order_changes
  change_obeys order l n d k = same_next m e c (rev d) ∙ l n d old ∙ elim (equal? (edge m e).start n) [
    | inl p ↦ same_first n d old (subst (λ (x : ℕ). turn_changes m redrawn x ≡ false) p ends.0)
    | inr ns ↦ elim (equal? (edge m e).end n) [
      | inl p ↦ same_first n d old
          (subst (λ (x : ℕ). turn_changes m redrawn x ≡ false) p ends.1)
      | inr nt ↦ same_elsewhere n d old ns nt
    ]
  ]
    where
      old : Memᴰ d (departures m n)
      old = subst (Memᴰ d) (same-departures n) k

      ends : (turn_changes m redrawn (edge m e).start ≡ false) × (turn_changes m redrawn (edge m e).end ≡ false)
      ends = or-false _ _ order
