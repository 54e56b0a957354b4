-- An edge linked in and unlinked in the table is so in the map. Assumes nothing.
use Rattle.std.specs.Prelude.{Option, Some, None}
use mathlib.Core.Path.{◌≡◌, refl, sym, ap, ap₂, ◌∙◌, subst}
use mathlib.Core.Logic.{◌⊎◌, inl, inr}
use mathlib.Core.Bool.{Bool, not, ◌&&◌, and_assoc}
use mathlib.Core.List.{List, map}
use Prim.Native.Nat.{ℕ, ◌+◌, ◌*◌, ◌-◌, ◌/◌, ◌%◌, ◌<◌, ◌≤◌}
use native.Mathlib.Omega.{arith}
use lib.IntN.{ℤ, pos}
use Rattle.lists.specs.Tests.{same}
use Rattle.lists.specs.Scans.{keep}
use Rattle.lists.proofs.Bools.{equal?, same_eq, same_false, not-true, eq2}
use Rattle.lists.proofs.Keeps.{keep_in, keep-map, keep_cong, keep-both}
use Rattle.lists.proofs.Members.{map_cong}
use Rattle.plane.specs.Directions.{Way}
use Rattle.planar_maps.specs.Map.{Dart, fwd, bwd, rev}
use Rattle.planar_maps.specs.Rings.{same_dart}
use Rattle.planar_maps.proofs.Rings.{same_dart_refl, same_dart-true}
use Rattle.rotation.specs.Law.{first_clockwise}
use Rattle.map.specs.Limits.{edge_width}
use Rattle.map.specs.Rows.{Map, edge, dart_cell, at_edge, without_edge}
use Rattle.map.specs.Darts.{leaves, departures, next, course, way}
use Rattle.map.specs.Links.{redirect, lead, link_in, link_edge, unlink_edge}
use Rattle.tables.specs.Tables.{same_z}
use Rattle.map_rows.specs.Rows.{edges_of, edge_at, edge_map, EdgeRows, edges_alone}
use Rattle.darts.specs.Positions.{reverse_of, dart_at, side_place, side_cell, way_at}
use Rattle.darts.proofs.Positions.{dart_even, dart_odd, dart_reverse, dart_injective, reverse_below, number_injective}
use Rattle.darts.proofs.Positions.{cell-leaves, cell-next, next_there, way_is}
use Rattle.links.specs.Linking.{positions, leaves_node, departures_but, first_met, redirected, linked_at, linked_where}
use Rattle.links.specs.Linking.{linked_in, linked_edge, unlinked_edge}
use Rattle.links.proofs.Kept.{Relinked, relinked_then, redirected_relinked}
use Rattle.links.proofs.FirstMet.{first_none, position_below, leaving_below}
use Rattle.links.proofs.Darts.{dart_least, link-named, written_named}
use Rattle.links.proofs.LinksKept.{redirected_kept, met_below, linked_in_kept, linked_in_relinked}
use Rattle.links.proofs.Departures.{departures-map, met_found, met_nothing}
use Rattle.links.proofs.Redirected.{redirected-map, stored_map, dart_kept}

-- ---- a departure linked in

module _ {l : List ℤ} {n : ℕ} (t : EdgeRows l n) (p : ℕ) (h : p < n * 2) where
  linked_at-map : (q : ℕ) → q < n * 2 → edge_map (linked_at l n p (dart_cell (dart_at l q))) n
      ≡ lead (rev (dart_at l p)) (dart_at l q) (redirect (dart_at l q) (dart_at l p) (edge_map l n))
  linked_at-map q k =
      let c = dart_cell (dart_at l q) in
      let d = dart_cell (dart_at l p) in
      let r = redirected_relinked c d l n in
      let b = reverse_below n p h in
      stored_map (redirected_kept t c d (written_named t p h)) (reverse_of p) b (dart_at l q) (dart_least t q k)
      ∙ ap₂ (λ (x : Dart) (m : Map). lead x (dart_at l q) m) (dart_kept t r (reverse_of p) b ∙ dart_reverse l p)
      (redirected-map t (dart_at l q) (dart_at l p) (dart_least t q k) (dart_least t p h))

  pub linked_in-map : (other : ℕ) → edge_map (linked_in l n p other) n
      ≡ link_in (dart_at l p) (map (dart_at l) (departures_but l n (side_cell l p 1) p other)) (edge_map l n)
  unfolding link_in
  linked_in-map other = go (first_met (way_at l) (way_at l p) ds) refl
    where
      ds : List ℕ
      ds = departures_but l n (side_cell l p 1) p other

      m : Map
      m = edge_map l n

      at_own : (d : Dart) → first_clockwise (way m) (way_at l p) (dart_at l p) (map (dart_at l) ds) ≡ d
          → lead (rev (dart_at l p)) d (redirect d (dart_at l p) m)
          ≡ (let c = first_clockwise (way m) (way m (dart_at l p)) (dart_at l p) (map (dart_at l) ds) in
          lead (rev (dart_at l p)) c (redirect c (dart_at l p) m))
      at_own d e = ap (λ (x : Dart). lead (rev (dart_at l p)) x (redirect x (dart_at l p) m))
          (sym (ap (λ (v : Way). first_clockwise (way m) v (dart_at l p) (map (dart_at l) ds)) (way_is t p h) ∙ e))

      go : (r : Option ℕ) → first_met (way_at l) (way_at l p) ds ≡ r → edge_map (linked_where l n p r) n
          ≡ (let c = first_clockwise (way m) (way m (dart_at l p)) (dart_at l p) (map (dart_at l) ds) in
          lead (rev (dart_at l p)) c (redirect c (dart_at l p) m))
      go (Some q) e = linked_at-map q (met_below t p h other q e)
          ∙ at_own (dart_at l q) (met_found t ds (λ x k. leaving_below l n (side_cell l p 1) p other x k) (way_at l p) q e
          (dart_at l p))
      go None e =
          linked_at-map p h ∙ at_own (dart_at l p)
          (ap (first_clockwise (way m) (way_at l p) (dart_at l p))
          (met_nothing t ds (λ x k. leaving_below l n (side_cell l p 1) p other x k) (way_at l p) e)
          ∙ first_none (way m) (way_at l p) (dart_at l p))

-- ---- the departures there are

module _ {l : List ℤ} {n : ℕ} (t : EdgeRows l n) where
  -- some departures from the node that p leaves, by position
  there_map : (p : ℕ) → p < n * 2 → (f : Dart → Bool) (g : ℕ → Bool) → ((q : ℕ) → q < n * 2 → f (dart_at l q) ≡ g q)
      → keep f (departures (edge_map l n) (leaves (edge_map l n) (dart_at l p)))
      ≡ map (dart_at l) (keep (λ q. leaves_node l (side_cell l p 1) q && g q) (positions n))
  there_map p h f g e =
      let k = leaves (edge_map l n) (dart_at l p) in
      ap (keep f) (departures-map t k)
      ∙ keep-map (dart_at l) g f (keep (leaves_node l (pos k)) (positions n))
      (λ q m. e q (position_below n q (keep_in (leaves_node l (pos k)) (positions n) m).0))
      ∙ ap (map (dart_at l)) (keep-both (leaves_node l (pos k)) g (positions n))
      ∙ ap (λ (z : ℤ). map (dart_at l) (keep (λ q. leaves_node l z q && g q) (positions n))) (sym (cell-leaves t p h))

  -- of another edge
  pub other_edge : (i q : ℕ) → i < n → q < n * 2 → not (same (dart_at l q).edge (edge_at l i).number)
      ≡ not (same q (i * 2)) && not (same q (i * 2 + 1))
  other_edge i q h k = go (equal? (q / 2) i) (equal? (q % 2) 0)
    where
      go : (q / 2 ≡ i) ⊎ ((q / 2 ≡ i) → ⊥) → (q % 2 ≡ 0) ⊎ ((q % 2 ≡ 0) → ⊥)
          → not (same (dart_at l q).edge (edge_at l i).number) ≡ not (same q (i * 2)) && not (same q (i * 2 + 1))
      go (inl e) (inl o) = rw (
        same_eq (dart_at l q).edge (edge_at l i).number (ap (λ (j : ℕ). (edge_at l j).number) e),
        same_eq q (i * 2) (omega arith),
      )
      go (inl e) (inr o) = rw (
        same_eq (dart_at l q).edge (edge_at l i).number (ap (λ (j : ℕ). (edge_at l j).number) e),
        same_false q (i * 2) (λ x. omega arith),
        same_eq q (i * 2 + 1) (omega arith),
      )
      go (inr d) s =
          rw (
            same_false (dart_at l q).edge (edge_at l i).number
                (λ e. d (number_injective t (q / 2) i (omega arith) h e)),
            same_false q (i * 2) (λ x. d (omega arith)),
            same_false q (i * 2 + 1) (λ x. d (omega arith)),
          )

  -- another directed edge
  pub other_dart : (p q : ℕ) → p < n * 2 → q < n * 2 → same_dart (dart_at l q) (dart_at l p) ≡ same q p
  other_dart p q h k = elim (equal? q p) [
    | inl e ↦ ap (λ (j : ℕ). same_dart (dart_at l j) (dart_at l p)) e ∙ same_dart_refl (dart_at l p) ∙ sym (same_eq q p e)
    | inr d ↦ not-true (same_dart (dart_at l q) (dart_at l p))
        (λ e. d (dart_injective t q p k h (same_dart-true (dart_at l q) (dart_at l p) e))) ∙ sym (same_false q p d)
  ]

-- ---- the departures are kept

module _ {l l' : List ℤ} {n : ℕ} (t : EdgeRows l n) (r : Relinked l l' n) where
  node_kept : (q : ℕ) → q < n * 2 → side_cell l' q 1 ≡ side_cell l q 1
  node_kept q h = go (equal? (q % 2) 0)
    where
      at : (k : ℕ) → k < 3 → side_place q 1 ≡ q / 2 * edge_width + k → side_cell l' q 1 ≡ side_cell l q 1
      at k b e = rw e (r.row (q / 2) k (omega arith) (omega arith) (λ x. omega arith) (λ x. omega arith))

      go : (q % 2 ≡ 0) ⊎ ((q % 2 ≡ 0) → ⊥) → side_cell l' q 1 ≡ side_cell l q 1
      go (inl o) = at 1 (omega arith) (omega arith)
      go (inr o) = at 2 (omega arith) (omega arith)

  leaving_kept : (p a b : ℕ) → p < n * 2 → map (dart_at l') (departures_but l' n (side_cell l' p 1) a b)
      ≡ map (dart_at l) (departures_but l n (side_cell l p 1) a b)
  leaving_kept p a b h =
      ap (λ (z : ℤ). map (dart_at l') (departures_but l' n z a b)) (node_kept p h)
      ∙ ap (map (dart_at l')) (keep_cong _ _ (positions n)
      (λ q m. ap (λ (z : ℤ). same_z z (side_cell l p 1) && not (same q a) && not (same q b))
      (node_kept q (position_below n q m))))
      ∙ map_cong (dart_at l') (dart_at l) (departures_but l n (side_cell l p 1) a b)
      (λ q m. dart_kept t r q (leaving_below l n (side_cell l p 1) a b q m))

-- ---- the last row linked in

module _ {l : List ℤ} {n : ℕ} (t : EdgeRows l n) (some : 0 < n) where
  pub linked_edge_kept : EdgeRows (linked_edge l n) n
  linked_edge_kept =
      let p = (n - 1) * 2 in
      linked_in_kept (linked_in_kept t p (omega arith) (p + 1)) (p + 1) (omega arith) (p + 1)

  pub linked_edge_relinked : Relinked l (linked_edge l n) n
  linked_edge_relinked =
      let p = (n - 1) * 2 in
      relinked_then (linked_in_relinked t p (omega arith) (p + 1))
      (linked_in_relinked (linked_in_kept t p (omega arith) (p + 1)) (p + 1) (omega arith) (p + 1))

  pub linked-edge_map : edge_map (linked_edge l n) n ≡ link_edge (edge_at l (n - 1)).number (edge_map l n)
  unfolding link_edge
  linked-edge_map =
      let i = n - 1 in
      let p = i * 2 in
      let e = (edge_at l i).number in
      let m = edge_map l n in
      let l₁ = linked_in l n p (p + 1) in
      let b₀ : p < n * 2 = omega arith in
      let b₁ : p + 1 < n * 2 = omega arith in
      let t₁ = linked_in_kept t p b₀ (p + 1) in
      let r = linked_in_relinked t p b₀ (p + 1) in
      let start : map (dart_at l) (departures_but l n (side_cell l p 1) p (p + 1))
      ≡ keep (λ d. not (same d.edge e)) (departures m (leaves m (fwd e))) =
      ap (map (dart_at l)) (keep_cong _ _ (positions n)
      (λ q k. and_assoc (leaves_node l (side_cell l p 1) q) (not (same q p)) (not (same q (p + 1)))))
      ∙ sym (there_map t p b₀ (λ d. not (same d.edge e)) (λ q. not (same q p) && not (same q (p + 1)))
      (λ q k. other_edge t i q (omega arith) k))
      ∙ ap (λ (d : Dart). keep (λ d. not (same d.edge e)) (departures m (leaves m d))) (dart_even l i) in
      let end : map (dart_at l) (departures_but l n (side_cell l (p + 1) 1) (p + 1) (p + 1))
      ≡ keep (λ d. not (same_dart d (bwd e))) (departures m (leaves m (bwd e))) =
      ap (map (dart_at l)) (keep_cong _ _ (positions n)
      (λ q k. eq2 (λ x y. x && y && y) (λ x y. x && y) tt (leaves_node l (side_cell l (p + 1) 1) q)
      (not (same q (p + 1)))))
      ∙ sym (there_map t (p + 1) b₁ (λ d. not (same_dart d (dart_at l (p + 1)))) (λ q. not (same q (p + 1)))
      (λ q k. ap not (other_dart t (p + 1) q b₁ k)))
      ∙ ap (λ (d : Dart). keep (λ c. not (same_dart c d)) (departures m (leaves m d))) (dart_odd l i) in
      linked_in-map t₁ (p + 1) b₁ (p + 1)
      ∙ ap₂ (λ (d : Dart) (ds : List Dart). link_in d ds (edge_map l₁ n)) (dart_kept t r (p + 1) b₁ ∙ dart_odd l i)
      (leaving_kept t r (p + 1) (p + 1) (p + 1) b₁ ∙ end)
      ∙ ap (link_in (bwd e) (keep (λ d. not (same_dart d (bwd e))) (departures m (leaves m (bwd e)))))
      (linked_in-map t p b₀ (p + 1) ∙ ap₂ (λ (d : Dart) (ds : List Dart). link_in d ds m) (dart_even l i) start)

-- ---- a row unlinked

module _ {l : List ℤ} {n : ℕ} (t : EdgeRows l n) (i : ℕ) (h : i < n) where
  -- with the start's departure redirected
  start_unlinked : List ℤ
  start_unlinked = redirected (dart_cell (dart_at l (i * 2))) (side_cell l (i * 2 + 1) 3) l n

  start_kept : EdgeRows start_unlinked n
  unfolding start_unlinked
  start_kept = redirected_kept t (dart_cell (dart_at l (i * 2))) (side_cell l (i * 2 + 1) 3)
      (link-named t (i * 2 + 1) (omega arith))

  pub unlinked_edge_kept : EdgeRows (unlinked_edge l n i) n
  unfolding start_unlinked
  unlinked_edge_kept = redirected_kept start_kept (dart_cell (dart_at l (i * 2 + 1))) (side_cell start_unlinked (i * 2) 3)
      (link-named start_kept (i * 2) (omega arith))

  pub unlinked_edge_relinked : Relinked l (unlinked_edge l n i) n
  unfolding start_unlinked
  unlinked_edge_relinked = relinked_then
      (redirected_relinked (dart_cell (dart_at l (i * 2))) (side_cell l (i * 2 + 1) 3) l n)
      (redirected_relinked (dart_cell (dart_at l (i * 2 + 1))) (side_cell start_unlinked (i * 2) 3) start_unlinked n)

  next-least : {u : List ℤ} → EdgeRows u n → (p : ℕ) → p < n * 2 → 1 ≤ (next (edge_map u n) (dart_at u p)).edge
  next-least {u} s p b = let q = next_there s p b in
      subst (λ (d : Dart). 1 ≤ d.edge) q.2 (dart_least s q.0 q.1)

  start_map : edge_map start_unlinked n ≡ redirect (fwd (edge_at l i).number)
      (next (edge_map l n) (bwd (edge_at l i).number)) (edge_map l n)
  unfolding start_unlinked
  start_map =
      let p = i * 2 in
      let b₀ : p < n * 2 = omega arith in
      let b₁ : p + 1 < n * 2 = omega arith in
      ap (λ (z : ℤ). edge_map (redirected (dart_cell (dart_at l p)) z l n) n) (cell-next t (p + 1) b₁)
      ∙ redirected-map t (dart_at l p) (next (edge_map l n) (dart_at l (p + 1))) (dart_least t p b₀)
      (next-least t (p + 1) b₁)
      ∙ ap₂ (λ (c d : Dart). redirect c (next (edge_map l n) d) (edge_map l n)) (dart_even l i) (dart_odd l i)

  -- before the row goes
  pub unlinked_edge-map : edge_map (unlinked_edge l n i) n
      ≡ (let m' = redirect (fwd (edge_at l i).number) (next (edge_map l n) (bwd (edge_at l i).number)) (edge_map l n) in
      redirect (bwd (edge_at l i).number) (next m' (fwd (edge_at l i).number)) m')
  unfolding start_unlinked
  unlinked_edge-map =
      let p = i * 2 in
      let u = start_unlinked in
      let e = (edge_at l i).number in
      let b₀ : p < n * 2 = omega arith in
      let b₁ : p + 1 < n * 2 = omega arith in
      let r = redirected_relinked (dart_cell (dart_at l p)) (side_cell l (p + 1) 3) l n in
      ap (λ (z : ℤ). edge_map (redirected (dart_cell (dart_at l (p + 1))) z u n) n) (cell-next start_kept p b₀)
      ∙ redirected-map start_kept (dart_at l (p + 1)) (next (edge_map u n) (dart_at u p)) (dart_least t (p + 1) b₁)
      (next-least start_kept p b₀)
      ∙ ap₂ (λ (c d : Dart). redirect c (next (edge_map u n) d) (edge_map u n)) (dart_odd l i)
      (dart_kept t r p b₀ ∙ dart_even l i)
      ∙ ap (λ (m : Map). redirect (bwd e) (next m (fwd e)) m) start_map

  -- and when it is gone
  pub unlinked_edge_gone : (unlink_edge (edge_at l i).number (edge_map l n)).edges
      ≡ without_edge (edge_at l i).number (edges_of (unlinked_edge l n i) n)
  unfolding unlink_edge
  unlinked_edge_gone = ap (λ (m : Map). without_edge (edge_at l i).number m.edges) (sym unlinked_edge-map)

-- ---- a map with other tables besides

-- its edges alone
abbrev pub alone : Map → Map
alone m = edges_alone m.edges

pub linked_alone : (e : ℕ) (m : Map) → (link_edge e m).edges ≡ (link_edge e (alone m)).edges
unfolding link_edge link_in lead redirect at_edge departures leaves edge way course
linked_alone e m = refl

pub unlinked_alone : (e : ℕ) (m : Map) → (unlink_edge e m).edges ≡ (unlink_edge e (alone m)).edges
unfolding unlink_edge redirect next edge
unlinked_alone e m = refl
