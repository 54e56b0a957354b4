-- What is required of rows is kept where links are redirected, stored, and a departure is linked in. Assumes nothing.
use Rattle.std.specs.Prelude.{Option, Some, None}
use mathlib.Core.Path.{◌≡◌, refl, ap, ◌∙◌}
use mathlib.Core.Logic.{◌⊎◌, inl, inr}
use mathlib.Core.Bool.{Bool, true, false, cond}
use mathlib.Core.List.{List}
use Prim.Native.Nat.{ℕ, ◌*◌, ◌<◌}
use lib.IntN.{ℤ}
use lib.ListN.{set}
use Rattle.lists.proofs.Bools.{equal?}
use Rattle.map.specs.Rows.{dart_of, dart_cell, has_edge}
use Rattle.tables.specs.Tables.{same_z}
use Rattle.map_rows.specs.Rows.{edge_map, EdgeRows}
use Rattle.darts.specs.Positions.{reverse_of, dart_at, side_place, side_cell, way_at}
use Rattle.darts.proofs.Positions.{reverse_below}
use Rattle.links.specs.Linking.{redirected, linked_at, linked_where, linked_in, departures_but, first_met}
use Rattle.links.proofs.Kept.{Relinked, relinked_then, redirected_relinked, redirected-link, stored_relinked}
use Rattle.links.proofs.Kept.{stored_here, stored_there, rows_kept, has_kept}
use Rattle.links.proofs.Darts.{link-named, written_named}
use Rattle.links.proofs.FirstMet.{met_in, leaving_below}

module _ {l : List ℤ} {n : ℕ} (t : EdgeRows l n) where
  pub redirected_kept : (old new : ℤ) → has_edge (edge_map l n) (dart_of new).edge ≡ true
      → EdgeRows (redirected old new l n) n
  redirected_kept old new h = rows_kept t (redirected_relinked old new l n)
      (λ p b. ap (λ (z : ℤ). has_edge (edge_map l n) (dart_of z).edge) (redirected-link old new l n t.fits p b)
      ∙ go (same_z (side_cell l p 3) old) p b)
    where
      go : (b : Bool) (p : ℕ) → p < n * 2 → has_edge (edge_map l n) (dart_of (cond b new (side_cell l p 3))).edge ≡ true
      go true p b = h
      go false p b = link-named t p b

  pub stored_kept : (q : ℕ) (v : ℤ) → q < n * 2 → has_edge (edge_map l n) (dart_of v).edge ≡ true
      → EdgeRows (set l (side_place q 3) v) n
  stored_kept q v h k = rows_kept t (stored_relinked l n q v h) (λ p b. go p b (equal? p q))
    where
      go : (p : ℕ) → p < n * 2 → (p ≡ q) ⊎ ((p ≡ q) → ⊥)
          → has_edge (edge_map l n) (dart_of (side_cell (set l (side_place q 3) v) p 3)).edge ≡ true
      go p b (inl e) = ap (λ (z : ℤ). has_edge (edge_map l n) (dart_of z).edge)
          (ap (λ (j : ℕ). side_cell (set l (side_place q 3) v) j 3) e ∙ stored_here l n q v h t.fits) ∙ k
      go p b (inr d) = ap (λ (z : ℤ). has_edge (edge_map l n) (dart_of z).edge) (stored_there l n q v h p d)
          ∙ link-named t p b

module _ {l : List ℤ} {n : ℕ} (t : EdgeRows l n) (p : ℕ) (h : p < n * 2) where
  pub linked_at_relinked : (c : ℤ) → Relinked l (linked_at l n p c) n
  linked_at_relinked c = relinked_then (redirected_relinked c (dart_cell (dart_at l p)) l n)
      (stored_relinked (redirected c (dart_cell (dart_at l p)) l n) n (reverse_of p) c (reverse_below n p h))

  pub linked_at_kept : (q : ℕ) → q < n * 2 → EdgeRows (linked_at l n p (dart_cell (dart_at l q))) n
  linked_at_kept q k =
      let c = dart_cell (dart_at l q) in
      let d = dart_cell (dart_at l p) in
      stored_kept (redirected_kept t c d (written_named t p h)) (reverse_of p) c (reverse_below n p h)
      (has_kept (redirected_relinked c d l n) t.fits (dart_of c).edge ∙ written_named t q k)

  -- where a departure is linked in, by the answer of the search
  pub linked_where_relinked : (r : Option ℕ) → Relinked l (linked_where l n p r) n
  linked_where_relinked (Some q) = linked_at_relinked (dart_cell (dart_at l q))
  linked_where_relinked None = linked_at_relinked (dart_cell (dart_at l p))

  linked_where_kept : (r : Option ℕ) → ((q : ℕ) → r ≡ Some q → q < n * 2) → EdgeRows (linked_where l n p r) n
  linked_where_kept (Some q) b = linked_at_kept q (b q refl)
  linked_where_kept None b = linked_at_kept p h

  pub met_below : (other q : ℕ) → first_met (way_at l) (way_at l p) (departures_but l n (side_cell l p 1) p other) ≡ Some q
      → q < n * 2
  met_below other q e = leaving_below l n (side_cell l p 1) p other q
      (met_in (way_at l) (way_at l p) (departures_but l n (side_cell l p 1) p other) q e)

  pub linked_in_kept : (other : ℕ) → EdgeRows (linked_in l n p other) n
  linked_in_kept other = linked_where_kept (first_met (way_at l) (way_at l p) (departures_but l n (side_cell l p 1) p other))
      (met_below other)

  pub linked_in_relinked : (other : ℕ) → Relinked l (linked_in l n p other) n
  linked_in_relinked other = linked_where_relinked
      (first_met (way_at l) (way_at l p) (departures_but l n (side_cell l p 1) p other))
