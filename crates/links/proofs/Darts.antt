-- Directed edges as they are written, and what links and positions name. Assumes nothing.
use Rattle.std.specs.Prelude.{Some}
use mathlib.Core.Path.{◌≡◌, refl, sym, ap, ◌∙◌}
use mathlib.Core.Logic.{inl, inr}
use mathlib.Core.Bool.{Bool, true, false, cond}
use mathlib.Core.List.{List}
use mathlib.Core.Option.{some}
use Prim.Native.Nat.{ℕ, zero, suc, ◌*◌, ◌/◌, ◌<◌, ◌≤◌}
use native.Mathlib.Omega.{arith}
use lib.IntN.{ℤ, pos, neg_ℤ}
use Rattle.lists.specs.Scans.{is_some}
use Rattle.lists.specs.Tables.{place}
use Rattle.lists.proofs.Bools.{which, not-true, same_false}
use Rattle.planar_maps.specs.Map.{Dart}
use Rattle.planar_maps.specs.Rings.{same_dart}
use Rattle.planar_maps.proofs.Rings.{same_dart_refl, same_dart-true}
use Rattle.map.specs.Limits.{edge_width}
use Rattle.map.specs.Rows.{dart_of, dart_cell, has_edge, find_edge}
use Rattle.map.specs.Links.{instead}
use Rattle.map.proofs.RoundTrip.{dart_cell-back}
use Rattle.tables.specs.Tables.{same_z, column}
use Rattle.map_rows.specs.Rows.{edge_at, edge_map, EdgeRows}
use Rattle.tables.proofs.Order.{is_same, same_is}
use Rattle.map_rows.proofs.Rows.{edge_rows_rising, edge_number_in}
use Rattle.tables.proofs.Lookups.{row_place}
use Rattle.map_rows.proofs.Lookups.{edge_found}
use Rattle.darts.specs.Positions.{dart_at, side_cell}
use Rattle.darts.proofs.Positions.{cells_of_lem, link_is, next-named}
use Rattle.links.proofs.Kept.{new_for}

-- ---- as they are written

-- what is read of what was written; 0 has no reverse
pub cell_dart : (d : Dart) → 1 ≤ d.edge → dart_of (dart_cell d) ≡ d
cell_dart d h = go d.edge d.back h
  where
    go : (e : ℕ) (b : Bool) → 1 ≤ e → dart_of (cond b (neg_ℤ (pos e)) (pos e)) ≡ record { edge = e; back = b }
    go zero b h = absurd (omega arith)
    go (suc e) true h = refl
    go (suc e) false h = refl

pub cell_test : (z : ℤ) (d : Dart) → 1 ≤ d.edge → same_z z (dart_cell d) ≡ same_dart (dart_of z) d
cell_test z d h =
    elim (which (same_z z (dart_cell d))) [
      | inl e ↦ e ∙ sym (ap (λ (c : Dart). same_dart c d) (ap dart_of (same_is z (dart_cell d) e) ∙ cell_dart d h)
          ∙ same_dart_refl d)
      | inr e ↦ e ∙ sym (not-true (same_dart (dart_of z) d)
          (λ t. let q : z ≡ dart_cell d = sym (dart_cell-back z) ∙ ap dart_cell (same_dart-true (dart_of z) d t) in
          let k : true ≡ false = sym (is_same z (dart_cell d) q) ∙ e in let n : ◌≡◌ {A = ℕ} 0 1 = cc in omega arith))
    ]

-- one directed edge is another if and only if they are written alike
pub cell_same : (c d : Dart) → 1 ≤ d.edge → same_z (dart_cell c) (dart_cell d) ≡ same_dart c d
unfolding same_dart
cell_same c d h = cell_test (dart_cell c) d h ∙ go c.edge c.back
  where
    go : (e : ℕ) (b : Bool) → same_dart (dart_of (cond b (neg_ℤ (pos e)) (pos e))) d
        ≡ same_dart (record { edge = e; back = b }) d
    go zero true = rw (same_false 0 d.edge (λ q. omega arith))
    go zero false = refl
    go (suc e) b = ap (λ (x : Dart). same_dart x d) (cell_dart (record { edge = suc e; back = b }) (omega arith))

-- one number for another is one directed edge for another
pub new_dart : (old new : Dart) (z : ℤ) → 1 ≤ old.edge → 1 ≤ new.edge
    → dart_of (new_for (dart_cell old) (dart_cell new) z) ≡ instead old new (dart_of z)
new_dart old new z h k =
    ap (λ (b : Bool). dart_of (cond b (dart_cell new) z)) (cell_test z old h) ∙ go (same_dart (dart_of z) old)
  where
    go : (b : Bool) → dart_of (cond b (dart_cell new) z) ≡ cond b new (dart_of z)
    go true = cell_dart new k
    go false = refl

-- ---- what they name

module _ {l : List ℤ} {n : ℕ} (t : EdgeRows l n) where
  -- the row of an edge's number
  pub row_found_lem : (i : ℕ) → i < n → find_edge (edge_map l n) (edge_at l i).number ≡ some (edge_at l i)
  row_found_lem i h =
      let found : place (same_z (pos (edge_at l i).number)) 0 (column edge_width l n) ≡ Some i =
      ap (λ (z : ℤ). place (same_z z) 0 (column edge_width l n)) (sym (cells_of_lem t i h).number)
      ∙ row_place edge_width l n (edge_rows_rising t) i h in
      (edge_found l n t.ranges (pos (edge_at l i).number) i found).2

  pub row_named : (i : ℕ) → i < n → has_edge (edge_map l n) (edge_at l i).number ≡ true
  row_named i h = ap is_some (row_found_lem i h)

  pub dart_named : (p : ℕ) → p < n * 2 → has_edge (edge_map l n) (dart_at l p).edge ≡ true
  dart_named p h = row_named (p / 2) (omega arith)

  pub dart_least : (p : ℕ) → p < n * 2 → 1 ≤ (dart_at l p).edge
  dart_least p h = (edge_number_in t (p / 2) (omega arith)).0

  pub link-named : (p : ℕ) → p < n * 2 → has_edge (edge_map l n) (dart_of (side_cell l p 3)).edge ≡ true
  link-named p h = ap (λ (d : Dart). has_edge (edge_map l n) d.edge) (link_is t p h) ∙ next-named t p h

  -- as it is written
  pub written_named : (p : ℕ) → p < n * 2 → has_edge (edge_map l n) (dart_of (dart_cell (dart_at l p))).edge ≡ true
  written_named p h = ap (λ (d : Dart). has_edge (edge_map l n) d.edge) (cell_dart (dart_at l p) (dart_least p h))
      ∙ dart_named p h
