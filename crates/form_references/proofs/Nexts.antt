-- The position that a link names, and the point of a node's row. Assumes nothing.
use Rattle.std.specs.Prelude.{Some, None}
use mathlib.Core.Path.{◌≡◌, sym, ap, ◌∙◌, subst}
use mathlib.Core.Bool.{Bool, true, false}
use mathlib.Core.List.{List}
use mathlib.Core.Option
use mathlib.Core.Option.{Option, none}
use Prim.Native.Nat.{ℕ, suc, ◌+◌, ◌*◌, ◌<◌}
use native.Mathlib.Nat.{add-zero}
use native.Mathlib.Omega.{arith}
use lib.IntN.{ℤ, pos, negsuc, nat_abs}
use lib.ListN.{get_or}
use lib.Signed.{lt_z}
use mir.Val.{bool_byte}
use borrow.Author.Tests.{le-ltb}
use Rattle.lists.specs.Scans.{is_some}
use Rattle.lists.specs.Tables.{place}
use Rattle.lists.proofs.Counts.{byte_bit, bit-most}
use Rattle.tables.specs.Tables.{same_z, column}
use Rattle.tables.proofs.Lookups.{row_met}
use Rattle.plane.specs.Points.{origin}
use Rattle.map.specs.Limits.{node_width, edge_width}
use Rattle.map.specs.Rows.{Node, node, dart_of}
use Rattle.map_rows.specs.Rows.{node_at, node_map, NodeRows}
use Rattle.map_rows.proofs.Rows.{node_rows_rising}
use Rattle.map_rows.proofs.Lookups.{node_found, edge_found, edge_missing}
use Rattle.darts.specs.Positions.{dart_at}
use Rattle.darts.proofs.Positions.{dart_even, dart_odd}
use Rattle.form_ranges.specs.Ranges.{EdgesInOrder}
use Rattle.form_references.specs.Sides.{has_link}

-- ---- the position that a link names

pub missing_at : {q : ℕ} → None ≡ Some q → ⊥
missing_at e = let z : ◌≡◌ {A = ℕ} 0 1 = cc in omega arith

module _ {l : List ℤ} {n : ℕ} (r : EdgesInOrder l n) where
  pub link_missing : (d : ℤ) → place (same_z (pos (nat_abs d))) 0 (column edge_width l n) ≡ None
      → has_link l n d ≡ false
  link_missing d e = ap is_some (edge_missing l n r.ranges (nat_abs d) e)

  -- the edge of d stands in row i
  pub link_below : (d : ℤ) (i : ℕ) → place (same_z (pos (nat_abs d))) 0 (column edge_width l n) ≡ Some i → i < n
  link_below d i e = (edge_found l n r.ranges (pos (nat_abs d)) i e).0

  link_dart : (d : ℤ) (i : ℕ) → place (same_z (pos (nat_abs d))) 0 (column edge_width l n) ≡ Some i
      → dart_at l (i * 2 + bool_byte (lt_z d (pos 0))) ≡ dart_of d
  link_dart (pos m) i e =
      let f = edge_found l n r.ranges (pos m) i e in
      let s : i * 2 + bool_byte (lt_z (pos m) (pos 0)) ≡ i * 2 =
      ap (λ (b : Bool). i * 2 + bool_byte b) (le-ltb m 0 (omega arith)) ∙ add-zero (i * 2) in
      ap (dart_at l) s ∙ subst (λ (k : ℕ). dart_at l (i * 2) ≡ dart_of (pos k)) (sym (ap nat_abs f.1)) (dart_even l i)
  link_dart (negsuc m) i e =
      let f = edge_found l n r.ranges (pos (suc m)) i e in
      subst (λ (k : ℕ). dart_at l (i * 2 + 1) ≡ record { edge = k; back = true }) (sym (ap nat_abs f.1)) (dart_odd l i)

  pub link_at : (d : ℤ) (i : ℕ) (b : Bool) → b ≡ lt_z d (pos 0)
      → place (same_z (pos (nat_abs d))) 0 (column edge_width l n) ≡ Some i → (q : ℕ) → Some (i * 2 + bool_byte b) ≡ Some q
      → (q < n * 2) × (dart_at l q ≡ dart_of d) × (has_link l n d ≡ true)
  link_at d i b f e q g =
      let h : i * 2 + bool_byte b ≡ q = cc in (
        omega (arith, byte_bit b, bit-most b, link_below d i e),
        ap (dart_at l) (sym h ∙ ap (λ (t : Bool). i * 2 + bool_byte t) f) ∙ link_dart d i e,
        ap is_some (edge_found l n r.ranges (pos (nat_abs d)) i e).2,
      )

-- ---- the point of a node's row

module _ {l : List ℤ} {n : ℕ} (r : NodeRows l n) (i : ℕ) (h : i < n) where
  pub row_point : (m : ℕ) → get_or l (i * node_width) (pos 0) ≡ pos m → (node_at l i).at ≡ (node (node_map l n) m).at
  unfolding node
  row_point m e = sym (ap (λ (o : Option Node). (Option.get_or o zeros).at)
      (node_found l n r.ranges (pos m) i (sym (row_met (node_rows_rising r) i h e))).2)
    where
      zeros : Node
      zeros = record { number = 0; at = origin; face = none }
