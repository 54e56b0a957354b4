-- What a search for a node answers, by the number as it was passed. Assumes nothing.
use Rattle.std.specs.Prelude.{Option, None}
use mathlib.Core.Path.{◌≡◌, sym, ap, ◌∙◌}
use mathlib.Core.Bool.{true, false≢true}
use mathlib.Core.List.{List}
use Prim.Native.Nat.{ℕ}
use lib.IntN.{ℤ, nat_abs}
use lib.Signed.{non_neg}
use mir.Syntax.{w64}
use mir.Val.{of_z, to_z, SFits}
use mir.Facts.{to_z-of_z}
use Rattle.lists.specs.Scans.{is_some}
use Rattle.lists.specs.Tables.{place}
use Rattle.tables.specs.Tables.{same_z, column}
use Rattle.tables.proofs.Tests.{pos_abs}
use Rattle.map.specs.Limits.{node_width}
use Rattle.map.specs.Rows.{has_node}
use Rattle.map_rows.specs.Rows.{NodeRows, node_map}
use Rattle.map_rows.proofs.Lookups.{node_missing}

module _ (l : List ℤ) (n : ℕ) (z : ℤ) where
  pub told : SFits w64 z → {r v : Option ℕ} → r ≡ place (same_z (to_z w64 (of_z w64 z))) 0 (column node_width l n) → r ≡ v
      → place (same_z z) 0 (column node_width l n) ≡ v
  told f e v = ap (λ (x : ℤ). place (same_z x) 0 (column node_width l n)) (sym (to_z-of_z {w = w64} f)) ∙ sym e ∙ v

  -- a node that is there is found
  pub not_missing : NodeRows l n → non_neg z ≡ true → has_node (node_map l n) (nat_abs z) ≡ true
      → place (same_z z) 0 (column node_width l n) ≡ None → ⊥
  not_missing t s has e =
      let m = ap (λ (x : ℤ). place (same_z x) 0 (column node_width l n)) (sym (pos_abs z s)) ∙ e in
      false≢true (sym (ap is_some (node_missing l n t.ranges (nat_abs z) m)) ∙ has)
