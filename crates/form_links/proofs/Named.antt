-- The row that a directed edge names in a table whose first column rises: it is row i exactly where the cell is the
-- number of row i. Assumes nothing.
use Rattle.std.specs.Prelude.{Some}
use mathlib.Core.Path.{◌≡◌, sym, ap, ◌∙◌}
use mathlib.Core.Logic.{inl, inr}
use mathlib.Core.List.{List}
use Prim.Native.Nat.{ℕ, ◌*◌, ◌<◌}
use lib.IntN.{ℤ, pos}
use lib.ListN.{get_or}
use Rattle.lists.specs.Tests.{same}
use Rattle.lists.proofs.Bools.{same_eq, same_false, equal?}
use Rattle.tables.specs.Tables.{same_z, Rising}
use Rattle.tables.proofs.Order.{is_same, not_same}
use Rattle.tables.proofs.Lookups.{row_met, row_place}
use Rattle.darts.specs.Positions.{side_cell, RowsNamed}

module _ {w : ℕ} {t : List ℤ} {n : ℕ} (rising : Rising w t n) (l : List ℤ) (k : ℕ) (rows : List ℕ) {m : ℕ}
    (named : RowsNamed w t n l k rows m) where
  pub row_is : (p i : ℕ) → p < m → i < n → same (get_or rows p 0) i ≡ same_z (side_cell l p k) (get_or t (i * w) (pos 0))
  row_is p i h below =
      let z = get_or t (i * w) (pos 0) in
      let own = named p h in
      elim (equal? (get_or rows p 0) i) [
        | inl e ↦ same_eq (get_or rows p 0) i e
            ∙ sym (is_same (side_cell l p k) z (sym own.1 ∙ ap (λ (x : ℕ). get_or t (x * w) (pos 0)) e))
        | inr d ↦
            same_false (get_or rows p 0) i d
            ∙ sym (not_same (side_cell l p k) z
            (λ e. let f : Some (get_or rows p 0) ≡ Some i = row_met rising (get_or rows p 0) own.0 (own.1 ∙ e)
            ∙ row_place w t n rising i below in d (cc)))
      ]

  -- two name one row exactly where their cells are one
  pub rows_same : (p q : ℕ) → p < m → q < m → same (get_or rows p 0) (get_or rows q 0)
      ≡ same_z (side_cell l p k) (side_cell l q k)
  rows_same p q h j = row_is p (get_or rows q 0) h (named q j).0 ∙ ap (same_z (side_cell l p k)) (named q j).1
