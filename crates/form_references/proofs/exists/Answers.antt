-- `form_references::exists` meets its contract: a row is found where its number stands in the column. Assumes nothing.
use Rattle.std.specs.Prelude.{Option, Some, None, is_some}
use mathlib.Core.Path.{◌≡◌, sym, ap, ◌∙◌}
use mathlib.Core.List.{List}
use Prim.Native.Nat.{ℕ}
use lib.IntN.{ℤ}
use mir.Facts.{to_z-of_z}
use Rattle.lists.specs.Scans.{any_of}
use Rattle.lists.specs.Tables.{place}
use Rattle.tables.specs.Tables.{same_z, column}
use Rattle.form_references.specs.Sides.{has_row}
use Rattle.form_references.proofs.Names.{column_at, column_missing}
use Rattle.form_references.proofs.exists.Goals as goal

found : (w : ℕ) (t : List ℤ) (n : ℕ) (z : ℤ) (o : Option ℕ) → place (same_z z) 0 (column w t n) ≡ o → is_some o
    ≡ has_row w t n z
found w t n z (Some i) e = sym (column_at w t n z i e)
found w t n z None e = sym (column_missing w t n z e)

pub returns : goal.returns
returns c =
    let a = c.args in
    c.is_some.ensures ∙ found a.w a.t.now a.count _ _ (sym c.find_indexed.ensures)
    ∙ ap (λ (z : ℤ). any_of (same_z z) (column a.w a.t.now a.count)) (to_z-of_z c.ranges.number)
