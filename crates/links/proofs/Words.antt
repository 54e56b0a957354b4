-- Numbers compared as words. Assumes nothing.
use mathlib.Core.Path.{◌≡◌, sym, ap₂, ◌∙◌}
use mathlib.Core.Bool.{Bool, false, ◌&&◌}
use lib.Dec.{eqb}
use lib.IntN.{ℤ}
use mir.Syntax.{w64}
use mir.Val.{to_z, of_z, SFits}
use mir.Facts.{to_z-of_z}
use Rattle.lists.proofs.Bools.{&&-false}
use Rattle.tables.specs.Tables.{same_z}
use Rattle.tables.proofs.Order.{word_test}

-- two numbers are one as words
abbrev pub same_word : ℤ → ℤ → Bool
same_word a b = eqb (of_z w64 a) (of_z w64 b)

-- a number that was read is a number that came in
pub cell_test : (z n cell : ℤ) → SFits w64 z → SFits w64 n → z ≡ cell → same_word z n ≡ same_z cell (to_z w64 (of_z w64 n))
cell_test z n cell f g e = word_test f g ∙ ap₂ same_z e (sym (to_z-of_z {w = w64} g))

-- two tests
pub and_left_none : (a b : Bool) → a ≡ false → a && b ≡ false
and_left_none a b e = rw e

pub and_right_none : (a b : Bool) → b ≡ false → a && b ≡ false
and_right_none a b e = rw e (&&-false a)
