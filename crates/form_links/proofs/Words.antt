-- Two cells are compared as words; a test and its negation. Assumes nothing.
use mathlib.Core.Path.{◌≡◌, ap, ap₂, ◌∙◌}
use mathlib.Core.Bool.{Bool, not}
use lib.Dec.{eqb}
use lib.IntN.{ℤ}
use mir.Syntax.{w64}
use mir.Val.{SFits, of_z}
use Rattle.lists.proofs.Bools.{eq1}
use Rattle.tables.specs.Tables.{same_z}
use Rattle.tables.proofs.Order.{word_test as words-test}

pub word_test : (x y a b : ℤ) → SFits w64 x → SFits w64 y → x ≡ a → y ≡ b → eqb (of_z w64 x) (of_z w64 y) ≡ same_z a b
word_test x y a b f g d e = words-test f g ∙ ap₂ same_z d e

pub flipped : (a b : Bool) → not a ≡ b → a ≡ not b
flipped a b e = eq1 (λ x. x) (λ x. not (not x)) tt a ∙ ap not e
