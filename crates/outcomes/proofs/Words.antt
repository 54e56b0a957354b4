-- A number looked up as it was passed, two numbers compared as words, and the next node number as it is read. Assumes
-- nothing.
use Rattle.std.specs.Prelude.{Option}
use mathlib.Core.Path.{◌≡◌, sym, ◌∙◌, ap₂}
use mathlib.Core.List.{List}
use Prim.Native.Nat.{ℕ}
use lib.Dec.{eqb}
use lib.IntN.{ℤ, pos}
use mir.Syntax.{w64}
use mir.Val.{of_z, to_z, SFits}
use Rattle.lists.specs.Tables.{place}
use Rattle.lists.specs.Tests.{same}
use Rattle.tables.specs.Tables.{same_z, column}
use Rattle.tables.proofs.Order.{word_test, same-pos}
use Rattle.map.specs.declared.Head.{Head}
use Rattle.head.specs.Heads.{Counted}
use Rattle.head.proofs.Words.{count_back}
pub use Rattle.head.proofs.Words.{small_fits, small_read, is_natural, count_fits_lem, count_back}
pub use Rattle.head.proofs.Words.{count_read, count_natural, count_abs, plus_fits, plus_is}

-- two numbers that are not negative, compared as words
pub number_test : (x y : ℤ) (a b : ℕ) → SFits w64 x → SFits w64 y → x ≡ pos a → y ≡ pos b → eqb (of_z w64 x) (of_z w64 y)
    ≡ same a b
number_test x y a b f g e k = word_test f g ∙ ap₂ same_z e k ∙ same-pos a b

pub next_node_back : {h : Head} → Counted h → to_z w64 (of_z w64 h.next_node) ≡ h.next_node
next_node_back {h} k = count_back h.next_node k.next_node.natural k.next_node.most

-- ---- the place of the number as it was passed

pub place_told : (w : ℕ) (l : List ℤ) {a n : ℕ} {u z : ℤ} {r v : Option ℕ} → a ≡ n → u ≡ z → r
    ≡ place (same_z u) 0 (column w l a) → r ≡ v → place (same_z z) 0 (column w l n) ≡ v
place_told w l ea eu er ev = sym (λ j. place (same_z (eu j)) 0 (column w l (ea j))) ∙ sym er ∙ ev
