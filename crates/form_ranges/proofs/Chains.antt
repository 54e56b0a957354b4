-- The value of `a && b` where its branches join. Assumes nothing.
use mathlib.Core.Path.{◌≡◌, sym, ◌∙◌}
use mathlib.Core.Bool.{Bool, true, false, ◌&&◌}

-- both parts are asked
pub second_told : {v a b p q : Bool} → a ≡ true → v ≡ b → a ≡ p → b ≡ q → v ≡ p && q
second_told {q = q} t e f g = e ∙ g ∙ left (sym f ∙ t)
  where
    left : {p : Bool} → p ≡ true → q ≡ p && q
    left h = rw h

-- the first alone
pub first_told : {v a p : Bool} (q : Bool) → a ≡ false → v ≡ a → a ≡ p → v ≡ p && q
first_told q t e f = e ∙ t ∙ left (sym f ∙ t)
  where
    left : {p : Bool} → p ≡ false → false ≡ p && q
    left h = rw h
