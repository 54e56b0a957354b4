-- A test that tells departures apart decides whether two are one. Assumes nothing.
use mathlib.Core.Path.{◌≡◌, sym, ◌∙◌, subst}
use mathlib.Core.Logic.{◌⊎◌, inl, inr}
use mathlib.Core.Bool.{Bool, true, false, true≢false}
use Rattle.lists.proofs.Bools.{which, not-true}
use Rattle.rotation.specs.Law.{Tells}

module _ {D : Type 0} {is : D → D → Bool} (tells : Tells is) where
  pub is_yes : (a b : D) → a ≡ b → is a b ≡ true
  is_yes a b e = subst (λ (c : D). is a c ≡ true) e (tells.self a)

  pub is_no : (a b : D) → ((a ≡ b) → ⊥) → is a b ≡ false
  is_no a b ne = not-true (is a b) (λ e. ne (tells.yes a b e))

  pub tell : (a b : D) → ((a ≡ b) × (is a b ≡ true)) ⊎ (((a ≡ b) → ⊥) × (is a b ≡ false))
  tell a b = elim (which (is a b)) [
    | inl e ↦ inl (tells.yes a b e, e)
    | inr e ↦ inr
        (λ q. true≢false (sym (is_yes a b q) ∙ e), e)
  ]
