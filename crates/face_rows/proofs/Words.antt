-- One of two numbers, the lower of two, and whether a variant is New. Assumes nothing.
use denote.Enum.Bare.{sameb}
use mathlib.Core.Path.{◌≡◌, refl, sym, ap, ◌∙◌}
use mathlib.Core.Bool.{Bool, true, false, cond}
use mathlib.Core.Logic.{inl, inr}
use Prim.Native.Nat.{ℕ, min}
use native.Mathlib.Nat.{min_comm, min-eq_left}
use native.Mathlib.Omega.{arith}
use lib.Dec.{ltb}
use lib.IntN.{ℤ, pos}
use lib.Signed.{lt_z}
use mir.Syntax.{w64}
use mir.Val.{of_z, to_z, SFits}
use mir.Facts.{to_z-of_z}
use borrow.Author.Tests.{ltb-true, ltb-false}
use Rattle.std.specs.Int.{int_min, int_max}
use Rattle.lists.proofs.Bools.{which, cond_has}
use Rattle.map.specs.contracts.Variant.{the_type as variant}
use Rattle.map.specs.declared.Variant.{Variant}
use Rattle.map.specs.declared.Variant.TheVariants.{New, Mod}
use Rattle.map.specs.Edits.{is_new}

pub new_told : (how : Variant) → sameb variant how New ≡ is_new how
new_told New = refl
new_told Mod = refl

-- one of two numbers as it was passed
pub either : (b : Bool) {x y r : ℤ} → SFits w64 x → SFits w64 y → r ≡ cond b x y → to_z w64 (of_z w64 r) ≡ cond b x y
either b f g e = ap (λ (z : ℤ). to_z w64 (of_z w64 z)) e ∙ to_z-of_z {w = w64} (cond_has (SFits w64) b f g)

-- the lower of two
pub lower_is : (a b : ℕ) → cond (lt_z (pos a) (pos b)) (pos a) (pos b) ≡ pos (min a b)
lower_is a b =
    elim (which (ltb a b)) [
      | inl e ↦ let h = ltb-true a b e in rw e (ap pos (sym (min-eq_left (omega arith))))
      | inr e ↦ let h = ltb-false a b e in rw e (ap pos (sym (min_comm a b ∙ min-eq_left (omega arith))))
    ]

pub least_is : (a b : ℕ) → int_min (pos a) (pos b) ≡ pos (min a b)
least_is a b = lower_is b a ∙ ap pos (min_comm b a)

-- the higher of two
pub greatest_is : (a b : ℕ) → int_max (pos a) (pos b) ≡ cond (lt_z (pos a) (pos b)) (pos b) (pos a)
greatest_is a b = go (ltb b a) refl (ltb a b) refl
  where
    go : (x : Bool) → ltb b a ≡ x → (y : Bool) → ltb a b ≡ y → cond (ltb b a) (pos a) (pos b)
        ≡ cond (ltb a b) (pos b) (pos a)
    go true e true f = let h = ltb-true b a e in let k = ltb-true a b f in absurd (omega arith)
    go true e false f = rw (e, f)
    go false e true f = rw (e, f)
    go false e false f = let h = ltb-false b a e in let k = ltb-false a b f in
        let q : a ≡ b = omega arith in rw (e, f) (ap pos (sym q))
