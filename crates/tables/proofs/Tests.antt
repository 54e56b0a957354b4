-- Tests of one number: not negative, from a to b, and 0; and of all: a list of zeros. Assumes nothing.
use mathlib.Core.Path.{◌≡◌, refl, sym, ap, ◌∙◌}
use mathlib.Core.Bool.{Bool, true, false, ◌&&◌, false≢true}
use mathlib.Core.Logic.{inl, inr}
use mathlib.Core.List.{List, [], ◌∷◌}
use Prim.Native.Nat.{ℕ, zero, suc, ◌≤◌}
use native.Mathlib.Omega.{arith}
use lib.Dec.{leb, leb→le, lit<, eqb}
use lib.Bits.{bit_or, or_add_and, and_le_r}
use lib.IntN.{ℤ, pos, negsuc, nat_abs}
use lib.ListN.{length, replicate}
use lib.Signed.{le_z, non_neg}
use mir.Syntax.{w64}
use mir.Val.{of_z, SFits}
use borrow.Author.Tests.{le-leb, eqb-true, eqb-false, ne_eqb}
use borrow.Author.Rules.{sfits_of}
use Rattle.lists.specs.Scans.{all_of}
use Rattle.lists.proofs.Bools.{same_refl, same_true, same_false, same_eq, which, and-true, and_is}
use Rattle.tables.specs.Tables.{within, is_zero}
use Rattle.tables.proofs.Order.{word_is}

-- ---- not negative

pub natural_tested : (z : ℤ) → le_z (pos 0) z ≡ non_neg z
natural_tested (pos n) = le-leb 0 n (omega arith)
natural_tested (negsuc n) = refl

pub pos_abs : (z : ℤ) → non_neg z ≡ true → z ≡ pos (nat_abs z)
pos_abs (pos n) h = refl
pos_abs (negsuc n) h = absurd (false≢true h)

pub pos-back : (z : ℤ) → non_neg z ≡ true → pos (nat_abs z) ≡ z
pos-back z h = sym (pos_abs z h)

-- ---- from a to b

pub within-back : (a b : ℕ) (z : ℤ) → within a b z ≡ true → pos (nat_abs z) ≡ z
within-back a b (pos n) h = refl
within-back a b (negsuc n) h = absurd (false≢true h)

pub within-most : (a b : ℕ) (z : ℤ) → within a b z ≡ true → nat_abs z ≤ b
within-most a b (pos n) h = leb→le n b (rw (and-true (leb a n) (leb n b) h).1 tt)
within-most a b (negsuc n) h = absurd (false≢true h)

pub within-least : (a b : ℕ) (z : ℤ) → within a b z ≡ true → a ≤ nat_abs z
within-least a b (pos n) h = leb→le a n (rw (and-true (leb a n) (leb n b) h).0 tt)
within-least a b (negsuc n) h = absurd (false≢true h)

pub within-pos : (a b : ℕ) (z : ℤ) → within a b z ≡ true → (z ≡ pos (nat_abs z)) × (a ≤ nat_abs z) × (nat_abs z ≤ b)
within-pos a b z h = (sym (within-back a b z h), within-least a b z h, within-most a b z h)

-- from a to b
pub in_bounds : (a b n : ℕ) → a ≤ n → n ≤ b → within a b (pos n) ≡ true
in_bounds a b n h k = and_is (le-leb a n h) (le-leb n b k)

-- ---- 0

abs_zero : (z : ℤ) → nat_abs z ≡ 0 → z ≡ pos 0
abs_zero (pos n) e = ap pos e
abs_zero (negsuc n) e = absurd (omega arith)

pub zero_is : (z : ℤ) → is_zero z ≡ true → z ≡ pos 0
zero_is z h = abs_zero z (same_true (nat_abs z) 0 h)

pub not-zero : (z : ℤ) → (z ≡ pos 0 → ⊥) → is_zero z ≡ false
not-zero z h = same_false (nat_abs z) 0 (λ e. h (abs_zero z e))

pub is_zero_lem : (z : ℤ) → z ≡ pos 0 → is_zero z ≡ true
is_zero_lem z e = same_eq (nat_abs z) 0 (ap nat_abs e)

pub zero_tested : (z : ℤ) → SFits w64 z → eqb (of_z w64 z) 0 ≡ is_zero z
zero_tested z f =
    elim (which (eqb (of_z w64 z) 0)) [
      | inl e ↦ e ∙ sym (is_zero_lem z (word_is f (sfits_of (lit< tt)) (eqb-true (of_z w64 z) 0 e)))
      | inr e ↦ e ∙ sym (not-zero z (λ q. eqb-false (of_z w64 z) 0 e (ap (of_z w64) q)))
    ]

-- no bit in either word
pub bits_tested : (a b : ℕ) → eqb (bit_or a b) 0 ≡ (eqb a 0 && eqb b 0)
bits_tested a b =
    elim (which (eqb a 0)) [
      | inl e ↦ rw (eqb-true a 0 e)
      | inr e ↦ ne_eqb (bit_or a b) 0 (λ o. eqb-false a 0 e (omega (arith, or_add_and a b, and_le_r a b)))
          ∙ sym (ap (λ (x : Bool). x && eqb b 0) e)
    ]

pub zeros : (n : ℕ) → all_of is_zero (replicate n (pos 0)) ≡ true
zeros zero = refl
zeros (suc n) = rw (same_refl 0) (zeros n)

pub zeros_are : (l : List ℤ) → all_of is_zero l ≡ true → l ≡ replicate (length l) (pos 0)
zeros_are [] h = refl
zeros_are (z ∷ l) h =
    let k = and-true (is_zero z) (all_of is_zero l) h in
    let first = zero_is z k.0 in
    let later = zeros_are l k.1 in
    λ i. first i ∷ later i
