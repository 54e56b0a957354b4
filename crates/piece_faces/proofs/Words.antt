-- One bit of a word: that of two words joined, that of a power of 2, those above a part that is 0, and the lowest that
-- is set from a place on. Assumes nothing.
use Rattle.std.proofs.lemmas.Nat.Bits.{bit_at_or, bit_at-pow_same, bit_at-pow_other, bit_at-trailing_zeros}
use Rattle.std.specs.Int.{trailing_zeros}
use mathlib.Core.Path.{◌≡◌, refl, sym, ap, ◌∙◌}
use mathlib.Core.Logic.{inl, inr}
use mathlib.Core.Bool.{Bool, true, false, ◌||◌, true≢false}
use Prim.Native.Nat.{ℕ, zero, suc, ◌+◌, ◌-◌, ◌*◌, ◌/◌, ◌%◌, ◌^◌, ◌<◌, ◌≤◌, max}
use native.Mathlib.Nat.{div-eq_of_lt, zero-div, one-mul, div-le_self}
use native.Mathlib.Omega.{arith}
use lib.Dec.{ltb}
use lib.Bits.{bit_or}
use lib.Pow.{shr-shr, shl_exact}
use mir.Syntax.{w64}
use borrow.Author.Tests.{ltb-true, ltb-false}
use Rattle.lists.specs.Tests.{same}
use Rattle.lists.proofs.Bools.{same_refl, same_true, same_eq, same_false, differ, which}

-- bit j of a word
abbrev pub bit_of : ℕ → ℕ → Bool
bit_of x j = same (x / 2 ^ j % 2) 1

either_bit : (a b : ℕ) → a < 2 → b < 2 → same (max a b) 1 ≡ same a 1 || same b 1
unfolding same
either_bit zero zero p q = refl
either_bit zero (suc zero) p q = refl
either_bit (suc zero) zero p q = refl
either_bit (suc zero) (suc zero) p q = refl
either_bit (suc (suc a)) b p q = absurd (omega arith)
either_bit a (suc (suc b)) p q = absurd (omega arith)

-- a bit is set in one word or the other
pub or-bit : (x y j : ℕ) → bit_of (bit_or x y) j ≡ bit_of x j || bit_of y j
or-bit x y j = ap (λ (r : ℕ). same r 1) (bit_at_or x y j)
    ∙ either_bit (x / 2 ^ j % 2) (y / 2 ^ j % 2) (omega arith) (omega arith)

-- a power of 2 has one bit
pub one_bit : (k j : ℕ) → bit_of (2 ^ k) j ≡ same j k
one_bit k j = elim (which (same j k)) [
  | inl e ↦
      rw (e, same_true j k e) (ap (λ (r : ℕ). same r 1) (bit_at-pow_same k) ∙ same_refl 1)
  | inr e ↦ rw e (ap (λ (r : ℕ). same r 1) (bit_at-pow_other k j (differ j k e)) ∙ same_false 0 1 (λ q. omega arith))
]

-- what the code shifts is that power
pub shifted : (k : ℕ) → k < 64 → (1 * 2 ^ k) % 18446744073709551616 ≡ 2 ^ k
shifted k h = shl_exact 1 k 64 (omega arith) (omega arith) ∙ one-mul (2 ^ k)

-- bit i of what stands above place j
above : (x j i : ℕ) → j ≤ i → bit_of x i ≡ bit_of (x / 2 ^ j) (i - j)
above x j i h =
    let d = i - j in
    let parts : i ≡ j + d = omega arith in
    ap (λ (n : ℕ). bit_of x n) parts ∙ ap (λ (n : ℕ). same (n % 2) 1) (sym (shr-shr x j d))

-- above a place from which on all is 0 every bit is 0
pub bit_none : (x j i : ℕ) → x / 2 ^ j ≡ 0 → j ≤ i → bit_of x i ≡ false
bit_none x j i e h =
    above x j i h ∙ ap (λ (n : ℕ). bit_of n (i - j)) e
    ∙ ap (λ (n : ℕ). same (n % 2) 1) (zero-div (2 ^ (i - j))) ∙ same_false 0 1 (λ q. omega arith)

-- the lowest bit from a place on
module _ (x j : ℕ) (small : x < 2 ^ 64) (some : x / 2 ^ j ≡ 0 → ⊥) where
  abbrev pub low : ℕ
  low = trailing_zeros w64 (x / 2 ^ j)

  found : (low < 64) × (x / 2 ^ j / 2 ^ low % 2 ≡ 1) × ((i : ℕ) → i < low → x / 2 ^ j / 2 ^ i % 2 ≡ 0)
  found = bit_at-trailing_zeros w64 (x / 2 ^ j) (omega arith) (omega (arith, div-le_self x (2 ^ j)))

  pub low_set : bit_of x (j + low) ≡ true
  low_set =
      let back : j + low - j ≡ low = omega arith in
      above x j (j + low) (omega arith) ∙ ap (bit_of (x / 2 ^ j)) back ∙ same_eq _ _ found.1

  pub low_first : (i : ℕ) → j ≤ i → i < j + low → bit_of x i ≡ false
  low_first i p q = above x j i p ∙ ap (λ (r : ℕ). same r 1) (found.2 (i - j) (omega arith))
      ∙ same_false 0 1 (λ q. omega arith)

  pub low_inside : j + low < 64
  low_inside = elim (which (ltb (j + low) 64)) [
    | inl l ↦ ltb-true (j + low) 64 l
    | inr l ↦ absurd (true≢false (sym low_set ∙ bit_none x 64 (j + low) (div-eq_of_lt small) (ltb-false (j + low) 64 l)))
  ]
