-- Signed numbers as words: casts of one that is not negative, the other sign, and the magnitude of a negative one.
-- Assumes nothing.
use Rattle.std.specs.Prelude.{◌≡◌, refl, true, false, ℕ, zero, suc, ◌+◌, ◌-◌, ◌^◌, ◌≤◌, ◌<◌, T, ℤ, pos, negsuc, nat_abs, ◌+ℤ◌, ◌-ℤ◌}
use Rattle.std.proofs.Common.{sym, ap, subst, true≢false, zero-add, lt_of_le_of_lt, add-one, arith, to_z-of_z, lt-ltb, ltb-true}
use Rattle.std.specs.Int.Signed.{mag, lt_z, non_neg}
use Rattle.std.specs.Int.{w64}
use mir.Val.{of_z, to_z, SFits, Fits, hbits}
use Rattle.std.proofs.Math.Facts.{to_z_pos, Fits-nat_abs}
use borrow.Author.Rules.{sfits_of}

-- a number handed on is the number that was sent
pub sent : {z : ℤ} → mag z < 2 ^ hbits w64 → to_z w64 (of_z w64 z) ≡ z
sent p = to_z-of_z {w = w64} (sfits_of p)

pub not_negative : (z : ℤ) → lt_z z (pos 0) ≡ false → T (non_neg z)
not_negative (pos n) e = tt
not_negative (negsuc n) e = absurd (true≢false e)

-- a number that is not negative is cast to itself
pub cast_natural : {z : ℤ} → SFits w64 z → lt_z (to_z w64 (of_z w64 z)) (pos 0) ≡ false
    → T (non_neg (to_z w64 (of_z w64 z))) × Fits w64 (nat_abs (to_z w64 (of_z w64 z)))
cast_natural {z} f e = rw (to_z-of_z f) (
  not_negative z (rw (to_z-of_z f) at e),
  Fits-nat_abs {w = w64} {w' = w64} {z = z} tt f,
)

pub natural_cast : (z : ℤ) → non_neg z ≡ true → SFits w64 z → T (non_neg z) × Fits w64 (nat_abs z)
natural_cast z e f = (subst T (sym e) tt, Fits-nat_abs {w = w64} {w' = w64} {z = z} tt f)

minus_mag : (n : ℕ) → mag (pos 0 -ℤ pos n) ≤ n
minus_mag zero = omega arith
minus_mag (suc k) = rw (lt-ltb 0 (suc k) (omega arith)) (omega arith)

-- the lower half of the bits, with the other sign
pub minus_fits : (n : ℕ) → n < 2 ^ 63 → SFits w64 (pos 0 -ℤ to_z w64 n)
minus_fits n b = rw (to_z_pos w64 b) (sfits_of (lt_of_le_of_lt (minus_mag n) b))

-- ---- - (z + 1), where z is negative

next : (k : ℕ) → negsuc (suc k) +ℤ pos 1 ≡ negsuc k
next k =
    let e : suc (suc k) - 2 ≡ k = omega arith in
    rw (lt-ltb 1 (suc (suc k)) (omega arith), e)

turned : (n : ℕ) → pos 0 -ℤ (negsuc n +ℤ pos 1) ≡ pos n
turned zero = refl
turned (suc k) = rw (next k) (ap pos (zero-add (suc k)))

next_mag : (n : ℕ) → mag (negsuc n +ℤ pos 1) ≤ n
next_mag zero = omega arith
next_mag (suc k) = rw (next k) (omega arith)

sums_fit : (z : ℤ) → SFits w64 z → lt_z z (pos 0) ≡ true
    → SFits w64 (z +ℤ pos 1) × SFits w64 (pos 0 -ℤ (z +ℤ pos 1)) × T (non_neg (pos 0 -ℤ (z +ℤ pos 1)))
    × (nat_abs (pos 0 -ℤ (z +ℤ pos 1)) + 1 ≡ nat_abs z)
sums_fit (pos n) f e = absurd (omega (arith, ltb-true n 0 e))
sums_fit (negsuc n) f e =
    let b : n < 2 ^ 63 = f.sfits in
    (sfits_of (lt_of_le_of_lt (next_mag n) b), rw (turned n) (sfits_of b), rw (turned n) tt, rw (turned n) (add-one n))

module _ {z : ℤ} (f : SFits w64 z) (e : lt_z (to_z w64 (of_z w64 z)) (pos 0) ≡ true) where
  all : SFits w64 (z +ℤ pos 1) × SFits w64 (pos 0 -ℤ (z +ℤ pos 1)) × T (non_neg (pos 0 -ℤ (z +ℤ pos 1)))
      × (nat_abs (pos 0 -ℤ (z +ℤ pos 1)) + 1 ≡ nat_abs z)
  all = sums_fit z f (rw (to_z-of_z f) at e)

  pub next_fits : SFits w64 (to_z w64 (of_z w64 z) +ℤ pos 1)
  next_fits = rw (to_z-of_z f) all.0

  pub turned-fits : SFits w64 (pos 0 -ℤ to_z w64 (of_z w64 (to_z w64 (of_z w64 z) +ℤ pos 1)))
  turned-fits = rw (to_z-of_z f, to_z-of_z all.0) all.1

  pub cast_turned : T (non_neg (to_z w64 (of_z w64 (pos 0 -ℤ to_z w64 (of_z w64 (to_z w64 (of_z w64 z) +ℤ pos 1))))))
      × Fits w64 (nat_abs (to_z w64 (of_z w64 (pos 0 -ℤ to_z w64 (of_z w64 (to_z w64 (of_z w64 z) +ℤ pos 1))))))
  cast_turned =
      rw (to_z-of_z f, to_z-of_z all.0, to_z-of_z all.1)
      (all.2, Fits-nat_abs {w = w64} {w' = w64} {z = pos 0 -ℤ (z +ℤ pos 1)} tt all.1)

  pub turned-next : nat_abs (to_z w64 (of_z w64 (pos 0 -ℤ to_z w64 (of_z w64 (to_z w64 (of_z w64 z) +ℤ pos 1))))) + 1
      ≡ nat_abs z
  turned-next = rw (to_z-of_z f, to_z-of_z all.0, to_z-of_z all.1) all.3

  pub turned_word : Fits w64 (nat_abs (to_z w64
      (of_z w64 (pos 0 -ℤ to_z w64 (of_z w64 (to_z w64 (of_z w64 z) +ℤ pos 1))))) + 1)
  turned_word = subst (Fits w64) (sym turned-next) (Fits-nat_abs {w = w64} {w' = w64} {z = z} tt f)
