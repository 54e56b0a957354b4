-- A word as a number, as the library reads it. Assumes nothing.
use Rattle.std.specs.Prelude.{◌≡◌, Bool, true, false, cond, List, [], ◌∷◌, ℕ, ◌+◌, ◌*◌, ◌-◌, ◌^◌, ◌≤◌, ◌<◌, leb, ℤ, pos, neg_ℤ, None, Result, Ok, Err, length}
use Rattle.std.proofs.Common.{refl, inl, inr, arith}
use Rattle.std.specs.Result.{OkIff, result_ok}
use Rattle.std.specs.Int.{IsInRange}
use Rattle.std.specs.Str.{IsUtf8, IsAscii}
use Rattle.std.specs.Str.Parse.{ParsesSigned}
use Rattle.std.proofs.lemmas.Bool.{le-leb, leb-true}
use Rattle.std.proofs.lemmas.Str.{IsUtf8-from_ascii}
use Rattle.std.proofs.lemmas.Str.Ascii.{IsAscii-cons}
use Rattle.std.proofs.lemmas.Fmt.{IsAscii-from_digits}
use Rattle.std.proofs.lemmas.Str.Parse.{IsDigitsTest, IsNumeralModel, numerals_by_fold, parse_signed_plain, parse_signed_plus, parse_signed_minus}
use mir.Syntax.{w64}
use Rattle.lists.specs.Tests.{same}
use Rattle.lists.specs.Scans.{all_of, fold}
use Rattle.lists.proofs.Bools.{which, and-true, same_true, differ, not-true}
use Rattle.text.specs.Lines.{digit, value_of, signed_number, word_number}

-- one digit more
abbrev pub with_digit : ℕ → ℕ → ℕ
with_digit n b = n * 10 + (b - 48)

-- the largest magnitude with a sign
abbrev pub most : Bool → ℕ
most minus = cond minus (2 ^ 63) (2 ^ 63 - 1)

pub is_digit : (d : ℕ) → 48 ≤ d → d ≤ 57 → digit d ≡ true
is_digit d h g = rw (le-leb 48 d h, le-leb d 57 g)

digit_is : (d : ℕ) → digit d ≡ true → IsInRange 48 57 d
digit_is d e =
    let b = and-true (leb 48 d) (leb d 57) e in
    (leb-true 48 d b.0, leb-true d 57 b.1)

tells : IsDigitsTest (λ ds. all_of digit ds ≡ true)
tells = record {
  empty = refl;
  parts = λ c cs e.
      let b = and-true (digit c) (all_of digit cs) e in
      (digit_is c b.0, b.1);
  more = λ c cs r e. rw (is_digit c r.0 r.1) e;
}

-- the digits and their value are the library's
model : IsNumeralModel (λ ds. all_of digit ds ≡ true) value_of
model = numerals_by_fold (λ ds. all_of digit ds ≡ true) tells (fold with_digit)
    (record { empty = λ n. refl; more = λ n c cs r. refl })

-- ---- text of another encoding is no number

ascii : (ds : List ℕ) → all_of digit ds ≡ true → IsAscii ds
ascii ds e = IsAscii-from_digits ds (model.to ds e)

no_digits : (minus : Bool) (ds : List ℕ) → (all_of digit ds ≡ true → ⊥) → signed_number minus ds ≡ None
no_digits minus [] h = refl
no_digits minus (d ∷ ds) h = rw (not-true (all_of digit (d ∷ ds)) h)

pub no_text : (w : List ℕ) → (IsUtf8 w → ⊥) → word_number w ≡ None
no_text [] h = refl
no_text (b ∷ r) h =
    let after : b < 128 → all_of digit r ≡ true → ⊥ =
    λ p a. h (IsUtf8-from_ascii (b ∷ r) (IsAscii-cons b r p (ascii r a))) in
    elim (which (same b 45)) [
      | inl e ↦ let p = same_true b 45 e in rw e (no_digits true r (after (omega arith)))
      | inr e ↦
          elim (which (same b 43)) [
            | inl f ↦ let p = same_true b 43 f in rw (e, f) (no_digits false r (after (omega arith)))
            | inr f ↦ rw (e, f) (no_digits false (b ∷ r) (λ a. h (IsUtf8-from_ascii (b ∷ r) (ascii (b ∷ r) a))))
          ]
    ]

-- ---- a sign and digits

module _ {E : Type 0} (r : Result ℤ E) where
  abbrev Reads : Bool → List ℕ → Type 0
  Reads minus ds = OkIff r ((all_of digit ds ≡ true) × (0 < length ds) × (value_of ds ≤ most minus))
      (cond minus (neg_ℤ (pos (value_of ds))) (pos (value_of ds)))

reads : {E : Type 0} (r : Result ℤ E) (minus : Bool) (ds : List ℕ) → Reads r minus ds → result_ok r ≡ signed_number minus ds
reads (Ok z) minus [] h = absurd (omega (arith, h.0.1))
reads (Err e) minus [] h = refl
reads (Ok z) minus (d ∷ ds) h = rw (h.0.0, le-leb (value_of (d ∷ ds)) (most minus) h.0.2, h.1)
reads (Err e) minus (d ∷ ds) h =
    let n = value_of (d ∷ ds) in
    elim (which (all_of digit (d ∷ ds))) [
      | inr a ↦ rw a
      | inl a ↦
          elim (which (leb n (most minus))) [
            | inr b ↦ rw (a, b)
            | inl b ↦ absurd (h (a, omega arith, leb-true n (most minus) b))
          ]
    ]

-- 2^63 is one more than the largest without a sign
below : {E : Type 0} (r : Result ℤ E) (ds : List ℕ)
    → OkIff r ((all_of digit ds ≡ true) × (0 < length ds) × (value_of ds < 2 ^ 63)) (pos (value_of ds)) → Reads r false ds
below (Ok z) ds h = ((h.0.0, h.0.1, omega (arith, h.0.2)), h.1)
below (Err e) ds h = λ (a, b, c). h (a, b, omega (arith, c))

pub number_read : {E : Type 0} (w : List ℕ) (r : Result ℤ E) → ParsesSigned w64 10 w r → result_ok r ≡ word_number w
number_read [] r h =
    reads r false [] (below r [] (parse_signed_plain model w64 [] r h (λ e. omega (arith, e)) (λ e. omega (arith, e))))
number_read (b ∷ s) r h =
    elim (which (same b 45)) [
      | inl e ↦ rw e (reads r true s (parse_signed_minus model w64 (b ∷ s) r h (same_true b 45 e)))
      | inr e ↦
          elim (which (same b 43)) [
            | inl f ↦ rw (e, f) (reads r false s (below r s (parse_signed_plus model w64 (b ∷ s) r h (same_true b 43 f))))
            | inr f ↦
                rw (e, f)
                (reads r false (b ∷ s)
                (below r (b ∷ s) (parse_signed_plain model w64 (b ∷ s) r h (differ b 43 f) (differ b 45 e))))
          ]
    ]
