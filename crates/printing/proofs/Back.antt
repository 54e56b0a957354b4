-- What is printed of a number is read back as that number. Assumes nothing.
use mathlib.Core.Path.{◌≡◌, refl, sym, ◌∙◌}
use mathlib.Core.Logic.{inl, inr}
use mathlib.Core.Bool.{Bool, true, false, cond, true≢false}
use mathlib.Core.List.{List, [], ◌∷◌, ◌++◌}
use Rattle.std.specs.Prelude.{Some}
use Prim.Native.Nat.{ℕ, zero, suc, ◌+◌, ◌*◌, ◌/◌, ◌%◌, ◌^◌, ◌≤◌, ◌<◌}
use native.Mathlib.Nat.{pow-suc}
use native.Mathlib.Omega.{arith}
use lib.Dec.{ltb, leb}
use lib.IntN.{ℤ, pos, negsuc, neg_ℤ}
use lib.ListN.{length, get_or, length-append}
use mir.Syntax.{w64}
use mir.Val.{SFits}
use borrow.Author.Tests.{le-leb, lt-ltb, ltb-true, leb-true}
use Rattle.lists.specs.Scans.{all_of}
use Rattle.lists.proofs.Appends.{fold-append, all_append}
use Rattle.lists.proofs.Bools.{which, same_refl, same_false}
use Rattle.text.specs.Lines.{digit, value_of, signed_number, word_number}
use Rattle.text.proofs.Numerals.{with_digit, most, is_digit}
use Rattle.printing.specs.Texts.{digits_of, natural_text, number_text}

-- digits of a number that k of them hold
record Spells (n : ℕ) (ds : List ℕ) : Type 0 where
  value : value_of ds ≡ n
  digits : all_of digit ds ≡ true
  some_digit : length ds ≡ 0 → ⊥

-- one digit more
module _ (n m : ℕ) (ds : List ℕ) (v : value_of ds ≡ m) (a : all_of digit ds ≡ true) (e : m * 10 + n % 10 ≡ n) where
  spells_more : Spells n (ds ++ (48 + n % 10) ∷ [])
  spells_more = record {
    value = fold-append with_digit 0 ds ((48 + n % 10) ∷ []) ∙ rw v (omega arith);
    digits = all_append digit ds ((48 + n % 10) ∷ []) a (rw (is_digit (48 + n % 10) (omega arith) (omega arith)));
    some_digit = λ z. omega (arith, z, length-append ds ((48 + n % 10) ∷ []));
  }

spelled : (k n : ℕ) → n < 10 ^ suc k → Spells n (digits_of (suc k) n)
spelled zero n h = rw (lt-ltb n 10 (omega arith)) (spells_more n 0 [] refl refl (omega arith))
spelled (suc k) n h =
    elim (which (ltb n 10)) [
      | inl e ↦ let b = ltb-true n 10 e in rw e (spells_more n 0 [] refl refl (omega arith))
      | inr e ↦
          let rest = spelled k (n / 10) (omega (arith, h, pow-suc 10 (suc k))) in
          rw e (spells_more n (n / 10) (digits_of (suc k) (n / 10)) rest.value rest.digits (omega arith))
    ]

read_back : (minus : Bool) (n : ℕ) (ds : List ℕ) → Spells n ds → n ≤ most minus → signed_number minus ds
    ≡ Some (cond minus (neg_ℤ (pos n)) (pos n))
read_back minus n [] s h = absurd (s.some_digit refl)
read_back minus n (d ∷ ds) s h = rw (s.digits, s.value, le-leb n (most minus) h)

first_digit : (n : ℕ) (ds : List ℕ) → Spells n ds → 48 ≤ get_or ds 0 0
first_digit n [] s = absurd (s.some_digit refl)
first_digit n (d ∷ ds) s =
    elim (which (leb 48 d)) [
      | inl e ↦ leb-true 48 d e
      | inr e ↦ absurd (true≢false (sym s.digits ∙ rw e))
    ]

number_plain : (w : List ℕ) → (length w ≡ 0 → ⊥) → (get_or w 0 0 ≡ 45 → ⊥) → (get_or w 0 0 ≡ 43 → ⊥) → word_number w
    ≡ signed_number false w
number_plain [] h m e = absurd (h refl)
number_plain (b ∷ r) h m e = rw (same_false b 45 m, same_false b 43 e)

-- 20 digits hold it
spelled_natural : (n : ℕ) → n < 10 ^ 20 → Spells n (natural_text n)
unfolding natural_text
spelled_natural n h = spelled 19 n h

pub printed_back : (z : ℤ) → SFits w64 z → word_number (number_text z) ≡ Some z
printed_back (pos n) f =
    let fits : n < 2 ^ 63 = f.sfits in
    let s = spelled_natural n (omega arith) in
    let first = first_digit n (natural_text n) s in
    number_plain (natural_text n) s.some_digit (λ e. omega arith) (λ e. omega arith)
    ∙ read_back false n (natural_text n) s (omega arith)
printed_back (negsuc k) f =
    let fits : k < 2 ^ 63 = f.sfits in
    rw (same_refl 45) (read_back true (suc k) (natural_text (suc k)) (spelled_natural (suc k) (omega arith)) (omega arith))
