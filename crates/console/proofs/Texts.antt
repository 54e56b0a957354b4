-- Texts put at the front of a buffer, and the rows that they print. Assumes nothing.
use mathlib.Core.Path.{◌≡◌, refl, sym, ap, ◌∙◌}
use mathlib.Core.List.{List, [], ◌∷◌, ◌++◌, append-nil, append_assoc, flat_map}
use Prim.Native.Nat.{ℕ, ◌+◌, ◌≤◌}
use native.Mathlib.Omega.{arith}
use lib.IntN.{ℤ}
use lib.ListN.{length, take, drop, set, length-append}
use lib.Seq.{sets, sets-eq, length-sets, length-take-le, take-append_seam}
use Rattle.lists.proofs.Appends.{sets_append}
use Rattle.head.specs.Heads.{head_in}
use Rattle.printing.specs.Texts.{natural_text, number_text, row_text}
use Rattle.printing.proofs.Rows.{natural_few, row_few}
use Rattle.console.specs.Texts.{answer_text, tagged_text, head_numbers, TextPut}

-- a text that fits
pub text_put : (before text after : List ℕ) (r : ℕ) → after ≡ sets before 0 text → r ≡ length text
    → length text ≤ length before → TextPut before text after r
text_put before text after r e n h =
    let size : length after ≡ length before = ap length e ∙ length-sets before 0 text in
    let within : r ≤ length after = omega arith in
    record { puts = e; count = n; fits = within; front = sym (length-take-le r after within) }

-- a row of one number
one_text : (z : ℤ) → row_text (z ∷ []) ≡ 32 ∷ number_text z ++ 10 ∷ []
unfolding flat_map
one_text z = rw (append-nil (number_text z))

module _ (before middle after : List ℕ) (refusal at r : ℕ) (value : ℤ)
    (e : middle ≡ sets before 0 (natural_text refusal)) (n : at ≡ 0 + length (natural_text refusal))
    (f : after ≡ sets middle at (row_text (value ∷ []))) (m : r ≡ at + length (row_text (value ∷ [])))
    (size : 43 ≤ length before) where
  whole : natural_text refusal ++ row_text (value ∷ []) ≡ answer_text refusal value
  unfolding answer_text
  whole = ap (λ (t : List ℕ). natural_text refusal ++ t) (one_text value)
      ∙ sym (append_assoc (natural_text refusal) (32 ∷ number_text value) (10 ∷ []))

  total : length (answer_text refusal value) ≡ length (natural_text refusal) + length (row_text (value ∷ []))
  total = ap length (sym whole) ∙ length-append (natural_text refusal) (row_text (value ∷ []))

  pub answer-put : TextPut before (answer_text refusal value) after r
  answer-put =
      text_put before (answer_text refusal value) after r
      (f ∙ (λ i. sets (e i) (n i) (row_text (value ∷ [])))
      ∙ sym (sets_append (natural_text refusal) (row_text (value ∷ [])) before 0) ∙ ap (sets before 0) whole)
      (omega (arith, m, n, total))
      (omega (arith, total, natural_few refusal, row_few (value ∷ [])))

pub tagged_put : (before after : List ℕ) (tag r : ℕ) (row : List ℤ)
    → after ≡ sets (set before 0 tag) 1 (row_text row) → r ≡ 1 + length (row_text row)
    → length row ≤ 32 → 706 ≤ length before → TextPut before (tagged_text tag row) after r
unfolding tagged_text
tagged_put before after tag r row e n h size =
    text_put before (tag ∷ row_text row) after r e (omega arith) (omega (arith, row_few row))

-- the head's numbers are those that it is read from
pub head_numbers_lem : (l : List ℤ) → length l ≡ 7 → l ≡ head_numbers (head_in l)
head_numbers_lem [] e = absurd (omega arith)
head_numbers_lem (a ∷ []) e = absurd (omega arith)
head_numbers_lem (a ∷ b ∷ []) e = absurd (omega arith)
head_numbers_lem (a ∷ b ∷ c ∷ []) e = absurd (omega arith)
head_numbers_lem (a ∷ b ∷ c ∷ d ∷ []) e = absurd (omega arith)
head_numbers_lem (a ∷ b ∷ c ∷ d ∷ f ∷ []) e = absurd (omega arith)
head_numbers_lem (a ∷ b ∷ c ∷ d ∷ f ∷ g ∷ []) e = absurd (omega arith)
head_numbers_lem (a ∷ b ∷ c ∷ d ∷ f ∷ g ∷ h ∷ []) e = refl
head_numbers_lem (a ∷ b ∷ c ∷ d ∷ f ∷ g ∷ h ∷ i ∷ l) e = absurd (omega arith)

-- the part of the buffer that is written is the text
pub text_taken : (before text after : List ℕ) (r : ℕ) → TextPut before text after r → take r after ≡ text
text_taken before text after r p =
    let size = ap length p.puts ∙ length-sets before 0 text in
    let fits : 0 + length text ≤ length before = omega (arith, p.fits, p.count) in
    rw (p.puts, p.count, sets-eq text before 0 fits) (take-append_seam text (drop (0 + length text) before))
