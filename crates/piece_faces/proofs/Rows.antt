-- The bits of a row from a place on: the first is found, or is passed, or a word's rest is passed. Assumes nothing.
use mathlib.Core.Path.{◌≡◌, sym, ap, ◌∙◌}
use mathlib.Core.Logic.{inl, inr}
use mathlib.Core.Bool.{Bool, true, false, not, ◌&&◌}
use mathlib.Core.List.{List, [], ◌∷◌}
use Prim.Native.Nat.{ℕ, zero, suc, ◌+◌, ◌-◌, ◌*◌, ◌/◌, ◌%◌, ◌^◌, ◌<◌, ◌≤◌}
use native.Mathlib.Nat.{add-zero}
use native.Mathlib.Omega.{arith}
use lib.ListN.{get_or}
use Rattle.lists.specs.Tests.{same}
use Rattle.lists.proofs.Scans.{table_step, table-end}
use Rattle.lists.proofs.Bools.{which, and-true, and_is, same_eq, same_false, &&-false}
use Rattle.piece_faces.specs.Bits.{span, words, bit_at, related_but}
use Rattle.piece_faces.proofs.Words.{bit_of, bit_none, low, low_set, low_first, low_inside}

module _ (g : List ℕ) (v but : ℕ) where
  -- what is asked of place y
  abbrev pub taken : ℕ → Bool
  taken y = bit_at g v y && not (same y but)

  pub row_hit : (y : ℕ) → y < span → taken y ≡ true → related_but g v y but ≡ y ∷ related_but g v (y + 1) but
  row_hit y h e =
      let t = and-true (bit_at g v y) (not (same y but)) e in
      rw (table_step (λ (i : ℕ). i) y span h, t.0, t.1)

  pub row_miss : (y : ℕ) → y < span → taken y ≡ false → related_but g v y but ≡ related_but g v (y + 1) but
  row_miss y h e = elim (which (bit_at g v y)) [
    | inl b ↦ let d : not (same y but) ≡ false = rw b at e in rw (table_step (λ (i : ℕ). i) y span h, b, d)
    | inr b ↦ rw (table_step (λ (i : ℕ). i) y span h, b)
  ]

  pub row_end : (y : ℕ) → span ≤ y → related_but g v y but ≡ []
  row_end y h = rw (table-end (λ (i : ℕ). i) y span h)

  skip : (n y : ℕ) → y + n ≤ span → ((i : ℕ) → y ≤ i → i < y + n → bit_at g v i ≡ false) → related_but g v y but
      ≡ related_but g v (y + n) but
  skip zero y h e = ap (λ (k : ℕ). related_but g v k but) (sym (add-zero y))
  skip (suc n) y h e =
      let next : y + 1 + n ≡ y + suc n = omega arith in
      row_miss y (omega arith) (rw (e y (omega arith) (omega arith)))
      ∙ skip n (y + 1) (omega arith) (λ i p q. e i (omega arith) (omega arith))
      ∙ ap (λ (k : ℕ). related_but g v k but) next

  -- a bit of the word of y
  in_word : (y i : ℕ) → i / 64 ≡ y / 64 → (b : Bool) → bit_of (get_or g (v * words + y / 64) 0) (i % 64) ≡ b
      → bit_at g v i ≡ b
  in_word y i word b e = ap (λ (w : ℕ). bit_of (get_or g (v * words + w) 0) (i % 64)) word ∙ e

  -- the rest of a word is 0
  pub row_word : (y : ℕ) → y < span → get_or g (v * words + y / 64) 0 / 2 ^ (y % 64) ≡ 0 → related_but g v y but
      ≡ related_but g v (y + (64 - y % 64)) but
  row_word y h e = skip (64 - y % 64) y (omega arith) (λ i p q. in_word y i (omega arith) false
      (bit_none (get_or g (v * words + y / 64) 0) (y % 64) (i % 64) e (omega arith)))

  -- it is not: its lowest bit is the next that is set
  module _ (y : ℕ) (h : y < span) (small : get_or g (v * words + y / 64) 0 < 2 ^ 64)
      (some : get_or g (v * words + y / 64) 0 / 2 ^ (y % 64) ≡ 0 → ⊥) where
    abbrev word : ℕ
    word = get_or g (v * words + y / 64) 0

    abbrev n : ℕ
    n = low word (y % 64) small some

    inside : y % 64 + n < 64
    inside = low_inside word (y % 64) small some

    set_there : bit_at g v (y + n) ≡ true
    set_there =
        let k = inside in
        let place : (y + n) % 64 ≡ y % 64 + n = omega arith in
        in_word y (y + n) (omega arith) true (ap (bit_of word) place ∙ low_set word (y % 64) small some)

    passed : related_but g v y but ≡ related_but g v (y + n) but
    passed =
        let k = inside in
        skip n y (omega arith) (λ i p q. in_word y i (omega arith) false
        (low_first word (y % 64) small some (i % 64) (omega arith) (omega arith)))

    pub low_hit : (y + n ≡ but → ⊥) → related_but g v y but ≡ (y + n) ∷ related_but g v (y + n + 1) but
    low_hit off =
        let k = inside in
        passed ∙ row_hit (y + n) (omega arith) (and_is set_there (ap not (same_false (y + n) but off)))

    pub low_miss : y + n ≡ but → related_but g v y but ≡ related_but g v (y + n + 1) but
    low_miss e =
        let k = inside in
        passed ∙ row_miss (y + n) (omega arith) (ap (λ (b : Bool). bit_at g v (y + n) && not b) (same_eq (y + n) but e)
        ∙ &&-false (bit_at g v (y + n)))
