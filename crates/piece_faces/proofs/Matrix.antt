-- A bit that is set in the matrix, and the two that relate a piece row to a face row. Assumes nothing.
use mathlib.Core.Path.{◌≡◌, sym, ap, ap₂, ◌∙◌}
use mathlib.Core.Logic.{inl, inr}
use mathlib.Core.Bool.{Bool, false, ◌&&◌, ◌||◌, or-false}
use mathlib.Core.List.{List}
use Prim.Native.Nat.{ℕ, ◌+◌, ◌*◌, ◌/◌, ◌%◌, ◌^◌, ◌<◌, ◌≤◌}
use native.Mathlib.Omega.{arith}
use lib.ListN.{length, get_or, set}
use lib.Seq.{get_or-set_same, get_or-set_other}
use lib.Bits.{bit_or}
use Rattle.lists.specs.Tests.{same}
use Rattle.lists.proofs.Bools.{same_true, same_eq, same_false, equal?, agree, and-true, not-true, eq2, eq3}
use Rattle.piece_faces.specs.Bits.{span, words, bit_at, Joined, Relates}
use Rattle.piece_faces.proofs.Words.{bit_of, or-bit, one_bit}

at_first : (a x y : Bool) → a || y && x || false ≡ a || x && y
at_first = eq3 (λ a x y. a || y && x || false) (λ a x y. a || x && y) tt

at_second : (a b : Bool) → a || false || b ≡ a || b
at_second = eq2 (λ a b. a || false || b) (λ a b. a || b) tt

-- two tests that tell the same
alike : (a b x y : ℕ) → (a ≡ b → x ≡ y) → (x ≡ y → a ≡ b) → same a b ≡ same x y
alike a b x y f g =
    agree (same a b) (same x y) (λ e. same_eq x y (f (same_true a b e))) (λ e. same_eq a b (g (same_true x y e)))

module _ (g : List ℕ) (v y : ℕ) (fits : v * words + words ≤ length g) (low : y < span) where
  -- the matrix with that bit set
  abbrev pub with_bit : List ℕ
  with_bit = set g (v * words + y / 64) (bit_or (get_or g (v * words + y / 64) 0) (2 ^ (y % 64)))

  module _ (w z : ℕ) (h : z < span) where
    in_word : w * words + z / 64 ≡ v * words + y / 64 → bit_at with_bit w z ≡ bit_at g w z || same w v && same z y
    in_word e =
        let row : w ≡ v = omega arith in
        let x = get_or g (v * words + y / 64) 0 in
        let place : same (z % 64) (y % 64) ≡ same w v && same z y =
        alike (z % 64) (y % 64) z y (λ q. omega arith) (λ q. omega arith)
        ∙ ap (λ (b : Bool). b && same z y) (sym (same_eq w v row)) in
        ap (λ (n : ℕ). bit_of n (z % 64))
        (ap (λ (n : ℕ). get_or with_bit n 0) e
        ∙ get_or-set_same g (v * words + y / 64) (bit_or x (2 ^ (y % 64))) 0 (omega arith))
        ∙ or-bit x (2 ^ (y % 64)) (z % 64)
        ∙ ap₂ (λ (a b : Bool). a || b) (ap (λ (n : ℕ). bit_of (get_or g n 0) (z % 64)) (sym e))
        (one_bit (y % 64) (z % 64) ∙ place)

    elsewhere : (w * words + z / 64 ≡ v * words + y / 64 → ⊥)
        → bit_at with_bit w z ≡ bit_at g w z || same w v && same z y
    elsewhere far =
        let x = get_or g (v * words + y / 64) 0 in
        let other : same w v && same z y ≡ false = not-true (same w v && same z y) (λ e.
        let t = and-true (same w v) (same z y) e in
        let row : w ≡ v = same_true w v t.0 in
        let place : z ≡ y = same_true z y t.1 in
        far (omega arith)) in
        ap (λ (n : ℕ). bit_of n (z % 64))
        (get_or-set_other g (v * words + y / 64) (w * words + z / 64) (bit_or x (2 ^ (y % 64))) 0 far)
        ∙ sym (ap (λ (b : Bool). bit_at g w z || b) other ∙ or-false (bit_at g w z))

    pub bit-set : bit_at with_bit w z ≡ bit_at g w z || same w v && same z y
    bit-set = elim (equal? (w * words + z / 64) (v * words + y / 64)) [ inl e ↦ in_word e | inr far ↦ elsewhere far ]

-- the two bits that relate a piece row to a face row
module _ (g g₁ g₂ : List ℕ) (p f : ℕ) (size : length g₂ ≡ length g)
    (first : (w z : ℕ) → z < span → bit_at g₁ w z ≡ bit_at g w z || same w (f * 2) && same z p)
    (second : (w z : ℕ) → z < span → bit_at g₂ w z ≡ bit_at g₁ w z || same w (p * 2 + 1) && same z f) where
  pub joined : Joined g p f g₂
  joined = record {
    size = size;
    bits = λ w z h. second w z h ∙ ap (λ (b : Bool). b || same w (p * 2 + 1) && same z f) (first w z h);
  }

-- a matrix that has a relation then has that pair too
pub related_more : {g g₂ : List ℕ} {p f : ℕ} → Joined g p f g₂ → (r : ℕ → ℕ → Bool) → Relates g r
    → Relates g₂ (λ q h. r q h || same q p && same h f)
related_more {p = p} {f} j r before = record {
  size = j.size ∙ before.size;
  pieces = λ q h a b.
      let hit = alike (h * 2 + 0) (f * 2) h f (λ e. omega arith) (λ e. omega arith) in
      let miss = same_false (h * 2 + 0) (p * 2 + 1) (λ e. omega arith) in
      j.bits (h * 2 + 0) q a ∙ (λ i. before.pieces q h a b i || hit i && same q p || miss i && same q f)
      ∙ at_first (r q h) (same q p) (same h f);
  faces = λ q h a b.
      let hit = alike (q * 2 + 1) (p * 2 + 1) q p (λ e. omega arith) (λ e. omega arith) in
      let miss = same_false (q * 2 + 1) (f * 2) (λ e. omega arith) in
      j.bits (q * 2 + 1) h b ∙ (λ i. before.faces q h a b i || miss i && same h p || hit i && same h f)
      ∙ at_second (r q h) (same q p && same h f);
}
