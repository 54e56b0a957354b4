-- The matrix of zeros, and with what the rows that a loop has passed relate. Assumes nothing.
use mathlib.Core.Path.{◌≡◌, refl, sym, ap, ◌∙◌, subst}
use mathlib.Core.Bool.{Bool, true, false, ◌||◌, or-false, or_assoc}
use mathlib.Core.List.{List}
use Prim.Native.Nat.{ℕ, zero, suc, ◌+◌, ◌*◌, ◌/◌, ◌%◌}
use native.Mathlib.Nat.{zero-add}
use native.Mathlib.Numerals.{add-one}
use native.Mathlib.Omega.{arith}
use lib.ListN.{length, get_or, replicate, length-replicate}
use Rattle.lists.specs.Scans.{any_of}
use Rattle.lists.specs.Tables.{table}
use Rattle.lists.proofs.Appends.{any_append}
use Rattle.lists.proofs.Scans.{table_last}
use Rattle.piece_faces.specs.Bits.{words, cells, bit_at, vertex_of, Relates}
use Rattle.piece_faces.proofs.Words.{bit_of, bit_none}

-- a relation that says the same
pub relates_as : {g : List ℕ} {r s : ℕ → ℕ → Bool} → ((p f : ℕ) → r p f ≡ s p f) → Relates g r → Relates g s
relates_as e h = record {
  size = h.size;
  pieces = λ p f a b. h.pieces p f a b ∙ e p f;
  faces = λ p f a b. h.faces p f a b ∙ e p f;
}

-- a matrix of zeros
zero-cell : (n i a : ℕ) → get_or (replicate n a) i a ≡ a
zero-cell zero i a = refl
zero-cell (suc n) zero a = refl
zero-cell (suc n) (suc i) a = zero-cell n i a

pub relates_none : {g : List ℕ} → g ≡ replicate cells 0 → Relates g (λ p f. false)
relates_none {g} e = record {
  size = ap length e ∙ length-replicate {A = ℕ} cells 0;
  pieces = λ p f a b. unset (vertex_of false f) p;
  faces = λ p f a b. unset (vertex_of true p) f;
}
  where
    unset : (v y : ℕ) → bit_at g v y ≡ false
    unset v y = ap (λ (x : ℕ). bit_of x (y % 64))
        (ap (λ (l : List ℕ). get_or l (v * words + y / 64) 0) e ∙ zero-cell cells (v * words + y / 64) 0)
        ∙ bit_none 0 0 (y % 64) refl (omega arith)

-- from g to g' the matrix gained what t relates
abbrev pub Gains : (ℕ → ℕ → Bool) → List ℕ → List ℕ → Type 0
Gains t g g' = (r : ℕ → ℕ → Bool) → Relates g r → Relates g' (λ p f. r p f || t p f)

-- it gained what the rows below i relate
abbrev pub Passed : (ℕ → ℕ → ℕ → Bool) → ℕ → List ℕ → List ℕ → Type 0
Passed hits i g g' = Gains (λ p f. any_of (hits p f) (table (λ k. k) 0 i)) g g'

module _ (hits : ℕ → ℕ → ℕ → Bool) where
  pub passed_none : (g : List ℕ) → Passed hits 0 g g
  passed_none g r = relates_as (λ p f. sym (or-false (r p f)))

  -- row i apart, of the rows up to it
  one_more : (i p f : ℕ) (b : Bool) → b || any_of (hits p f) (table (λ k. k) 0 i) || hits p f i
      ≡ b || any_of (hits p f) (table (λ k. k) 0 (i + 1))
  one_more i p f b =
      let last = ap (table (λ (k : ℕ). k) 0) (add-one i) ∙ table_last (λ k. k) 0 i in
      rw (last, any_append, zero-add, or-false, or_assoc)

  pub passed_more : (i : ℕ) (g g₁ g₂ : List ℕ) → Passed hits i g g₁ → Gains (λ p f. hits p f i) g₁ g₂
      → Passed hits (i + 1) g g₂
  passed_more i g g₁ g₂ before more r h =
      relates_as (λ p f. one_more i p f (r p f))
      (more (λ p f. r p f || any_of (hits p f) (table (λ k. k) 0 i)) (before r h))

  pub passed_turn : (i n : ℕ) → n ≡ i + 1 → (g g₁ g₂ : List ℕ) → Passed hits i g g₁ → Gains (λ p f. hits p f i) g₁ g₂
      → Passed hits n g g₂
  passed_turn i n e g g₁ g₂ before more =
      subst (λ (k : ℕ). Passed hits k g g₂) (sym e) (passed_more i g g₁ g₂ before more)
