-- Scans over the numbers of rows: by what the rows hold, and past the rows in use. Numbers in a column that rises tell
-- rows apart. Assumes nothing.
use Rattle.std.specs.Prelude.{Some}
use mathlib.Core.Path.{◌≡◌, refl, sym, ap, ap₂, ◌∙◌}
use mathlib.Core.Logic.{inl, inr}
use mathlib.Core.Bool.{Bool, false, ◌||◌}
use mathlib.Core.List.{List, ◌∷◌, map, Memᴰ}
use Prim.Native.Nat.{ℕ, zero, suc, ◌+◌, ◌*◌, ◌<◌, ◌≤◌}
use native.Mathlib.Omega.{arith}
use lib.IntN.{ℤ, pos}
use lib.ListN.{get_or}
use Rattle.lists.specs.Tests.{same}
use Rattle.lists.specs.Scans.{any_of, keep}
use Rattle.lists.specs.Tables.{table, place}
use Rattle.lists.proofs.Bools.{which, agree, same_true, same_eq}
use Rattle.lists.proofs.Scans.{table_in}
use Rattle.tables.specs.Tables.{same_z, column, Rising}
use Rattle.tables.proofs.Lookups.{row_place}

-- ---- what the rows hold

module _ {A : Type 0} (p : A → Bool) (f : ℕ → A) (q : ℕ → Bool) where
  any_from_lem : (a n : ℕ) → ((i : ℕ) → a ≤ i → i < a + n → q i ≡ p (f i)) → any_of q (table (λ i. i) a n)
      ≡ any_of p (table f a n)
  any_from_lem a zero h = refl
  any_from_lem a (suc n) h =
      ap₂ ◌||◌ (h a (omega arith) (omega arith)) (any_from_lem (a + 1) n (λ i s t. h i (omega arith) (omega arith)))

  pub any_rows : (n : ℕ) → ((i : ℕ) → i < n → q i ≡ p (f i)) → any_of q (table (λ i. i) 0 n) ≡ any_of p (table f 0 n)
  any_rows n h = any_from_lem 0 n (λ i s t. h i (omega arith))

-- the rows in use are the first n of s; past them none is taken
module _ (number : ℕ → ℕ) (p q : ℕ → Bool) where
  kept_from : (a n s : ℕ) → n ≤ s → ((i : ℕ) → a ≤ i → i < a + n → p i ≡ q (number i))
      → ((i : ℕ) → a + n ≤ i → i < a + s → p i ≡ false)
      → map number (keep p (table (λ i. i) a s)) ≡ keep q (table number a n)
  kept_from a zero zero le h k = refl
  kept_from a zero (suc s) le h k = rw (k a (omega arith) (omega arith))
      (kept_from (a + 1) zero s (omega arith) (λ i t u. absurd (omega arith))
      (λ i t u. k i (omega arith) (omega arith)))
  kept_from a (suc n) zero le h k = absurd (omega arith)
  kept_from a (suc n) (suc s) le h k =
      let later = kept_from (a + 1) n s (omega arith) (λ i t u. h i (omega arith) (omega arith))
      (λ i t u. k i (omega arith) (omega arith)) in
      let here = h a (omega arith) (omega arith) in
      elim (which (p a)) [
        | inl e ↦ rw (e, sym here ∙ e) (ap (λ l. number a ∷ l) later)
        | inr e ↦ rw (e, sym here ∙ e) later
      ]

  pub kept_rows : (n s : ℕ) → n ≤ s → ((i : ℕ) → i < n → p i ≡ q (number i))
      → ((i : ℕ) → n ≤ i → i < s → p i ≡ false)
      → map number (keep p (table (λ i. i) 0 s)) ≡ keep q (table number 0 n)
  kept_rows n s le h k = kept_from 0 n s le (λ i t u. h i (omega arith)) (λ i t u. k i (omega arith) (omega arith))

-- a listed row is in use
pub below_rows : (n i : ℕ) → Memᴰ i (table (λ i. i) 0 n) → i < n
below_rows n i m = let r = table_in (λ i. i) 0 n m in omega (arith, r.2, r.3)

-- ---- numbers that rise

module _ {w : ℕ} {l : List ℤ} {n : ℕ} (r : Rising w l n) (number : ℕ → ℕ)
    (cell : (i : ℕ) → i < n → get_or l (i * w) (pos 0) ≡ pos (number i)) where
  -- a row is found by its number
  pub row_found_lem : (i : ℕ) → i < n → place (same_z (pos (number i))) 0 (column w l n) ≡ Some i
  row_found_lem i t = ap (λ z. place (same_z z) 0 (column w l n)) (sym (cell i t)) ∙ row_place w l n r i t

  number_once : (i j : ℕ) → i < n → j < n → number i ≡ number j → i ≡ j
  number_once i j t u e =
      let at : Some i ≡ Some j = sym (row_found_lem i t) ∙ ap (λ k. place (same_z (pos k)) 0 (column w l n)) e
      ∙ row_found_lem j u in
      cc

  pub same_rows : (i j : ℕ) → i < n → j < n → same i j ≡ same (number i) (number j)
  same_rows i j t u = agree (same i j) (same (number i) (number j))
      (λ e. same_eq (number i) (number j) (ap number (same_true i j e)))
      (λ e. same_eq i j (number_once i j t u (same_true (number i) (number j) e)))
