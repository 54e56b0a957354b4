-- The rows of a table swept in one go: by their place, and two positions to a row. Assumes nothing.
use mathlib.Core.Path.{◌≡◌, refl, sym, ap, ◌∙◌}
use mathlib.Core.List.{List, [], ◌++◌, flat_map, append_assoc}
use Prim.Native.Nat.{ℕ, zero, suc, ◌+◌, ◌*◌, ◌-◌, ◌<◌}
use native.Mathlib.Nat.{suc-mul, zero-mul}
use native.Mathlib.Numerals.{add-one}
use native.Mathlib.Omega.{arith}
use lib.IntN.{ℤ, pos}
use lib.ListN.{length, get_or, replicate, length-append, get_or-append}
use lib.Seq.{get_or-append-add}
use Rattle.lists.specs.Tables.{table, sweep}
use Rattle.lists.proofs.Scans.{length-table}
use Rattle.tables.specs.Tables.{filled}
use Rattle.tables.proofs.Rows.{each-table}
use Rattle.tables.proofs.Filled.{flat_length}

-- number k of a row in the middle
pub cell_mid : (p b rest : List ℤ) (m k : ℕ) → length p ≡ m → k < length b → get_or (p ++ (b ++ rest)) (m + k) (pos 0)
    ≡ get_or b k (pos 0)
cell_mid p b rest m k e h =
    ap (λ (j : ℕ). get_or (p ++ (b ++ rest)) (j + k) (pos 0)) (sym e) ∙ get_or-append-add p (b ++ rest) k (pos 0)
    ∙ get_or-append b rest (pos 0) k h

-- row i becomes f i
module _ {A : Type 0} (w : ℕ) (cells : A → List ℤ) (g : List ℤ → ℕ → List ℤ) (row f : ℕ → A) (n : ℕ)
    (step : (p rest : List ℤ) (a : ℕ) → a < n → length p ≡ a * w → g (p ++ (cells (row a) ++ rest)) a ≡ p
    ++ (cells (f a) ++ rest))
    (wide : (a : ℕ) → a < n → length (cells (row a)) ≡ w) (wide' : (a : ℕ) → a < n → length (cells (f a)) ≡ w) where
  swept_from : (k a : ℕ) (p rest : List ℤ) → a + k ≡ n → length p ≡ a * w
      → sweep g (p ++ (flat_map cells (table row a k) ++ rest)) a k ≡ p ++ (flat_map cells (table f a k) ++ rest)
  unfolding flat_map
  swept_from zero a p rest h e = refl
  swept_from (suc k) a p rest h e =
      let xs = flat_map cells (table row (a + 1) k) in
      let ys = flat_map cells (table f (a + 1) k) in
      let next : length (p ++ cells (f a)) ≡ (a + 1) * w = length-append p (cells (f a))
      ∙ rw (add-one, suc-mul) (omega (arith, wide' a (omega arith))) in
      ap (λ (r : List ℤ). sweep g (g (p ++ r) a) (a + 1) k) (append_assoc (cells (row a)) xs rest)
      ∙ ap (λ (r : List ℤ). sweep g r (a + 1) k)
      (step p (xs ++ rest) a (omega arith) e ∙ sym (append_assoc p (cells (f a)) (xs ++ rest)))
      ∙ swept_from k (a + 1) (p ++ cells (f a)) rest (omega arith) next
      ∙ append_assoc p (cells (f a)) (ys ++ rest)
      ∙ ap (λ (r : List ℤ). p ++ r) (sym (append_assoc (cells (f a)) ys rest))

  pub swept_rows : (N : ℕ) → sweep g (filled N (flat_map cells (table row 0 n))) 0 n
      ≡ filled N (flat_map cells (table f 0 n))
  swept_rows N =
      let long = flat_length w cells (table row 0 n) (each-table (λ x. length (cells x) ≡ w) row n wide)
      ∙ ap (λ (k : ℕ). k * w) (length-table row 0 n) in
      let long' = flat_length w cells (table f 0 n) (each-table (λ x. length (cells x) ≡ w) f n wide')
      ∙ ap (λ (k : ℕ). k * w) (length-table f 0 n) in
      swept_from n 0 [] (replicate (N - length (flat_map cells (table row 0 n))) (pos 0)) (omega arith)
      (sym (zero-mul w))
      ∙ ap (λ (k : ℕ). flat_map cells (table f 0 n) ++ replicate (N - k) (pos 0)) (long ∙ sym long')

-- two positions to a row
module _ {S : Type 0} (g : S → ℕ → S) where
  abbrev pub both : S → ℕ → S
  both t i = g (g t (i * 2)) (i * 2 + 1)

  pairs_from : (n a : ℕ) (t : S) → sweep g t (a * 2) (n * 2) ≡ sweep both t a n
  pairs_from zero a t = refl
  pairs_from (suc n) a t =
      let e : suc n * 2 ≡ suc (suc (n * 2)) = omega arith in
      let f : a * 2 + 1 + 1 ≡ (a + 1) * 2 = omega arith in
      ap (sweep g t (a * 2)) e ∙ ap (λ (k : ℕ). sweep g (both t a) k (n * 2)) f ∙ pairs_from n (a + 1) (both t a)

  pub sweep_pairs : (n : ℕ) (t : S) → sweep g t 0 (n * 2) ≡ sweep both t 0 n
  sweep_pairs n t = pairs_from n 0 t
