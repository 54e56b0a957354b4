-- A row's text, number by number. Assumes nothing.
use mathlib.Core.Path.{◌≡◌, ap, ◌∙◌}
use mathlib.Core.Bool.{Bool, true, false, cond}
use mathlib.Core.List.{List, [], ◌∷◌, ◌++◌, append_assoc, flat_map}
use Prim.Native.Nat.{ℕ, zero, suc, ◌+◌, ◌*◌, ◌/◌, ◌%◌, ◌≤◌, ◌<◌}
use native.Mathlib.Numerals.{add-one}
use native.Mathlib.Omega.{arith}
use lib.Dec.{ltb}
use lib.IntN.{ℤ, pos, negsuc}
use lib.ListN.{length, get_or, drop, set, length-append, drop_of_length-le}
use lib.Seq.{sets, drop-cons}
use Rattle.lists.proofs.Appends.{sets_append}
use Rattle.printing.specs.Texts.{digits_of, natural_text, number_text, row_text}

digits_few : (k n : ℕ) → length (digits_of k n) ≤ k
digits_few zero n = omega arith
digits_few (suc k) n = pick (ltb n 10) (digits_of k (n / 10)) (digits_few k (n / 10))
  where
    pick : (b : Bool) (ds : List ℕ) → length ds ≤ k → length (cond b [] ds ++ (48 + n % 10) ∷ []) ≤ suc k
    pick true ds h = omega arith
    pick false ds h = simp length-append (omega arith)

pub natural_few : (n : ℕ) → length (natural_text n) ≤ 20
unfolding natural_text
natural_few n = digits_few 20 n

-- a sign and at most 20 digits
pub number_few : (z : ℤ) → length (number_text z) ≤ 21
number_few (pos n) = let h = natural_few n in omega arith
number_few (negsuc k) = let h = natural_few (suc k) in omega arith

row_cons : (z : ℤ) (row : List ℤ) → row_text (z ∷ row) ≡ 32 ∷ number_text z ++ row_text row
unfolding flat_map
row_cons z row = ap (λ (t : List ℕ). 32 ∷ t)
    (append_assoc (number_text z) (flat_map (λ z. 32 ∷ number_text z) row) (10 ∷ []))

pub row_few : (row : List ℤ) → length (row_text row) ≤ length row * 22 + 1
unfolding flat_map
row_few [] = omega arith
row_few (z ∷ row) =
    let e = ap length (row_cons z row) in
    let f = length-append (number_text z) (row_text row) in
    let h = number_few z in
    let g = row_few row in
    omega arith

-- a blank and the number at i, and then the numbers after it
module _ (row : List ℤ) (i : ℕ) (h : i < length row) (z : ℤ) (is : z ≡ get_or row i (pos 0)) where
  here : row_text (drop i row) ≡ 32 ∷ number_text z ++ row_text (drop (i + 1) row)
  here = ap row_text (drop-cons row i (pos 0) h) ∙ row_cons (get_or row i (pos 0)) (drop (suc i) row) ∙ rw (is, add-one i)

  pub row_turn : (out : List ℕ) (end : ℕ) → sets out end (row_text (drop i row))
      ≡ sets (sets (set out end 32) (end + 1) (number_text z)) (end + 1 + length (number_text z))
      (row_text (drop (i + 1) row))
  row_turn out end =
      ap (sets out end) here
      ∙ sets_append (number_text z) (row_text (drop (i + 1) row)) (set out end 32) (suc end)
      ∙ rw (add-one end)

  pub row_length : (end : ℕ) → end + length (row_text (drop i row))
      ≡ end + 1 + length (number_text z) + length (row_text (drop (i + 1) row))
  row_length end =
      let e = ap length here in
      let f = length-append (number_text z) (row_text (drop (i + 1) row)) in
      omega arith

module _ (row : List ℤ) (i : ℕ) (h : length row ≤ i) where
  pub row_end : row_text (drop i row) ≡ 10 ∷ []
  unfolding flat_map
  row_end = rw (drop_of_length-le row {i = i} h)
