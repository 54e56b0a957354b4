-- Rows of a table with zeros behind: a number read, the row with a number. Assumes nothing.
use mathlib.Core.Path.{◌≡◌, ◌∙◌}
use mathlib.Core.List.{List, [], ◌∷◌, ◌++◌, map, flat_map, append_assoc}
use mathlib.Core.Option.{some}
use Prim.Native.Nat.{ℕ, zero, suc, ◌+◌, ◌*◌, ◌<◌}
use native.Mathlib.Nat.{zero-mul, zero-add, suc-mul}
use native.Mathlib.Omega.{arith}
use lib.IntN.{ℤ, pos}
use lib.ListN.{length, get_or, take, drop, get_or-append}
use lib.Seq.{get_or-append-add}
use Rattle.lists.specs.Tests.{same}
use Rattle.lists.specs.Scans.{find}
use Rattle.lists.specs.Members.{Distinct}
use Rattle.lists.proofs.Bools.{same_refl}
use Rattle.tables.proofs.Numbers.{get_d_in, other}
use Rattle.tables.proofs.Filled.{Wide}

-- ---- rows by place

module _ {A : Type 0} (number : A → ℕ) where
  -- the row with the number of row i
  pub found_at : (xs : List A) → Distinct (map number xs) → (i : ℕ) (d : A) → i < length xs
      → find (λ r. same (number r) (number (get_or xs i d))) xs ≡ some (get_or xs i d)
  found_at [] dis i d t = absurd (omega arith)
  found_at (x ∷ xs) dis zero d t = rw (same_refl (number x))
  found_at (x ∷ xs) dis (suc i) d t = rw (other number x xs dis (get_or xs i d) (get_d_in xs i d (omega arith)))
      (found_at xs dis.1 i d (omega arith))

-- ---- rows of w numbers

module _ {A : Type 0} (w : ℕ) (cells : A → List ℤ) where
  pub wide_without : (xs : List A) (i : ℕ) → Wide w cells xs → Wide w cells (take i xs ++ drop (suc i) xs)
  wide_without [] zero h = tt
  wide_without [] (suc i) h = tt
  wide_without (x ∷ xs) zero h = h.1
  wide_without (x ∷ xs) (suc i) h = (h.0, wide_without xs i h.1)

  -- number k of row i
  pub row_number : (xs : List A) (rest : List ℤ) → Wide w cells xs → (i : ℕ) (d : A) → i < length xs → (k : ℕ) → k < w
      → get_or (flat_map cells xs ++ rest) (i * w + k) (pos 0) ≡ get_or (cells (get_or xs i d)) k (pos 0)
  unfolding flat_map
  row_number [] rest h i d t k b = absurd (omega arith)
  row_number (x ∷ xs) rest h zero d t k b =
      rw (append_assoc, zero-mul, zero-add)
      (get_or-append (cells x) (flat_map cells xs ++ rest) (pos 0) k (omega (arith, h.0)))
  row_number (x ∷ xs) rest h (suc i) d t k b =
      let e : suc i * w + k ≡ length (cells x) + (i * w + k) = omega (arith, h.0, suc-mul i w) in
      rw (append_assoc, e) (get_or-append-add (cells x) (flat_map cells xs ++ rest) (i * w + k) (pos 0)
      ∙ row_number xs rest h.1 i d (omega arith) k b)
