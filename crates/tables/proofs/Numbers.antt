-- Rows in which no number stands twice: to change or take out the row with a number is to do so at its place. Assumes
-- nothing.
use mathlib.Core.Path.{◌≡◌, refl, sym, ap}
use mathlib.Core.Bool.{false, not, cond}
use mathlib.Core.List.Memᴰ
use mathlib.Core.List.{List, [], ◌∷◌, ◌++◌, map, Memᴰ}
use Prim.Native.Nat.{ℕ, zero, suc, ◌<◌}
use native.Mathlib.Omega.{arith}
use lib.ListN.{length, get_or, set, take, drop}
use Rattle.lists.specs.Tests.{same}
use Rattle.lists.specs.Scans.{keep}
use Rattle.lists.specs.Members.{Distinct}
use Rattle.lists.proofs.Bools.{same_refl, same_false}
use Rattle.lists.proofs.Keeps.{keep_all}

pub get_d_in : {A : Type 0} (xs : List A) (i : ℕ) (d : A) → i < length xs → Memᴰ (get_or xs i d) xs
get_d_in [] i d t = absurd (omega arith)
get_d_in (x ∷ xs) zero d t = Memᴰ.head refl
get_d_in (x ∷ xs) (suc i) d t = Memᴰ.tail (get_d_in xs i d (omega arith))

module _ {A : Type 0} (number : A → ℕ) where
  -- the first row's number is none of the others'
  pub other : (x : A) (xs : List A) → Distinct (map number (x ∷ xs)) → (r : A) → Memᴰ r xs
      → same (number x) (number r) ≡ false
  other x xs dis r m = same_false (number x) (number r) (λ e. dis.0 (Memᴰ.cast e (Memᴰ.map number m)))

  other' : (x : A) (xs : List A) → Distinct (map number (x ∷ xs)) → (r : A) → Memᴰ r xs
      → same (number r) (number x) ≡ false
  other' x xs dis r m = same_false (number r) (number x) (λ e. dis.0 (Memᴰ.cast (sym e) (Memᴰ.map number m)))

  pub without_at : (xs : List A) → Distinct (map number xs) → (i : ℕ) (d : A) → i < length xs
      → keep (λ r. not (same (number r) (number (get_or xs i d)))) xs ≡ take i xs ++ drop (suc i) xs
  without_at [] dis i d t = absurd (omega arith)
  without_at (x ∷ xs) dis zero d t = rw (same_refl (number x))
      (keep_all (λ r. not (same (number r) (number x))) xs (λ r m. ap not (other' x xs dis r m)))
  without_at (x ∷ xs) dis (suc i) d t =
      rw (other x xs dis (get_or xs i d) (get_d_in xs i d (omega arith)))
      (ap (λ (l : List A). x ∷ l) (without_at xs dis.1 i d (omega arith)))

  module _ (f : A → A) where
    none_changed : (m : ℕ) (xs : List A) → ((r : A) → Memᴰ r xs → same (number r) m ≡ false)
        → map (λ r. cond (same (number r) m) (f r) r) xs ≡ xs
    none_changed m [] h = refl
    none_changed m (x ∷ xs) h = rw (h x (Memᴰ.head refl))
        (ap (λ (l : List A). x ∷ l) (none_changed m xs (λ r k. h r (Memᴰ.tail k))))

    pub changed_at_lem : (xs : List A) → Distinct (map number xs) → (i : ℕ) (d : A) → i < length xs
        → map (λ r. cond (same (number r) (number (get_or xs i d))) (f r) r) xs ≡ set xs i (f (get_or xs i d))
    changed_at_lem [] dis i d t = absurd (omega arith)
    changed_at_lem (x ∷ xs) dis zero d t = rw (same_refl (number x))
        (ap (λ (l : List A). f x ∷ l) (none_changed (number x) xs (other' x xs dis)))
    changed_at_lem (x ∷ xs) dis (suc i) d t =
        rw (other x xs dis (get_or xs i d) (get_d_in xs i d (omega arith)))
        (ap (λ (l : List A). x ∷ l) (changed_at_lem xs dis.1 i d (omega arith)))
