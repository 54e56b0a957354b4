-- A list of rows with one row less, or with one replaced: its places, numbers and widths. Assumes nothing.
use mathlib.Core.Path.{◌≡◌, refl, ap, ◌∙◌}
use mathlib.Core.Logic.{inl, inr, ⊎_elim}
use mathlib.Core.List.Memᴰ
use mathlib.Core.List.{List, [], ◌∷◌, ◌++◌, map, Memᴰ}
use Prim.Native.Nat.{ℕ, zero, suc, ◌-◌, ◌<◌}
use native.Mathlib.Omega.{arith}
use lib.Dec.{ltb}
use lib.IntN.{ℤ}
use lib.ListN.{length, get_or, set, take, drop, length-append, length-drop}
use lib.Seq.{length-take-le}
use borrow.Author.Tests.{ltb-true, ltb-false, lt-ltb, le-ltb}
use Rattle.lists.specs.Members.{Distinct}
use Rattle.lists.proofs.Bools.{which}
use Rattle.tables.proofs.Filled.{Wide}
use Rattle.edit_heal.specs.Heals.{closed_up}

-- element j is gone
abbrev pub less : {A : Type 0} → ℕ → List A → List A
less j xs = take j xs ++ drop (suc j) xs

closed_step : (i j : ℕ) → closed_up (suc i) (suc j) ≡ suc (closed_up i j)
closed_step i j =
    elim (which (ltb j i)) [
      | inl e ↦ let t = ltb-true j i e in rw (e, lt-ltb (suc j) (suc i) (omega arith)) (omega arith)
      | inr e ↦ let t = ltb-false j i e in rw (e, le-ltb (suc j) (suc i) (omega arith))
    ]

closed_first : (j : ℕ) → closed_up 0 (suc j) ≡ 0
closed_first j = rw (le-ltb (suc j) 0 (omega arith))

closed_after : (i : ℕ) → closed_up (suc i) 0 ≡ i
closed_after i = rw (lt-ltb 0 (suc i) (omega arith)) (omega arith)

pub closed_below : (n i j : ℕ) → i < n → j < n → (i ≡ j → ⊥) → closed_up i j < n - 1
closed_below n i j h k d =
    elim (which (ltb j i)) [
      | inl e ↦ rw e (let t = ltb-true j i e in omega arith)
      | inr e ↦ rw e
          (let t = ltb-false j i e in omega arith)
    ]

module _ {A : Type 0} where
  pub less_length : (j : ℕ) (xs : List A) → j < length xs → length (less j xs) ≡ length xs - 1
  less_length j xs h = length-append (take j xs) (drop (suc j) xs)
      ∙ rw (length-take-le j xs (omega arith), length-drop (suc j) xs) (omega arith)

  pub less_at : (xs : List A) (i j : ℕ) (d : A) → (i ≡ j → ⊥) → get_or (less j xs) (closed_up i j) d ≡ get_or xs i d
  less_at [] i zero d n = refl
  less_at [] i (suc j) d n = refl
  less_at (x ∷ xs) zero zero d n = absurd (n refl)
  less_at (x ∷ xs) (suc i) zero d n = ap (λ (k : ℕ). get_or xs k d) (closed_after i)
  less_at (x ∷ xs) zero (suc j) d n = ap (λ (k : ℕ). get_or (x ∷ less j xs) k d) (closed_first j)
  less_at (x ∷ xs) (suc i) (suc j) d n = ap (λ (k : ℕ). get_or (x ∷ less j xs) k d) (closed_step i j)
      ∙ less_at xs i j d (λ e. n (ap suc e))

  module _ (number : A → ℕ) where
    less_in : (j : ℕ) (xs : List A) {k : ℕ} → Memᴰ k (map number (less j xs)) → Memᴰ k (map number xs)
    less_in zero [] m = m
    less_in (suc j) [] m = m
    less_in zero (x ∷ xs) m = Memᴰ.tail m
    less_in (suc j) (x ∷ xs) m = ⊎_elim (λ e. Memᴰ.head e) (λ r. Memᴰ.tail (less_in j xs r))
        (Memᴰ.cases_cons m)

    pub less_distinct : (j : ℕ) (xs : List A) → Distinct (map number xs) → Distinct (map number (less j xs))
    less_distinct zero [] d = tt
    less_distinct (suc j) [] d = tt
    less_distinct zero (x ∷ xs) d = d.1
    less_distinct (suc j) (x ∷ xs) d = (λ m. d.0 (less_in j xs m), less_distinct j xs d.1)

    -- a row of the same number in the place of one
    pub set-numbers : (xs : List A) (i : ℕ) (y d : A) → number y ≡ number (get_or xs i d) → map number (set xs i y)
        ≡ map number xs
    set-numbers [] i y d e = refl
    set-numbers (x ∷ xs) zero y d e = ap (λ (k : ℕ). k ∷ map number xs) e
    set-numbers (x ∷ xs) (suc i) y d e = ap (λ (l : List ℕ). number x ∷ l) (set-numbers xs i y d e)

  module _ (w : ℕ) (cells : A → List ℤ) where
    pub less_wide : (j : ℕ) (xs : List A) → Wide w cells xs → Wide w cells (less j xs)
    less_wide zero [] h = tt
    less_wide (suc j) [] h = tt
    less_wide zero (x ∷ xs) h = h.1
    less_wide (suc j) (x ∷ xs) h = (h.0, less_wide j xs h.1)
