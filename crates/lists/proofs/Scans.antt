-- Laws of scans over a table's rows, each at the rows that are left from i on, `table f i (n - i)`:
-- a turn of the loop is `-hit` or `-miss` (`count_step`, `fold_step`, `sweep_step`), and the loop's end is `-end`.
-- Assumes nothing.
use Rattle.std.specs.Prelude.{Some, None}
use mathlib.Core.Path.{◌≡◌, refl, sym, ap, ◌∙◌, subst}
use mathlib.Core.Logic.{inl, inr}
use mathlib.Core.List.Memᴰ
use mathlib.Core.List.{List, [], ◌∷◌, ◌++◌, Memᴰ}
use mathlib.Core.Bool.{Bool, true, false}
use Prim.Native.Nat.{ℕ, zero, suc, ◌+◌, ◌-◌, ◌<◌, ◌≤◌}
use native.Mathlib.Nat.{add-zero, sub-zero, eq-or-lt_of_le}
use native.Mathlib.Numerals.{add-one}
use native.Mathlib.Omega.{arith}
use lib.ListN.{length, get_or}
use Rattle.lists.specs.Tests.{bit}
use Rattle.lists.specs.Scans.{any_of, all_of, count_of, fold}
use Rattle.lists.specs.Tables.{table, sweep, place}

left : (i n : ℕ) → i < n → n - i ≡ suc (n - (i + 1))
left i n h = omega arith

none : (i n : ℕ) → n ≤ i → n - i ≡ 0
none i n h = omega arith

module _ {S : Type 0} (g : S → ℕ → S) (s : S) (i n : ℕ) where
  pub sweep_step : i < n → sweep g s i (n - i) ≡ sweep g (g s i) (i + 1) (n - (i + 1))
  sweep_step h = rw (left i n h)

  pub sweep-end : n ≤ i → sweep g s i (n - i) ≡ s
  sweep-end h = rw (none i n h)

module _ {A : Type 0} (f : ℕ → A) (i n : ℕ) where
  pub table_step : i < n → table f i (n - i) ≡ f i ∷ table f (i + 1) (n - (i + 1))
  table_step h = rw (left i n h)

  pub table-end : n ≤ i → table f i (n - i) ≡ []
  table-end h = rw (none i n h)

  module _ (p : A → Bool) where
    pub place_hit : i < n → p (f i) ≡ true → place p i (table f i (n - i)) ≡ Some i
    place_hit h e = rw (table_step h, e)

    pub place_miss : i < n → p (f i) ≡ false → place p i (table f i (n - i))
        ≡ place p (i + 1) (table f (i + 1) (n - (i + 1)))
    place_miss h e = rw (table_step h, e)

    pub place_end : n ≤ i → place p i (table f i (n - i)) ≡ None
    place_end h = rw (table-end h)

    pub any_hit : i < n → p (f i) ≡ true → any_of p (table f i (n - i)) ≡ true
    any_hit h e = rw (table_step h, e)

    pub any_miss : i < n → p (f i) ≡ false → any_of p (table f i (n - i)) ≡ any_of p (table f (i + 1) (n - (i + 1)))
    any_miss h e = rw (table_step h, e)

    pub any_end : n ≤ i → any_of p (table f i (n - i)) ≡ false
    any_end h = rw (table-end h)

    pub all_hit : i < n → p (f i) ≡ true → all_of p (table f i (n - i)) ≡ all_of p (table f (i + 1) (n - (i + 1)))
    all_hit h e = rw (table_step h, e)

    pub all_miss : i < n → p (f i) ≡ false → all_of p (table f i (n - i)) ≡ false
    all_miss h e = rw (table_step h, e)

    pub all_end : n ≤ i → all_of p (table f i (n - i)) ≡ true
    all_end h = rw (table-end h)

    pub count_step : i < n → count_of p (table f i (n - i)) ≡ bit (p (f i)) + count_of p (table f (i + 1) (n - (i + 1)))
    count_step h = rw (table_step h)

    pub count_end : n ≤ i → count_of p (table f i (n - i)) ≡ 0
    count_end h = rw (table-end h)

  module _ {S : Type 0} (g : S → A → S) (s : S) where
    pub fold_step : i < n → fold g s (table f i (n - i)) ≡ fold g (g s (f i)) (table f (i + 1) (n - (i + 1)))
    fold_step h = rw (table_step h)

    pub fold_end : n ≤ i → fold g s (table f i (n - i)) ≡ s
    fold_end h = rw (table-end h)

-- ---- a table's elements

module _ {A : Type 0} (f : ℕ → A) where
  pub length-table : (a n : ℕ) → length (table f a n) ≡ n
  length-table a zero = refl
  length-table a (suc n) = ap suc (length-table (a + 1) n)

  next : (a i : ℕ) → a + 1 + i ≡ a + suc i
  next a i = omega arith

  pub get_d_table : (a n i : ℕ) (d : A) → i < n → get_or (table f a n) i d ≡ f (a + i)
  get_d_table a zero i d h = absurd (omega arith)
  get_d_table a (suc n) zero d h = ap f (sym (add-zero a))
  get_d_table a (suc n) (suc i) d h = get_d_table (a + 1) n i d (omega arith) ∙ ap f (next a i)

  -- one more at the end
  pub table_last : (a n : ℕ) → table f a (suc n) ≡ table f a n ++ f (a + n) ∷ []
  table_last a zero = ap (λ (i : ℕ). f i ∷ []) (sym (add-zero a))
  table_last a (suc n) =
      ap (λ (l : List A). f a ∷ l) (table_last (a + 1) n ∙ ap (λ (i : ℕ). table f (a + 1) n ++ f i ∷ []) (next a n))

  -- two tables whose elements are the same
  pub table_same : (g : ℕ → A) (a n : ℕ) → ((i : ℕ) → a ≤ i → i < a + n → f i ≡ g i) → table f a n ≡ table g a n
  table_same g a zero h = refl
  table_same g a (suc n) h =
      ap (λ (r : A). r ∷ table f (a + 1) n) (h a (omega arith) (omega arith))
      ∙ ap (λ (l : List A). g a ∷ l) (table_same g (a + 1) n (λ i p q. h i (omega arith) (omega arith)))

  module _ (p : A → Bool) where
    -- a search that has passed i elements that p does not take
    pub place_skip : (n i : ℕ) → i ≤ n → ((k : ℕ) → k < i → p (f k) ≡ false) → place p i (table f i (n - i))
        ≡ place p 0 (table f 0 n)
    place_skip n zero h all_of = rw sub-zero
    place_skip n (suc i) h all_of =
        subst (λ (k : ℕ). place p k (table f k (n - k)) ≡ place p 0 (table f 0 n)) (add-one i)
        (sym (place_miss f i n p (omega arith) (all_of i (omega arith)))
        ∙ place_skip n i (omega arith) (λ k l. all_of k (omega arith)))

    pub place_at : (n i : ℕ) → i < n → ((k : ℕ) → k < i → p (f k) ≡ false) → p (f i) ≡ true → place p 0 (table f 0 n)
        ≡ Some i
    place_at n i h all_of e = sym (place_skip n i (omega arith) all_of) ∙ place_hit f i n p h e

    pub place_none : (n : ℕ) → ((k : ℕ) → k < n → p (f k) ≡ false) → place p 0 (table f 0 n) ≡ None
    place_none n all_of = sym (place_skip n n (omega arith) all_of) ∙ place_end f n n p (omega arith)

module _ {A : Type 0} where
  -- what takes each element takes all
  pub all_of-table : (p : A → Bool) (f : ℕ → A) (a n : ℕ) → ((i : ℕ) → a ≤ i → i < a + n → p (f i) ≡ true)
      → all_of p (table f a n) ≡ true
  all_of-table p f a zero h = refl
  all_of-table p f a (suc n) h = rw (h a (omega arith) (omega arith))
      (all_of-table p f (a + 1) n (λ i s t. h i (omega arith) (omega arith)))

  -- each place has its element
  pub table_has : (f : ℕ → A) (a n i : ℕ) → a ≤ i → i < a + n → Memᴰ (f i) (table f a n)
  table_has f a zero i s t = absurd (omega arith)
  table_has f a (suc n) i s t =
      let later = table_has f (a + 1) n i in
      elim (eq-or-lt_of_le s) [
        | inl e ↦ Memᴰ.head (ap f (sym e))
        | inr h ↦ Memᴰ.tail (later (omega arith) (omega arith))
      ]

  -- an element has a place
  pub table_in : (f : ℕ → A) (a n : ℕ) {x : A} → Memᴰ x (table f a n) → (i : ℕ) × (a ≤ i) × (i < a + n) × (f i ≡ x)
  table_in f a zero m = absurd (Memᴰ.not-nil m)
  table_in f a (suc n) {x} m =
      let later = table_in f (a + 1) n {x = x} in
      elim (Memᴰ.cases_cons m) [
        | inl e ↦ (a, omega arith, omega arith, sym e)
        | inr k ↦ let r = later k in let s : a + 1 ≤ r.0 = r.1 in let t : r.0 < a + 1 + n = r.2 in
            (r.0, omega arith, omega arith, r.3)
      ]
