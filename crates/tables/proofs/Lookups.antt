-- What `find_row` answers: a place is a row that is found, and missing is a row that does not exist. Assumes nothing.
use Rattle.std.specs.Prelude.{Option, Some, None}
use mathlib.Core.Path.{◌≡◌, refl, sym, ap, ◌∙◌, subst}
use mathlib.Core.Bool.{Bool, true, false}
use mathlib.Core.Logic.{◌⊎◌, inl, inr, ⊎_elim}
use mathlib.Core.List.{List, [], ◌∷◌}
use mathlib.Core.Option.{none, some}
use Prim.Native.Nat.{ℕ, zero, suc, ◌+◌, ◌*◌, ◌<◌, ◌≤◌}
use native.Mathlib.Nat.{eq-or-lt_of_le, mul-le-mul_right}
use native.Mathlib.Omega.{arith}
use lib.IntN.{ℤ, pos, negsuc, nat_abs}
use lib.ListN.{get_or}
use lib.Signed.{lt_z}
use Rattle.lists.specs.Tests.{same}
use Rattle.lists.specs.Scans.{any_of, find, is_some}
use Rattle.lists.specs.Tables.{table, place}
use Rattle.lists.proofs.Bools.{which, same_true, same_sym}
use Rattle.lists.proofs.Scans.{place_none, place_at}
use Rattle.tables.specs.Tables.{same_z, column, Rising}
use Rattle.tables.proofs.Order.{same_self, same-pos, below_other, above_other, less_trans, rise, rising_first}

-- ---- the place in a list, and the scans `find` and `any`

module _ {A : Type 0} (p : A → Bool) (f : ℕ → A) where
  -- element i is the first that p takes
  pub record First (n i : ℕ) : Type 0 where
    pub below : i < n
    pub taken : p (f i) ≡ true
    pub found : find p (table f 0 n) ≡ some (f i)

  found_from : (a n i : ℕ) → place p a (table f a n) ≡ Some i → (i < a + n) × (p (f i) ≡ true)
      × (find p (table f a n) ≡ some (f i))
  found_from a zero i e = let z : ◌≡◌ {A = ℕ} 0 1 = cc in absurd (omega arith)
  found_from a (suc n) i e = pick (p (f a)) refl (λ q. found_from (a + 1) n i q)
    where
      pick : (b : Bool) → p (f a) ≡ b → (place p (a + 1) (table f (a + 1) n) ≡ Some i → (i < a + 1 + n)
          × (p (f i) ≡ true) × (find p (table f (a + 1) n) ≡ some (f i))) → (i < a + suc n) × (p (f i) ≡ true)
          × (find p (table f a (suc n)) ≡ some (f i))
      pick true q rest =
          let k : Some a ≡ Some i = rw q at e in
          let j : a ≡ i = cc in
          (omega arith, rw (← j) q, rw (q, j))
      pick false q rest =
          let r = rest (rw q at e) in
          let h : i < a + 1 + n = r.0 in
          (omega arith, r.1, rw q r.2)

  pub place_first : (n i : ℕ) → place p 0 (table f 0 n) ≡ Some i → First n i
  place_first n i e = let r = found_from 0 n i e in
      record { below = let h = r.0 in omega arith; taken = r.1; found = r.2 }

  missing_from : (a n : ℕ) → place p a (table f a n) ≡ None → find p (table f a n) ≡ none
  missing_from a zero e = refl
  missing_from a (suc n) e = pick (p (f a)) refl (λ q. missing_from (a + 1) n q)
    where
      pick : (b : Bool) → p (f a) ≡ b → (place p (a + 1) (table f (a + 1) n) ≡ None → find p (table f (a + 1) n)
          ≡ none) → find p (table f a (suc n)) ≡ none
      pick true q rest =
          let k : Some a ≡ None = rw q at e in
          let z : ◌≡◌ {A = ℕ} 0 1 = cc in
          absurd (omega arith)
      pick false q rest = rw q (rest (rw q at e))

  pub place_missing : (n : ℕ) → place p 0 (table f 0 n) ≡ None → find p (table f 0 n) ≡ none
  place_missing n e = missing_from 0 n e

  -- p takes none after the first m
  place_fewer : (a m n : ℕ) → m ≤ n → ((k : ℕ) → a + m ≤ k → k < a + n → p (f k) ≡ false) → place p a (table f a m)
      ≡ place p a (table f a n)
  place_fewer a zero zero s h = refl
  place_fewer a zero (suc n) s h = rw (h a (omega arith) (omega arith))
      (place_fewer (a + 1) zero n (omega arith) (λ k t u. h k (omega arith) (omega arith)))
  place_fewer a (suc m) zero s h = absurd (omega arith)
  place_fewer a (suc m) (suc n) s h = rw
      (place_fewer (a + 1) m n (omega arith) (λ k t u. h k (omega arith) (omega arith)))

-- some element is taken exactly where one is found
pub any_find : {A : Type 0} (p : A → Bool) (l : List A) → any_of p l ≡ is_some (find p l)
any_find p [] = refl
any_find p (r ∷ l) = let later = any_find p l in elim (which (p r)) [ inl e ↦ rw e | inr e ↦ rw e later ]

pub any_same : {A : Type 0} (p q : A → Bool) → ((r : A) → p r ≡ q r) → (l : List A) → any_of p l ≡ any_of q l
any_same p q h [] = refl
any_same p q h (r ∷ l) = rw (h r, any_same p q h l)

-- two tables that two tests take alike have one place
place_same : {A B : Type 0} (p : A → Bool) (q : B → Bool) (f : ℕ → A) (g : ℕ → B) (a n : ℕ)
    → ((i : ℕ) → a ≤ i → i < a + n → p (f i) ≡ q (g i)) → place p a (table f a n) ≡ place q a (table g a n)
place_same p q f g a zero h = refl
place_same p q f g a (suc n) h = rw (
  h a (omega arith) (omega arith),
  place_same p q f g (a + 1) n (λ i s t. h i (omega arith) (omega arith)),
)

-- ---- a number looked up in the first column

-- z is the number of row i, which is found by it
pub record Hit {A : Type 0} (number : A → ℕ) (f : ℕ → A) (n : ℕ) (z : ℤ) (i : ℕ) : Type 0 where
  pub below : i < n
  pub is : z ≡ pos (number (f i))
  pub found : find (λ r. same (number r) (nat_abs z)) (table f 0 n) ≡ some (f i)

module _ {A : Type 0} (w : ℕ) (l : List ℤ) (n : ℕ) (number : A → ℕ) (f : ℕ → A)
    (cells : (i : ℕ) → i < n → get_or l (i * w) (pos 0) ≡ pos (number (f i))) where
  -- the place in the column is the place of the row
  pub place-column : (m : ℕ) → place (same_z (pos m)) 0 (column w l n) ≡ place (λ r. same (number r) m) 0 (table f 0 n)
  place-column m = place_same (same_z (pos m)) (λ r. same (number r) m) (λ i. get_or l (i * w) (pos 0)) f 0 n
      (λ i s t. ap (same_z (pos m)) (cells i (omega arith)) ∙ same-pos m (number (f i)) ∙ same_sym m (number (f i)))

  -- a negative number is missing
  pub place_negative : (m : ℕ) → place (same_z (negsuc m)) 0 (column w l n) ≡ None
  place_negative m = place_none (λ i. get_or l (i * w) (pos 0)) (same_z (negsuc m)) n
      (λ i t. ap (same_z (negsuc m)) (cells i t))

  pub row_found_lem : (z : ℤ) (i : ℕ) → place (same_z z) 0 (column w l n) ≡ Some i → Hit number f n z i
  row_found_lem (pos m) i e =
      let r = place_first (λ r. same (number r) m) f n i (sym (place-column m) ∙ e) in
      record { below = r.below; is = ap pos (sym (same_true (number (f i)) m r.taken)); found = r.found }
  row_found_lem (negsuc m) i e =
      let k : Some i ≡ None = sym e ∙ place_negative m in
      let z : ◌≡◌ {A = ℕ} 0 1 = cc in
      absurd (omega arith)

  pub row_missing : (m : ℕ) → place (same_z (pos m)) 0 (column w l n) ≡ None
      → find (λ r. same (number r) m) (table f 0 n) ≡ none
  row_missing m e = place_missing (λ r. same (number r) m) f n (sym (place-column m) ∙ e)

-- an answer with the case it is in
pub which_place : (r : Option ℕ) → ((i : ℕ) × (r ≡ Some i)) ⊎ (r ≡ None)
which_place (Some i) = inl (i, refl)
which_place None = inr refl

-- in rising order row i has the place i
pub row_place : (w : ℕ) (l : List ℤ) (n : ℕ) → Rising w l n → (i : ℕ) → i < n
    → place (same_z (get_or l (i * w) (pos 0))) 0 (column w l n) ≡ Some i
row_place w l n r i h =
    let f : ℕ → ℤ = λ k. get_or l (k * w) (pos 0) in
    place_at f (same_z (f i)) n i h (λ k t. below_other (f k) (f i) (rise f n r.rising k i t h)) (same_self (f i))

-- the row that a look meets is the one
pub row_met : {w : ℕ} {l : List ℤ} {n : ℕ} → Rising w l n → (i : ℕ) → i < n → {z : ℤ} → get_or l (i * w) (pos 0) ≡ z
    → Some i ≡ place (same_z z) 0 (column w l n)
row_met {w} {l} {n} r i h e = rw (← e) (sym (row_place w l n r i h))

-- the first rows of those that rise
pub rows_first : {w : ℕ} {l : List ℤ} {n : ℕ} → Rising w l n → (m : ℕ) → m ≤ n → Rising w l m
rows_first {w} {l} {n} r m h =
    record {
      fits = omega (arith, mul-le-mul_right w h, r.fits);
      some = r.some;
      rising = rising_first (λ k. get_or l (k * w) (pos 0)) 0 m n h r.rising;
    }

-- a number less than that of row m has its row before it
pub place-before : {w : ℕ} {l : List ℤ} {n : ℕ} → Rising w l n → (m : ℕ) → m < n → (z : ℤ)
    → lt_z z (get_or l (m * w) (pos 0)) ≡ true → place (same_z z) 0 (column w l m) ≡ place (same_z z) 0 (column w l n)
place-before {w} {l} {n} r m h z less =
    let f : ℕ → ℤ = λ k. get_or l (k * w) (pos 0) in
    place_fewer (same_z z) f 0 m n (omega arith)
    (λ k s t.
    let at_most : m ≤ k = omega arith in
    above_other z (f k) (⊎_elim (λ e. subst (λ (j : ℕ). lt_z z (f j) ≡ true) e less)
    (λ g. less_trans z (f m) (f k) less (rise f n r.rising m k g (omega arith))) (eq-or-lt_of_le at_most)))
