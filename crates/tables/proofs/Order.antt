-- The tests `same_z` and `lt_z` of two numbers, and numbers that rise: each is less than all that follow. Assumes
-- nothing.
use mathlib.Core.Path.{◌≡◌, refl, sym, ap, ◌∙◌, subst}
use mathlib.Core.Bool.{true, false, true≢false}
use mathlib.Core.Logic.{◌⊎◌, inl, inr, ⊎_elim}
use mathlib.Core.List.{List}
use Prim.Native.Nat.{ℕ, zero, suc, ◌+◌, ◌<◌, ◌≤◌}
use native.Mathlib.Nat.{le_of_lt, le_antisymm, eq-or-lt_of_le}
use native.Mathlib.Omega.{arith}
use lib.IntN.{ℤ, pos, negsuc, nat_abs}
use lib.ListN.{length, get_or, set, length-set}
use lib.Dec.{T, eqb, ltb, leb, ltb→lt, le→leb}
use lib.Signed.{lt_z, le_z, <ℤ-≤ℤ_trans, <ℤ_irrefl, ≤ℤ_refl}
use borrow.Author.Tests.{eqb-true, eqb-false, leb-true, ltb-true, ltb-false, lt-ltb}
use mir.Syntax.{w64}
use mir.Val.{of_z, to_z, SFits}
use mir.Facts.{to_z-of_z}
use Rattle.lists.specs.Scans.{linked}
use Rattle.lists.specs.Tables.{table}
use Rattle.lists.specs.Tests.{same}
use Rattle.lists.proofs.Bools.{T→≡, ≡→T, not-true, which, same_true, differ, and_left, and_right}
use Rattle.tables.specs.Tables.{same_z, replace_at}

-- ---- two numbers

lt-le : (a b : ℤ) → T (lt_z a b) → T (le_z a b)
lt-le (pos a) (pos b) h = le→leb a b (le_of_lt (ltb→lt a b h))
lt-le (pos a) (negsuc b) h = h
lt-le (negsuc a) (pos b) h = tt
lt-le (negsuc a) (negsuc b) h = le→leb b a (le_of_lt (ltb→lt b a h))

pub less_trans : (a b c : ℤ) → lt_z a b ≡ true → lt_z b c ≡ true → lt_z a c ≡ true
less_trans a b c h k =
    T→≡ (lt_z a c) (<ℤ-≤ℤ_trans {a = a} {b = b} {c = c} (record { lt = ≡→T (lt_z a b) h })
    (record { le = lt-le b c (≡→T (lt_z b c) k) })).lt

pub same_self : (a : ℤ) → same_z a a ≡ true
same_self a = rw (T→≡ (le_z a a) (≤ℤ_refl a).le)

pub same_is : (a b : ℤ) → same_z a b ≡ true → a ≡ b
same_is (pos a) (pos b) h = ap pos (le_antisymm (leb-true a b (and_left (leb a b) (leb b a) h))
    (leb-true b a (and_right (leb a b) (leb b a) h)))
same_is (pos a) (negsuc b) h = absurd (true≢false (sym h))
same_is (negsuc a) (pos b) h = absurd (true≢false (sym h))
same_is (negsuc a) (negsuc b) h = ap negsuc
    (le_antisymm (leb-true a b (and_right (leb b a) (leb a b) h)) (leb-true b a (and_left (leb b a) (leb a b) h)))

pub is_same : (a b : ℤ) → a ≡ b → same_z a b ≡ true
is_same a b e = subst (λ (x : ℤ). same_z a x ≡ true) e (same_self a)

pub not_same : (a b : ℤ) → (a ≡ b → ⊥) → same_z a b ≡ false
not_same a b h = not-true (same_z a b) (λ e. h (same_is a b e))

less_not : (a b : ℤ) → lt_z a b ≡ true → a ≡ b → ⊥
less_not a b h e = <ℤ_irrefl {a = b} (record { lt = ≡→T (lt_z b b) (subst (λ (x : ℤ). lt_z x b ≡ true) e h) })

pub below_other : (a b : ℤ) → lt_z a b ≡ true → same_z b a ≡ false
below_other a b h = not_same b a (λ e. less_not a b h (sym e))

pub above_other : (a b : ℤ) → lt_z a b ≡ true → same_z a b ≡ false
above_other a b h = not_same a b (less_not a b h)

-- what is not less and not the same is greater
pub greater : (a b : ℤ) → lt_z a b ≡ false → (a ≡ b → ⊥) → lt_z b a ≡ true
greater (pos a) (pos b) h n = let g = ltb-false a b h in
    lt-ltb b a (⊎_elim (λ e. absurd (n (ap pos (sym e)))) (λ l. l) (eq-or-lt_of_le g))
greater (pos a) (negsuc b) h n = refl
greater (negsuc a) (pos b) h n = absurd (true≢false h)
greater (negsuc a) (negsuc b) h n = let g = ltb-false b a h in
    lt-ltb a b (⊎_elim (λ e. absurd (n (ap negsuc e))) (λ l. l) (eq-or-lt_of_le g))

-- two words are one exactly where their numbers are
pub word_is : {a b : ℤ} → SFits w64 a → SFits w64 b → of_z w64 a ≡ of_z w64 b → a ≡ b
word_is f g e = sym (to_z-of_z {w = w64} f) ∙ ap (to_z w64) e ∙ to_z-of_z {w = w64} g

pub word_test : {a b : ℤ} → SFits w64 a → SFits w64 b → eqb (of_z w64 a) (of_z w64 b) ≡ same_z a b
word_test {a} {b} f g =
    elim (which (eqb (of_z w64 a) (of_z w64 b))) [
      | inl e ↦ e ∙ sym (is_same a b (word_is f g (eqb-true (of_z w64 a) (of_z w64 b) e)))
      | inr e ↦ e ∙ sym (not_same a b (λ q. eqb-false (of_z w64 a) (of_z w64 b) e (ap (of_z w64) q)))
    ]

-- numbers that are not negative
pub same-pos : (m k : ℕ) → same_z (pos m) (pos k) ≡ same m k
same-pos m k =
    elim (which (same m k)) [
      | inl e ↦ is_same (pos m) (pos k) (ap pos (same_true m k e))
          ∙ sym e
      | inr e ↦ not_same (pos m) (pos k) (λ q. differ m k e (ap nat_abs q)) ∙ sym e
    ]

pub lt_or_ge : (a b : ℕ) → (a < b) ⊎ (b ≤ a)
lt_or_ge a b = elim (which (ltb a b)) [ inl e ↦ inl (ltb-true a b e) | inr e ↦ inr (ltb-false a b e) ]

-- ---- a number replaced

pub replace_hit : (old new : ℤ) (l : List ℤ) (j : ℕ) → get_or l j (pos 0) ≡ old → replace_at old new l j ≡ set l j new
replace_hit old new l j e = rw (is_same (get_or l j (pos 0)) old e)

pub replace_miss : (old new : ℤ) (l : List ℤ) (j : ℕ) → (get_or l j (pos 0) ≡ old → ⊥) → replace_at old new l j ≡ l
replace_miss old new l j n = rw (not_same (get_or l j (pos 0)) old n)

pub replace_length : (old new : ℤ) (l : List ℤ) (j : ℕ) → length (replace_at old new l j) ≡ length l
replace_length old new l j =
    elim (which (same_z (get_or l j (pos 0)) old)) [ inl e ↦ rw e (length-set l j new) | inr e ↦ rw e refl ]

-- ---- numbers that rise

module _ (f : ℕ → ℤ) where
  later : (a n : ℕ) → linked lt_z (table f a (suc n)) ≡ true → linked lt_z (table f (a + 1) n) ≡ true
  later a zero h = refl
  later a (suc n) h = and_right (lt_z (f a) (f (a + 1))) (linked lt_z (table f (a + 1) (suc n))) h

  above : (a n : ℕ) → linked lt_z (table f a (suc n)) ≡ true → (k : ℕ) → a < k → k < a + suc n → lt_z (f a) (f k) ≡ true
  above a zero h k p q = absurd (omega arith)
  above a (suc n) h k p q =
      let first = and_left (lt_z (f a) (f (a + 1))) (linked lt_z (table f (a + 1) (suc n))) h in
      let s : a + 1 ≤ k = omega arith in
      let t : k < a + 1 + suc n = omega arith in
      ⊎_elim (λ e. subst (λ (j : ℕ). lt_z (f a) (f j) ≡ true) e first)
      (λ g. less_trans (f a) (f (a + 1)) (f k) first (above (a + 1) n (later a (suc n) h) k g t)) (eq-or-lt_of_le s)

  rise_from : (a n : ℕ) → linked lt_z (table f a n) ≡ true → (p q : ℕ) → a ≤ p → p < q → q < a + n → lt_z (f p) (f q)
      ≡ true
  rise_from a zero h p q s l m = absurd (omega arith)
  rise_from a (suc n) h p q s l m =
      let t : q < a + 1 + n = omega arith in
      ⊎_elim (λ e. subst (λ (j : ℕ). lt_z (f j) (f q) ≡ true) e (above a n h q (omega arith) m))
      (λ g. rise_from (a + 1) n (later a n h) p q (omega arith) l t) (eq-or-lt_of_le s)

  pub rise : (n : ℕ) → linked lt_z (table f 0 n) ≡ true → (p q : ℕ) → p < q → q < n → lt_z (f p) (f q) ≡ true
  rise n h p q l m = rise_from 0 n h p q (omega arith) l (omega arith)

  -- the first of them
  pub rising_first : (a m n : ℕ) → m ≤ n → linked lt_z (table f a n) ≡ true → linked lt_z (table f a m) ≡ true
  rising_first a zero n s h = refl
  rising_first a (suc zero) n s h = refl
  rising_first a (suc (suc m)) zero s h = absurd (omega arith)
  rising_first a (suc (suc m)) (suc zero) s h = absurd (omega arith)
  rising_first a (suc (suc m)) (suc (suc n)) s h =
      let rest = linked lt_z (table f (a + 1) (suc n)) in
      rw (and_left (lt_z (f a) (f (a + 1))) rest h)
      (rising_first (a + 1) (suc m) (suc n) (omega arith) (and_right (lt_z (f a) (f (a + 1))) rest h))
