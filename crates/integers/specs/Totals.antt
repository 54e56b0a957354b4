-- Integers added up, over a list (`total`) and over the numbers below n (`sum_to`), and the laws of both. Assumes
-- nothing.
use Rattle.std.specs.Prelude.{◌≡◌, refl, ℕ, zero, suc, ◌+◌, ◌<◌, ℤ, pos, neg_ℤ, ◌+ℤ◌, ◌-ℤ◌, ◌*ℤ◌, ◌≤ℤ◌, ◌<ℤ◌}
use Rattle.std.proofs.Common.{sym, ap, ap₂, ◌∙◌, subst, add-zero, add-suc, arith}
use mathlib.Core.List.{List, [], ◌∷◌, ◌++◌, map, foldr, Memᴰ, Permᴰ}
use Rattle.std.proofs.Math.Decide.{ℕ_discrete}
use Rattle.std.proofs.Math.IntN.{+ℤ_assoc, +ℤ_idr}
use Rattle.std.specs.Int.Signed.{≤ℤ_refl}
use Rattle.integers.specs.Solver.{con, ⊝◌, ◌⊕◌, ◌⊖◌, ◌⊗◌, ◌≐◌, solve}
use Rattle.integers.specs.Positive.{add_nonneg, add-pos-left, add_pos_right, add_mono}

-- f of each element, added up
abbrev pub total : {A : Type 0} → (A → ℤ) → List A → ℤ
total f l = foldr (λ x a. f x +ℤ a) (pos 0) l

-- f 0 + f 1 + .. + f (n - 1)
abbrev pub sum_to : ℕ → (ℕ → ℤ) → ℤ
sum_to zero f = pos 0
sum_to (suc n) f = sum_to n f +ℤ f n

-- ---- over a list

exchange : (a b c d : ℤ) → (a +ℤ b) +ℤ (c +ℤ d) ≡ (a +ℤ c) +ℤ (b +ℤ d)
exchange = solve 4 (λ a b c d. (a ⊕ b) ⊕ (c ⊕ d) ≐ (a ⊕ c) ⊕ (b ⊕ d)) tt

module _ {A : Type 0} where
  pub total_cong : (l : List A) (f g : A → ℤ) → ((x : A) → Memᴰ x l → f x ≡ g x) → total f l ≡ total g l
  total_cong [] f g h = refl
  total_cong (x ∷ l) f g h = ap₂ ◌+ℤ◌ (h x (Memᴰ.head refl)) (total_cong l f g (λ y m. h y (Memᴰ.tail m)))

  pub total-zero : (l : List A) (f : A → ℤ) → ((x : A) → Memᴰ x l → f x ≡ pos 0) → total f l ≡ pos 0
  total-zero [] f h = refl
  total-zero (x ∷ l) f h = ap₂ ◌+ℤ◌ (h x (Memᴰ.head refl)) (total-zero l f (λ y m. h y (Memᴰ.tail m)))

  pub total-+ : (l : List A) (f g : A → ℤ) → total (λ x. f x +ℤ g x) l ≡ total f l +ℤ total g l
  total-+ [] f g = refl
  total-+ (x ∷ l) f g = ap (λ (z : ℤ). f x +ℤ g x +ℤ z) (total-+ l f g) ∙ exchange (f x) (g x) (total f l) (total g l)

  pub total-- : (l : List A) (f g : A → ℤ) → total (λ x. f x -ℤ g x) l ≡ total f l -ℤ total g l
  total-- [] f g = refl
  total-- (x ∷ l) f g = ap (λ (z : ℤ). f x -ℤ g x +ℤ z) (total-- l f g)
      ∙ solve 4 (λ a b c d. a ⊖ b ⊕ (c ⊖ d) ≐ a ⊕ c ⊖ (b ⊕ d)) tt (f x) (g x) (total f l) (total g l)

  pub total-* : (n : ℤ) (l : List A) (f : A → ℤ) → total (λ x. n *ℤ f x) l ≡ n *ℤ total f l
  total-* n [] f = solve 1 (λ n. con (pos 0) ≐ n ⊗ con (pos 0)) tt n
  total-* n (x ∷ l) f = ap (λ (z : ℤ). n *ℤ f x +ℤ z) (total-* n l f)
      ∙ solve 3 (λ n a b. n ⊗ a ⊕ n ⊗ b ≐ n ⊗ (a ⊕ b)) tt n (f x) (total f l)

  pub total-++ : (l k : List A) (f : A → ℤ) → total f (l ++ k) ≡ total f l +ℤ total f k
  total-++ [] k f = solve 1 (λ a. a ≐ con (pos 0) ⊕ a) tt (total f k)
  total-++ (x ∷ l) k f = ap (λ (z : ℤ). f x +ℤ z) (total-++ l k f) ∙ sym (+ℤ_assoc (f x) (total f l) (total f k))

  pub total-map : {B : Type 0} (h : B → A) (l : List B) (f : A → ℤ) → total f (map h l) ≡ total (λ x. f (h x)) l
  total-map h [] f = refl
  total-map h (x ∷ l) f = ap (λ (z : ℤ). f (h x) +ℤ z) (total-map h l f)

  pub total_perm : {l k : List A} (f : A → ℤ) → Permᴰ l k → total f l ≡ total f k
  total_perm f Permᴰ.nil = refl
  total_perm f (Permᴰ.cons e p) = ap₂ ◌+ℤ◌ (ap f e) (total_perm f p)
  total_perm f (Permᴰ.swap {a = a} {b = b} {a' = a'} {b' = b'} {l = l} e d) =
      ap₂ (λ x y. x +ℤ (y +ℤ total f l)) (ap f e) (ap f d)
      ∙ solve 3 (λ x y s. x ⊕ (y ⊕ s) ≐ y ⊕ (x ⊕ s)) tt (f b') (f a') (total f l)
  total_perm f (Permᴰ.trans p q) = total_perm f p ∙ total_perm f q

-- ---- over the numbers below n

pub sum_to_cong : (n : ℕ) (f g : ℕ → ℤ) → ((i : ℕ) → i < n → f i ≡ g i) → sum_to n f ≡ sum_to n g
sum_to_cong zero f g h = refl
sum_to_cong (suc n) f g h = ap₂ ◌+ℤ◌ (sum_to_cong n f g (λ i l. h i (omega arith))) (h n (omega arith))

pub sum_to-zero : (n : ℕ) (f : ℕ → ℤ) → ((i : ℕ) → i < n → f i ≡ pos 0) → sum_to n f ≡ pos 0
sum_to-zero zero f h = refl
sum_to-zero (suc n) f h = ap₂ ◌+ℤ◌ (sum_to-zero n f (λ i l. h i (omega arith))) (h n (omega arith))

pub sumTo-+ : (n : ℕ) (f g : ℕ → ℤ) → sum_to n (λ i. f i +ℤ g i) ≡ sum_to n f +ℤ sum_to n g
sumTo-+ zero f g = refl
sumTo-+ (suc n) f g = ap (λ (z : ℤ). z +ℤ (f n +ℤ g n)) (sumTo-+ n f g) ∙ exchange (sum_to n f) (sum_to n g) (f n) (g n)

pub sum_to_neg : (n : ℕ) (f : ℕ → ℤ) → sum_to n (λ i. neg_ℤ (f i)) ≡ neg_ℤ (sum_to n f)
sum_to_neg zero f = refl
sum_to_neg (suc n) f = ap (λ (z : ℤ). z +ℤ neg_ℤ (f n)) (sum_to_neg n f)
    ∙ solve 2 (λ a b. ⊝ a ⊕ ⊝ b ≐ ⊝ (a ⊕ b)) tt (sum_to n f) (f n)

pub sum_to-split : (m n : ℕ) (f : ℕ → ℤ) → sum_to (m + n) f ≡ sum_to m f +ℤ sum_to n (λ i. f (m + i))
sum_to-split m zero f = rw (add-zero m) (sym (+ℤ_idr (sum_to m f)))
sum_to-split m (suc n) f =
    rw (add-suc m n) (ap (λ (z : ℤ). z +ℤ f (m + n)) (sum_to-split m n f)
    ∙ +ℤ_assoc (sum_to m f) (sum_to n (λ i. f (m + i))) (f (m + n)))

-- ---- two sums exchanged

pub sums_exchanged : {A : Type 0} (n : ℕ) (l : List A) (f : ℕ → A → ℤ)
    → sum_to n (λ i. total (f i) l) ≡ total (λ x. sum_to n (λ i. f i x)) l
sums_exchanged n [] f = sum_to-zero n (λ i. pos 0) (λ i h. refl)
sums_exchanged n (x ∷ l) f =
    sumTo-+ n (λ i. f i x) (λ i. total (f i) l) ∙ ap (λ (z : ℤ). sum_to n (λ i. f i x) +ℤ z) (sums_exchanged n l f)

-- ---- compared

pub total_mono : {A : Type 0} (l : List A) (f g : A → ℤ) → ((x : A) → Memᴰ x l → f x ≤ℤ g x)
    → total f l ≤ℤ total g l
total_mono [] f g h = ≤ℤ_refl (pos 0)
total_mono (x ∷ l) f g h = add_mono (f x) (g x) (total f l) (total g l) (h x (Memᴰ.head refl))
    (total_mono l f g (λ y m. h y (Memᴰ.tail m)))

pub sum_to_nonneg : (n : ℕ) (f : ℕ → ℤ) → ((i : ℕ) → pos 0 ≤ℤ f i) → pos 0 ≤ℤ sum_to n f
sum_to_nonneg zero f h = ≤ℤ_refl (pos 0)
sum_to_nonneg (suc n) f h = add_nonneg (sum_to n f) (f n) (sum_to_nonneg n f h) (h n)

pub sum_to_nonpos : (n : ℕ) (f : ℕ → ℤ) → ((i : ℕ) → f i ≤ℤ pos 0) → sum_to n f ≤ℤ pos 0
sum_to_nonpos zero f h = ≤ℤ_refl (pos 0)
sum_to_nonpos (suc n) f h = add_mono (sum_to n f) (pos 0) (f n) (pos 0) (sum_to_nonpos n f h) (h n)

-- none below 0, and some above it
pub sum_to-pos : (n : ℕ) (f : ℕ → ℤ) → ((i : ℕ) → pos 0 ≤ℤ f i) → (i : ℕ) → i < n → pos 0 <ℤ f i → pos 0 <ℤ sum_to n f
sum_to-pos zero f h i l p = absurd (omega arith)
sum_to-pos (suc n) f h i l p = go (ℕ_discrete i n) (sum_to-pos n f h i)
  where
    go : Dec (i ≡ n) → (i < n → pos 0 <ℤ f i → pos 0 <ℤ sum_to n f) → pos 0 <ℤ (sum_to n f +ℤ f n)
    go (yes e) r = add_pos_right (sum_to n f) (f n) (sum_to_nonneg n f h) (subst (λ (k : ℕ). pos 0 <ℤ f k) e p)
    go (no e) r = add-pos-left (sum_to n f) (f n) (r (omega arith) p) (h n)
