-- Rows of any width by their place in a table: the rows in use are `table` of row i, what the numbers of row i are, and
-- numbers that rise. Assumes nothing.
use mathlib.Core.Path.{◌≡◌, refl, sym, ap, ◌∙◌, subst}
use mathlib.Core.Bool.{Bool, true, ◌&&◌}
use mathlib.Core.List.{List, ◌∷◌, map}
use Prim.Native.Nat.{ℕ, zero, suc, ◌+◌, ◌*◌, ◌<◌, ◌≤◌}
use native.Mathlib.Nat.{add-zero, zero-add, zero-mul, suc-mul, eq-or-lt_of_le}
use native.Mathlib.Numerals.{add-one}
use native.Mathlib.Omega.{arith}
use mathlib.Core.Logic.{⊎_elim}
use lib.IntN.{ℤ, pos}
use lib.Dec.{leb, ltb}
use lib.ListN.{length, get_or, drop}
use lib.Seq.{get_or-take, get_or-drop, drop-drop}
use lib.Signed.{lt_z}
use borrow.Author.Tests.{leb-true, ltb-true}
use Rattle.lists.specs.Scans.{all_of, linked}
use Rattle.lists.specs.Members.{All}
use Rattle.lists.specs.Tables.{table}
use Rattle.lists.proofs.Bools.{and_left, and_right}
use Rattle.lists.proofs.Scans.{length-table, get_d_table, table_same}
use Rattle.tables.specs.Tables.{rows, row_at, cell, numbered, Rising}

-- ---- tables of elements

module _ {A : Type 0} where
  pub map-table : {B : Type 0} (g : A → B) (f : ℕ → A) (a n : ℕ) → map g (table f a n) ≡ table (λ i. g (f i)) a n
  map-table g f a zero = refl
  map-table {B} g f a (suc n) = ap (λ (r : List B). g (f a) ∷ r) (map-table g f (a + 1) n)

  all_from : (p : A → Bool) (f : ℕ → A) (a n : ℕ) → all_of p (table f a n) ≡ true → (i : ℕ) → a ≤ i → i < a + n
      → p (f i) ≡ true
  all_from p f a zero h i s t = absurd (omega arith)
  all_from p f a (suc n) h i s t =
      let m : i < a + 1 + n = omega arith in
      ⊎_elim (λ e. subst (λ (j : ℕ). p (f j) ≡ true) e (and_left (p (f a)) (all_of p (table f (a + 1) n)) h))
      (λ g. all_from p f (a + 1) n (and_right (p (f a)) (all_of p (table f (a + 1) n)) h) i (omega arith) m)
      (eq-or-lt_of_le s)

  -- what takes every element takes element i
  pub all_table : (p : A → Bool) (f : ℕ → A) (n : ℕ) → all_of p (table f 0 n) ≡ true → (i : ℕ) → i < n → p (f i) ≡ true
  all_table p f n h i t = all_from p f 0 n h i (omega arith) (omega arith)

  -- what holds of element i holds of each
  each_from : (R : A → Type 0) (f : ℕ → A) (a n : ℕ) → ((i : ℕ) → a ≤ i → i < a + n → R (f i)) → All R (table f a n)
  each_from R f a zero h = tt
  each_from R f a (suc n) h = (
    h a (omega arith) (omega arith),
    each_from R f (a + 1) n (λ i s t. h i (omega arith) (omega arith)),
  )

  pub each-table : (R : A → Type 0) (f : ℕ → A) (n : ℕ) → ((i : ℕ) → i < n → R (f i)) → All R (table f 0 n)
  each-table R f n h = each_from R f 0 n (λ i s t. h i (omega arith))

-- ---- rows of any width

-- number k of row i
pub row_cell : (w : ℕ) (l : List ℤ) (i k : ℕ) → k < w → cell (row_at w l i) k ≡ get_or l (i * w + k) (pos 0)
row_cell w l i k h = get_or-take w (drop (i * w) l) k (pos 0) h ∙ get_or-drop (i * w) l k (pos 0)

-- its first number
pub row_first : (w : ℕ) (l : List ℤ) (i : ℕ) → 0 < w → cell (row_at w l i) 0 ≡ get_or l (i * w) (pos 0)
row_first w l i h = row_cell w l i 0 h ∙ ap (λ (k : ℕ). get_or l k (pos 0)) (add-zero (i * w))

module _ (w : ℕ) (l : List ℤ) where
  rows-from : (n a : ℕ) → rows w n (drop (a * w) l) ≡ table (row_at w l) a n
  rows-from zero a = refl
  rows-from (suc n) a =
      let e : a * w + w ≡ (a + 1) * w = rw (add-one, suc-mul) in
      ap (λ (r : List ℤ). row_at w l a ∷ rows w n r) (drop-drop w (a * w) l ∙ ap (λ (k : ℕ). drop k l) e)
      ∙ ap (λ (r : List (List ℤ)). row_at w l a ∷ r) (rows-from n (a + 1))

  pub rows-table : (n : ℕ) → rows w n l ≡ table (row_at w l) 0 n
  rows-table n = ap (λ (k : ℕ). rows w n (drop k l)) (sym (zero-mul w)) ∙ rows-from n 0

  -- a test that takes every row takes row i
  pub rows_all : (ok : List ℤ → Bool) (n : ℕ) → all_of ok (rows w n l) ≡ true → (i : ℕ) → i < n → ok (row_at w l i) ≡ true
  rows_all ok n h i t = all_table ok (row_at w l) n (ap (all_of ok) (sym (rows-table n)) ∙ h) i t

  module _ {A : Type 0} (of : List ℤ → A) (n : ℕ) where
    pub of_table : map of (rows w n l) ≡ table (λ i. of (row_at w l i)) 0 n
    of_table = ap (map of) (rows-table n) ∙ map-table of (row_at w l) 0 n

    pub of_length : length (map of (rows w n l)) ≡ n
    of_length = ap length of_table ∙ length-table (λ i. of (row_at w l i)) 0 n

    pub of_get_d : (i : ℕ) (d : A) → i < n → get_or (map of (rows w n l)) i d ≡ of (row_at w l i)
    of_get_d i d h = ap (λ (r : List A). get_or r i d) of_table ∙ get_d_table (λ j. of (row_at w l j)) 0 n i d h
        ∙ ap (λ (j : ℕ). of (row_at w l j)) (zero-add i)

-- ---- numbers that rise

linked-pos : (g : ℕ → ℕ) (a n : ℕ) → linked lt_z (table (λ i. pos (g i)) a n) ≡ linked ltb (table g a n)
linked-pos g a zero = refl
linked-pos g a (suc zero) = refl
linked-pos g a (suc (suc n)) = ap (λ (b : Bool). ltb (g a) (g (a + 1)) && b) (linked-pos g (a + 1) (suc n))

-- numbers from 0 on that rise as natural numbers rise in the table
pub rows_rising : (w : ℕ) (l : List ℤ) (n : ℕ) (g : ℕ → ℕ) → n * w ≤ length l → 1 ≤ w
    → ((i : ℕ) → i < n → get_or l (i * w) (pos 0) ≡ pos (g i)) → linked ltb (table g 0 n) ≡ true → Rising w l n
rows_rising w l n g fits some cells h =
    record {
      fits = fits;
      some = some;
      rising = ap (linked lt_z) (table_same (λ i. get_or l (i * w) (pos 0)) (λ i. pos (g i)) 0 n
          (λ i s t. cells i (omega arith))) ∙ linked-pos g 0 n ∙ h;
    }

-- the numbers of rows, one after the other
pub numbers-table : {A : Type 0} (w : ℕ) (l : List ℤ) (n : ℕ) (of : List ℤ → A) (number : A → ℕ)
    → map number (map of (rows w n l)) ≡ table (λ i. number (of (row_at w l i))) 0 n
numbers-table w l n of number = ap (map number) (of_table w l of n) ∙ map-table number (λ i. of (row_at w l i)) 0 n

pub rises : (least next : ℕ) (ns : List ℕ) → numbered least next ns ≡ true → linked ltb ns ≡ true
rises least next ns = and_left (linked ltb ns) (all_of (λ n. leb least n && ltb n next) ns)

-- ---- numbers in use, from the least to the last

pub number_in : (least next : ℕ) (g : ℕ → ℕ) (n : ℕ) → numbered least next (table g 0 n) ≡ true → (i : ℕ) → i < n
    → (least ≤ g i) × (g i < next)
number_in least next g n h i t =
    let e = all_table (λ k. leb least k && ltb k next) g n (and_right (linked ltb (table g 0 n)) _ h) i t in (
      leb-true least (g i) (and_left (leb least (g i)) (ltb (g i) next) e),
      ltb-true (g i) next (and_right (leb least (g i)) (ltb (g i) next) e),
    )
