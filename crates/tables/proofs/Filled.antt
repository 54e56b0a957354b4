-- Tables of any width: rows written one after the other with zeros behind are read back as they were, and tables of
-- whole rows are written again as they were. Assumes nothing.
use mathlib.Core.Path.{◌≡◌, refl, sym, ap, subst, ◌∙◌}
use mathlib.Core.Bool.{Bool, true, ◌&&◌}
use mathlib.Core.List.Memᴰ
use mathlib.Core.List.{List, [], ◌∷◌, ◌++◌, map, map-map, map-id, flat_map, append_assoc, Memᴰ}
use Prim.Native.Nat.{ℕ, zero, suc, ◌+◌, ◌*◌, ◌-◌, ◌/◌, ◌%◌, ◌≤◌}
use native.Mathlib.Omega.{arith}
use native.Mathlib.Nat.{suc-mul, zero-mul, add-zero, add-suc, mul-le-mul_right, div-add-mod', mul-div_cancel}
use native.Mathlib.Nat.{mul-mod_left}
use lib.Dec.{leb}
use lib.IntN.{ℤ, pos, nat_abs}
use lib.ListN.{length, take, drop, replicate, length-append, length-replicate, length-take, length-drop, length-map}
use lib.ListN.{take-append-drop}
use lib.Seq.{take_at, drop_at, take-nil, length-take-le, drop-append_seam}
use borrow.Author.Tests.{leb-true, le-leb}
use Rattle.lists.specs.Tests.{same}
use Rattle.lists.specs.Scans.{all_of}
use Rattle.lists.specs.Members.{All}
use Rattle.lists.proofs.Bools.{same_refl, same_true, and-true, and_is}
use Rattle.lists.proofs.Members.{each-cons, map_cong}
use Rattle.tables.specs.Tables.{rows, filled, whole_rows, within, is_zero, rest_zero}
use Rattle.tables.proofs.Tests.{within-back, within-most, zeros, zeros_are}

-- ---- rows of w numbers, one after the other, and zeros behind

pub filled-length : (n : ℕ) (l : List ℤ) → length l ≤ n → length (filled n l) ≡ n
filled-length n l h = simp (length-append, length-replicate) (omega arith)

module _ {A : Type 0} (w : ℕ) (cells : A → List ℤ) where
  -- each row has w numbers
  abbrev pub Wide : List A → Type 0
  Wide xs = All (λ x. length (cells x) ≡ w) xs

  pub flat_length : (xs : List A) → Wide xs → length (flat_map cells xs) ≡ length xs * w
  unfolding flat_map
  flat_length [] h = sym (zero-mul w)
  flat_length (x ∷ xs) h =
      let e = flat_length xs h.1 in
      let s = suc-mul (length xs) w in
      length-append (cells x) (flat_map cells xs) ∙ omega (arith, h.0)

  -- the rows of the table are the rows
  pub rows_flat : (xs : List A) (rest : List ℤ) → Wide xs → rows w (length xs) (flat_map cells xs ++ rest) ≡ map cells xs
  unfolding flat_map
  rows_flat [] rest h = refl
  rows_flat (x ∷ xs) rest h =
      rw (
        append_assoc,
        take_at (cells x) (flat_map cells xs ++ rest) w h.0,
        drop_at (cells x) (flat_map cells xs ++ rest) w h.0,
        rows_flat xs rest h.1,
      )

  -- what holds of each row as it is written
  pub each_row : (ok : List ℤ → Bool) (xs : List A) (rest : List ℤ) → Wide xs
      → ((x : A) → Memᴰ x xs → ok (cells x) ≡ true)
      → all_of ok (rows w (length xs) (flat_map cells xs ++ rest)) ≡ true
  each_row ok xs rest h k = ap (all_of ok) (rows_flat xs rest h) ∙ each xs k
    where
      each : (xs : List A) → ((x : A) → Memᴰ x xs → ok (cells x) ≡ true) → all_of ok (map cells xs) ≡ true
      each [] k = refl
      each (x ∷ xs) k = and_is (k x (Memᴰ.head refl)) (each xs (λ y m. k y (Memᴰ.tail m)))

  -- zeros behind them
  pub flat_rest : (n : ℕ) (xs : List A) → Wide xs → rest_zero w (pos (length xs)) (filled n (flat_map cells xs)) ≡ true
  flat_rest n xs h =
      let e = flat_length xs h in
      let k = n - length (flat_map cells xs) in
      rw (← e, drop-append_seam (flat_map cells xs) (replicate k (pos 0))) (zeros k)

  -- the table is as long as it was meant to be
  pub table-length : (n : ℕ) (xs : List A) → Wide xs → length xs ≤ n
      → length (filled (n * w) (flat_map cells xs)) ≡ n * w
  table-length n xs h le =
      let e = flat_length xs h in
      let k = mul-le-mul_right w le in
      filled-length (n * w) (flat_map cells xs) (omega arith)

  -- each element is read back from its row
  pub reads : (of : List ℤ → A) (xs : List A) (rest : List ℤ) → Wide xs → ((x : A) → Memᴰ x xs → of (cells x) ≡ x)
      → map of (rows w (length xs) (flat_map cells xs ++ rest)) ≡ xs
  reads of xs rest h k = ap (map of) (rows_flat xs rest h) ∙ map-map of cells xs
      ∙ map_cong (λ x. of (cells x)) (λ x. x) xs k ∙ map-id xs

-- ---- a table of N numbers that has these n rows from the front, and zeros behind

module _ {A : Type 0} (w : ℕ) (cells : A → List ℤ) (N : ℕ) (xs : List A) (n : ℕ) {l : List ℤ} (wide : Wide w cells xs)
    (count : length xs ≡ n) (e : filled N (flat_map cells xs) ≡ l) where
  flat : length (flat_map cells xs) ≡ n * w
  flat = flat_length w cells xs wide ∙ ap (λ (k : ℕ). k * w) count

  pub filled_long : n * w ≤ N → length l ≡ N
  filled_long fits = ap length (sym e) ∙ filled-length N (flat_map cells xs) (rw flat fits)

  pub filled_rest : all_of is_zero (drop (n * w) l) ≡ true
  filled_rest =
      ap (λ (r : List ℤ). all_of is_zero (drop (n * w) r)) (sym e)
      ∙ ap (all_of is_zero) (drop_at (flat_map cells xs) (replicate (N - length (flat_map cells xs)) (pos 0)) (n * w) flat)
      ∙ zeros (N - length (flat_map cells xs))

-- ---- the other way: tables are written again as they were

-- what is filled up with as many zeros as there were
pub refilled : (n k : ℕ) (l : List ℤ) → length l ≡ n → k ≤ n → all_of is_zero (drop k l) ≡ true → filled n (take k l) ≡ l
refilled n k l e h z =
    let rest = zeros_are (drop k l) z in
    let count : length (drop k l) ≡ n - length (take k l) = simp (length-drop, length-take) (omega arith) in
    rw (← count, ← rest) (take-append-drop k l)

take_more : (a b : ℕ) (l : List ℤ) → take a l ++ take b (drop a l) ≡ take (b + a) l
take_more zero b l = rw add-zero
take_more (suc a) b [] = rw (take-nil {A = ℤ} b, take-nil {A = ℤ} (b + suc a))
take_more (suc a) b (x ∷ l) = rw add-suc (ap (λ (r : List ℤ). x ∷ r) (take_more a b l))

-- rows that are each written as they were
flat_rows : {A : Type 0} (w : ℕ) (cells : A → List ℤ) (of : List ℤ → A) (ok : List ℤ → Bool)
    → ((r : List ℤ) → length r ≡ w → ok r ≡ true → cells (of r) ≡ r) → (n : ℕ) (l : List ℤ) → n * w ≤ length l
    → all_of ok (rows w n l) ≡ true → flat_map cells (map of (rows w n l)) ≡ take (n * w) l
unfolding flat_map
flat_rows w cells of ok back zero l h k = rw zero-mul
flat_rows w cells of ok back (suc n) l h k =
    let e = suc-mul n w in
    let both = and-true (ok (take w l)) (all_of ok (rows w n (drop w l))) k in
    let room : n * w ≤ length (drop w l) = rw (length-drop w l) (omega arith) in
    let width : length (take w l) ≡ w = length-take-le w l (omega arith) in
    let first = back (take w l) width both.0 in
    let later = flat_rows w cells of ok back n (drop w l) room both.1 in
    rw (first, later, suc-mul n w) (take_more w (n * w) l)

pub rows_count : (w n : ℕ) (l : List ℤ) → length (rows w n l) ≡ n
rows_count w zero l = refl
rows_count w (suc n) l = ap suc (rows_count w n (drop w l))

-- a table of whole rows whose rows in use are each written as they were, and whose rest is 0
pub table_written : {A : Type 0} (w least : ℕ) (cells : A → List ℤ) (of : List ℤ → A) (ok : List ℤ → Bool)
    → ((r : List ℤ) → length r ≡ w → ok r ≡ true → cells (of r) ≡ r) → (z : ℤ) (l : List ℤ)
    → same (length l % w) 0 ≡ true → within least (length l / w) z ≡ true → rest_zero w z l ≡ true
    → all_of ok (rows w (nat_abs z) l) ≡ true → filled (length l / w * w) (flat_map cells (map of (rows w (nat_abs z) l)))
    ≡ l
table_written w least cells of ok back z l whole fits rest good =
    let rem = same_true (length l % w) 0 whole in
    let div = div-add-mod' (length l) w in
    let size : length l ≡ length l / w * w = omega arith in
    let few : nat_abs z * w ≤ length l / w * w = mul-le-mul_right w (within-most least (length l / w) z fits) in
    rw (flat_rows w cells of ok back (nat_abs z) l (omega arith) good)
    (refilled (length l / w * w) (nat_abs z * w) l size few rest)

pub count_back : {A : Type 0} (w least most : ℕ) (of : List ℤ → A) (z : ℤ) (l : List ℤ) → within least most z ≡ true
    → pos (length (map of (rows w (nat_abs z) l))) ≡ z
count_back w least most of z l fits = rw (length-map (rows w (nat_abs z) l) of, rows_count w (nat_abs z) l)
    (within-back least most z fits)

-- whole rows, as many as the limits allow
pub record WholeRows (w a b : ℕ) (l : List ℤ) : Type 0 where
  pub whole : same (length l % w) 0 ≡ true
  pub size : length l / w * w ≡ length l
  pub least : a ≤ length l / w
  pub most : length l / w ≤ b

pub whole_rows_lem : (w a b : ℕ) (l : List ℤ) → whole_rows w a b l ≡ true → WholeRows w a b l
whole_rows_lem w a b l h =
    let h₁ = and-true (same (length l % w) 0 && leb a (length l / w)) (leb (length l / w) b) h in
    let h₂ = and-true (same (length l % w) 0) (leb a (length l / w)) h₁.0 in
    let rem = same_true (length l % w) 0 h₂.0 in
    let div = div-add-mod' (length l) w in
    record {
      whole = h₂.0;
      size = omega arith;
      least = leb-true a (length l / w) h₂.1;
      most = leb-true (length l / w) b h₁.1;
    }

-- tables of whole rows, within the limits
pub whole-table : (w least most n : ℕ) (l : List ℤ) → 1 ≤ w → length l ≡ n * w → least ≤ n → n ≤ most
    → whole_rows w least most l ≡ true
whole-table w least most n l one size low high =
    let room : length l / w ≡ n = ap (λ (k : ℕ). k / w) size ∙ mul-div_cancel n (omega arith) in
    and_is (and_is (ap (λ (k : ℕ). same (k % w) 0) size ∙ ap (λ (k : ℕ). same k 0) (mul-mod_left n w) ∙ same_refl 0)
    (ap (leb least) room ∙ le-leb least n low)) (ap (λ (k : ℕ). leb k most) room ∙ le-leb n most high)

-- ---- what each row in use has

module _ (w : ℕ) (ok : List ℤ → Bool) where
  row_has : (n : ℕ) (l : List ℤ) → n * w ≤ length l → all_of ok (rows w n l) ≡ true → (r : List ℤ)
      → Memᴰ r (rows w n l) → (length r ≡ w) × (ok r ≡ true)
  row_has zero l h k r m = absurd (Memᴰ.not-nil m)
  row_has (suc n) l h k r m =
      let e = suc-mul n w in
      let both = and-true (ok (take w l)) (all_of ok (rows w n (drop w l))) k in
      let room : n * w ≤ length (drop w l) = rw (length-drop w l) (omega arith) in
      each-cons {p = λ (r : List ℤ). (length r ≡ w) × (ok r ≡ true)} (length-take-le w l (omega arith), both.0)
      (row_has n (drop w l) room both.1) r m

-- each element has it
pub each_of_rows : {A : Type 0} (w : ℕ) (of : List ℤ → A) (ok : List ℤ → Bool) (P : A → Type 0)
    → ((r : List ℤ) → length r ≡ w → ok r ≡ true → P (of r))
    → (z : ℤ) (l : List ℤ) → within 0 (length l / w) z ≡ true → all_of ok (rows w (nat_abs z) l) ≡ true → (x : A)
    → Memᴰ x (map of (rows w (nat_abs z) l)) → P x
each_of_rows w of ok P has z l fits good x k =
    let div = div-add-mod' (length l) w in
    let few : nat_abs z * w ≤ length l / w * w = mul-le-mul_right w (within-most 0 (length l / w) z fits) in
    let row = Memᴰ.of_map of (rows w (nat_abs z) l) k in
    let is = row_has w ok (nat_abs z) l (omega arith) good row.0 row.1 in
    subst P row.2 (has row.0 is.0 is.1)
