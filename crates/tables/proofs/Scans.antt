-- Turns of the loops over the numbers of a list and over the rows of a table. Assumes nothing.
use mathlib.Core.Path.{◌≡◌, sym, ap, ◌∙◌}
use mathlib.Core.Bool.{Bool, true, false, ◌&&◌}
use mathlib.Core.List.{List}
use Prim.Native.Nat.{ℕ, ◌+◌, ◌*◌, ◌-◌, ◌<◌, ◌≤◌}
use native.Mathlib.Nat.{sub-zero}
use native.Mathlib.Numerals.{add-one}
use native.Mathlib.Omega.{arith}
use lib.IntN.{ℤ}
use lib.ListN.{length, get_or, take, drop, length-drop, drop_of_length-le}
use lib.Seq.{length-take-le, take_all, drop-cons}
use Rattle.lists.specs.Scans.{all_of}
use Rattle.lists.specs.Tables.{table}
use Rattle.lists.proofs.Bools.{eq3}
use Rattle.lists.proofs.Scans.{all_hit, all_miss, all_end}
use Rattle.tables.specs.Tables.{rows, row_at}
use Rattle.tables.proofs.Cells.{row_room}
use Rattle.tables.proofs.Rows.{rows-table}

-- ---- the numbers from i on

module _ {A : Type 0} (p : A → Bool) (l : List A) (d : A) (i : ℕ) where
  rest_step : i < length l → all_of p (drop i l) ≡ p (get_or l i d) && all_of p (drop (i + 1) l)
  rest_step h = rw (drop-cons l i d h, add-one i)

  pub rest_hit : i < length l → p (get_or l i d) ≡ true → all_of p (drop i l) ≡ all_of p (drop (i + 1) l)
  rest_hit h e = rest_step h ∙ ap (λ (t : Bool). t && all_of p (drop (i + 1) l)) e

  -- a turn without a branch: what was met so far, and the rest
  pub rest_turn : (met : Bool) {b : Bool} → i < length l → b ≡ p (get_or l i d)
      → ((met && b) && all_of p (drop (i + 1) l)) ≡ (met && all_of p (drop i l))
  rest_turn met {b} h e =
      let rest = all_of p (drop (i + 1) l) in
      eq3 (λ m x r. (m && x) && r) (λ m x r. m && (x && r)) tt met b rest
      ∙ ap (λ (x : Bool). met && x) (ap (λ (x : Bool). x && rest) e ∙ sym (rest_step h))

  pub rest_miss : i < length l → p (get_or l i d) ≡ false → all_of p (drop i l) ≡ false
  rest_miss h e = rest_step h ∙ ap (λ (t : Bool). t && all_of p (drop (i + 1) l)) e

pub rest_end : {A : Type 0} (p : A → Bool) (l : List A) (i : ℕ) → length l ≤ i → all_of p (drop i l) ≡ true
rest_end p l i h = ap (all_of p) (drop_of_length-le l h)

-- the part of a list up to its end
pub rest_part : {A : Type 0} (l : List A) (at : ℕ) → take (length l - at) (drop at l) ≡ drop at l
rest_part l at = take_all (length l - at) (drop at l) (rw (length-drop at l) (omega arith))

-- ---- the rows from row i on

-- a part of the table that is row i
pub row_part : (w : ℕ) (l : List ℤ) (i : ℕ) → take (i * w + w - i * w) (drop (i * w) l) ≡ row_at w l i
row_part w l i = let e : i * w + w - i * w ≡ w = omega arith in rw e

pub row_length : (w : ℕ) (l : List ℤ) (n i : ℕ) → n * w ≤ length l → i < n → length (row_at w l i) ≡ w
row_length w l n i fits h = length-take-le w (drop (i * w) l)
    (rw (length-drop (i * w) l) (omega (arith, row_room w n i h)))

module _ (w : ℕ) (l : List ℤ) (ok : List ℤ → Bool) (n : ℕ) where
  pub rows_start : all_of ok (table (row_at w l) 0 (n - 0)) ≡ all_of ok (rows w n l)
  rows_start = ap (λ (k : ℕ). all_of ok (table (row_at w l) 0 k)) (sub-zero n) ∙ ap (all_of ok) (sym (rows-table w l n))

  -- row i asked by a function that answers r
  pub rows_hit : (i : ℕ) {r : Bool} {k : List ℤ} → i < n → r ≡ ok k → k ≡ row_at w l i → r ≡ true
      → all_of ok (table (row_at w l) i (n - i)) ≡ all_of ok (table (row_at w l) (i + 1) (n - (i + 1)))
  rows_hit i h e f t = all_hit (row_at w l) i n ok h (sym (ap ok f) ∙ sym e ∙ t)

  pub rows_miss : (i : ℕ) {r : Bool} {k : List ℤ} → i < n → r ≡ ok k → k ≡ row_at w l i → r ≡ false
      → all_of ok (table (row_at w l) i (n - i)) ≡ false
  rows_miss i h e f t = all_miss (row_at w l) i n ok h (sym (ap ok f) ∙ sym e ∙ t)

  pub rows_end : (i : ℕ) → n ≤ i → all_of ok (table (row_at w l) i (n - i)) ≡ true
  rows_end i h = all_end (row_at w l) i n ok h
