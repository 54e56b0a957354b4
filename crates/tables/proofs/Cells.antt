-- Laws of a table's cells under `paste`: a turn of a loop that copies, what is read of the copy, and two writes.
-- Assumes nothing.
use mathlib.Core.Path.{◌≡◌, sym, ap, ap₂, ◌∙◌}
use mathlib.Core.List.{List, ◌++◌, append_assoc}
use Prim.Native.Nat.{ℕ, ◌+◌, ◌-◌, ◌*◌, ◌<◌, ◌≤◌}
use native.Mathlib.Nat.{suc-mul, mul-le-mul_right, add_assoc}
use native.Mathlib.Omega.{arith}
use lib.ListN.{length, get_or, set, take, drop, length-append}
use lib.Seq.{paste, length_paste_head, get_or-append-add, get_or-drop, take-paste, drop-paste, drop-drop}
use lib.Seq.{take_all}
use Rattle.std.proofs.lemmas.List.Edits.{paste_more}

module _ {A : Type 0} (d : List A) (at : ℕ) (s : List A) where
  -- a turn of a loop whose list was t, and which stores v
  pub copy_more : (j : ℕ) (z : A) (t : List A) (v : A) → at + j < length d → j < length s → t ≡ paste d at s j → v
      ≡ get_or s j z → set t (at + j) v ≡ paste d at s (j + 1)
  copy_more j z t v hd hs e f = rw (e, f) (paste_more d at s j z hd hs)

  -- the loop's end
  pub copy_end : (j n : ℕ) (t : List A) → t ≡ paste d at s j → j ≡ n → t ≡ paste d at s n
  copy_end j n t e f = rw f at e

  module _ (n : ℕ) (z : A) (hd : at + n ≤ length d) (hs : n ≤ length s) where
    head : length (take at d ++ take n s) ≡ at + n
    head = length_paste_head d at s n (omega arith) hs

    pub paste-after : (k : ℕ) → at + n ≤ k → get_or (paste d at s n) k z ≡ get_or d k z
    paste-after k h =
        let e : k ≡ at + n + (k - (at + n)) = omega arith in
        let f : k ≡ length (take at d ++ take n s) + (k - (at + n)) = omega (arith, head) in
        ap (λ (m : ℕ). get_or (paste d at s n) m z) f
        ∙ get_or-append-add (take at d ++ take n s) (drop (at + n) d) (k - (at + n)) z
        ∙ get_or-drop (at + n) d (k - (at + n)) z
        ∙ ap (λ (m : ℕ). get_or d m z) (sym e)

-- two writes side by side are one
pub paste-paste : {A : Type 0} (d h c : List A) (a m k : ℕ) → length h ≡ m → length c ≡ k → a + m ≤ length d
    → paste (paste d a h m) (a + m) c k ≡ paste d a (h ++ c) (m + k)
paste-paste d h c a m k hm hk room =
    let p = paste d a h m in
    let front : take (a + m) p ≡ take a d ++ h = take-paste d a h m (omega arith) (omega arith)
    ∙ ap (λ l. take a d ++ l) (take_all m h (omega arith)) in
    let behind : drop (a + m + k) p ≡ drop (a + (m + k)) d =
    sym (drop-drop k (a + m) p) ∙ ap (drop k) (drop-paste d a h m (omega arith) (omega arith)) ∙ drop-drop k (a + m) d
    ∙ ap (λ n. drop n d) (add_assoc a m k) in
    let middle : take a d ++ h ++ take k c ≡ take a d ++ take (m + k) (h ++ c) =
    ap (λ l. take a d ++ h ++ l) (take_all k c (omega arith)) ∙ append_assoc (take a d) h c
    ∙ ap (λ l. take a d ++ l) (sym (take_all (m + k) (h ++ c) (omega (arith, length-append h c)))) in
    ap₂ (λ l r. l ++ take k c ++ r) front behind ∙ ap (λ l. l ++ drop (a + (m + k)) d) middle

-- row i of n lies in the table
pub row_room : (w n i : ℕ) → i < n → i * w + w ≤ n * w
row_room w n i h = rw (← suc-mul) (mul-le-mul_right w h)
