-- The numbers of a line's words, one after the other. Assumes nothing.
use Rattle.std.specs.Prelude.{◌≡◌, List, [], ◌∷◌, ℕ, suc, ◌+◌, ◌≤◌, ◌<◌, ℤ, Option, Some, None, length}
use Rattle.std.proofs.Common.{refl, sym, ap, ◌∙◌, arith, subst, get_or, drop, add-one, drop-cons}
use Rattle.std.proofs.Math.ListN.{drop_of_length-le}
use Rattle.std.specs.Option.{option_map}
use Rattle.std.specs.List.{filter, slice_split}
use Rattle.std.proofs.Math.ListN.{set}
use Rattle.std.proofs.lemmas.List.Edits.{sets}
use Rattle.text.specs.Lines.{max_line, blank, word_number, cons_number, numbers_of, words}
use Rattle.text.proofs.Words.{some_bytes, words_split, words_few}

-- each word is one number
pub numbers-length : (ws : List (List ℕ)) (zs : List ℤ) → numbers_of ws ≡ Some zs → length zs ≡ length ws
numbers-length [] zs e = let q : [] ≡ zs = cc in ap length (sym q)
numbers-length (w ∷ ws) zs e = pick (word_number w) (numbers_of ws) e (λ ys. numbers-length ws ys)
  where
    pick : (o : Option ℤ) (os : Option (List ℤ)) → cons_number o os ≡ Some zs
        → ((ys : List ℤ) → os ≡ Some ys → length ys ≡ length ws) → length zs ≡ suc (length ws)
    pick (Some z) (Some ys) q rest = let p : z ∷ ys ≡ zs = cc in ap length (sym p) ∙ ap suc (rest ys refl)
    pick (Some z) None q rest = cc
    pick None os q rest = cc

-- 1,000 bytes have at most 500 numbers
pub numbers_few : (l : List ℕ) (zs : List ℤ) → length l ≤ max_line → numbers_of (words l) ≡ Some zs → length zs ≤ 500
numbers_few l zs h e = omega (arith, words_few l, numbers-length (words l) zs e)

-- ---- n words are numbers, and those of `os` are still to come

abbrev pub counted : ℕ → Option (List ℤ) → Option ℕ
counted n os = option_map (λ zs. n + length zs) os

pub counted_none : (os : Option (List ℤ)) → option_map length os ≡ counted 0 os
counted_none (Some zs) = ap Some (omega arith)
counted_none None = refl

pub counted_more : (n : ℕ) (z : ℤ) (os : Option (List ℤ)) → counted n (cons_number (Some z) os) ≡ counted (n + 1) os
counted_more n z (Some zs) = ap Some (omega arith)
counted_more n z None = refl

-- n of them are written in l
abbrev pub put : ℕ → List ℤ → Option (List ℤ) → Option (List ℤ)
put n l os = option_map (sets l n) os

pub put_more : (n : ℕ) (l : List ℤ) (z y : ℤ) (os : Option (List ℤ)) → y ≡ z
    → put n l (cons_number (Some z) os) ≡ put (n + 1) (set l n y) os
put_more n l z y (Some zs) e = rw (e, add-one n)
put_more n l z y None e = refl

-- all are written
pub put_told : {zs : List ℤ} {os : Option (List ℤ)} (n : ℕ) (before after : List ℤ) → os ≡ Some zs
    → put 0 before os ≡ put n after (Some []) → after ≡ sets before 0 zs
put_told {zs} n before after e p = let q : Some (sets before 0 zs) ≡ Some after = rw e at p in cc

-- one is none
pub never_put : {zs : List ℤ} {os : Option (List ℤ)} {A : Type 0} (n : ℕ) (before after : List ℤ) → os ≡ Some zs
    → put 0 before os ≡ put n after None → A
never_put {zs} n before after e p = let q : Some (sets before 0 zs) ≡ None = rw e at p in cc

-- the word at n, which the loop takes as the k-th part that is not empty
abbrev pub Taken : List (List ℕ) → ℕ → List ℕ → Type 0
Taken ws k w = (k < length ws) × (w ≡ get_or ws k w)

pub next_word : (l : List ℕ) (k n : ℕ) (w : List ℕ) → n ≡ k → Taken (filter some_bytes (slice_split blank l)) k w
    → (n < length (words l))
    × (numbers_of (drop n (words l)) ≡ cons_number (word_number w) (numbers_of (drop (n + 1) (words l))))
next_word l k n w e t =
    let u : Taken (words l) n w =
    subst (λ (i : ℕ). Taken (words l) i w) (sym e) (subst (λ (ws : List (List ℕ)). Taken ws k w) (words_split l) t) in
    (u.0, rw (drop-cons (words l) n w u.0, ← u.1, add-one n))

pub last_word : (l : List ℕ) (k n : ℕ) → n ≡ k → k ≡ length (filter some_bytes (slice_split blank l))
    → numbers_of (drop n (words l)) ≡ Some []
last_word l k n e h =
    let m : length (filter some_bytes (slice_split blank l)) ≡ length (words l) = ap length (words_split l) in
    rw (drop_of_length-le (words l) {i = n} (omega arith))
