-- What is answered of a whole line. Assumes nothing.
use Rattle.std.specs.Prelude.{◌≡◌, List, ◌++◌, ℕ, ◌+◌, ◌≤◌, ◌<◌, ℤ, Option, Some, None, length, take, drop}
use Rattle.std.proofs.Common.{refl, sym, ap, ◌∙◌, subst, arith}
use Rattle.std.specs.Option.{option_map}
use Rattle.std.proofs.Math.Nat.{zero-add}
use Rattle.std.proofs.lemmas.Bool.{le-leb, lt-leb}
use Rattle.std.proofs.Math.Seq.{paste}
use Rattle.std.proofs.lemmas.List.{take_all, take-append-le}
use Rattle.std.proofs.lemmas.List.Edits.{sets, sets-eq, paste_all}
use Rattle.text.specs.Lines.{max_line, line_numbers, numbers_of, words}
use Rattle.text.specs.Parsed.{ParsedAs}
use Rattle.text.proofs.Numbers.{numbers_few}

short : (l : List ℕ) → length l ≤ max_line → numbers_of (words l) ≡ line_numbers l
unfolding line_numbers
short l h = rw (le-leb (length l) max_line h)

long : (l : List ℕ) → max_line < length l → None ≡ line_numbers l
unfolding line_numbers
long l h = rw (lt-leb (length l) max_line h)

pub too_long : (l : List ℕ) (before : List ℤ) → max_line < length l → ParsedAs (line_numbers l) before None before
too_long l before h = rw (← (long l h)) (refl, refl)

module _ (l : List ℕ) (before : List ℤ) (h : length l ≤ max_line) where
  pub wrong_line : option_map length (numbers_of (words l)) ≡ None → ParsedAs (line_numbers l) before None before
  wrong_line e = subst (λ (o : Option (List ℤ)). ParsedAs o before None before) (short l h)
      (told (numbers_of (words l)) e)
    where
      told : (o : Option (List ℤ)) → option_map length o ≡ None → ParsedAs o before None before
      told (Some zs) e = cc
      told None e = (refl, refl)

  module _ (n : ℕ) (e : option_map length (numbers_of (words l)) ≡ Some n) where
    -- the line has n numbers, at most 500
    record Read : Type 0 where
      zs : List ℤ
      pub is : numbers_of (words l) ≡ Some zs
      pub many : length zs ≡ n
      pub few : n ≤ 500

    read : Read
    read = told (numbers_of (words l)) refl e
      where
        told : (o : Option (List ℤ)) → numbers_of (words l) ≡ o → option_map length o ≡ Some n → Read
        told (Some zs) q e =
            let m : length zs ≡ n = cc in
            record { zs = zs; is = q; many = m; few = omega (arith, numbers_few l zs h q) }
        told None q e = cc

    pub count_few : n ≤ 500
    count_few = read.few

    -- what the numbers' own list has at its front
    front : (own after : List ℤ) → length own ≡ 500
        → ((zs : List ℤ) → numbers_of (words l) ≡ Some zs → after ≡ sets own 0 zs) → take n after ≡ read.zs
    front own after m w =
        let zs = read.zs in
        ap (take n) (w zs read.is ∙ sets-eq zs own 0 (omega (arith, read.many, read.few)))
        ∙ take-append-le n zs (drop (0 + length zs) own) (omega (arith, read.many))
        ∙ take_all n zs (omega (arith, read.many))

    pub right_line : (own after list : List ℤ) → length own ≡ 500
        → ((zs : List ℤ) → numbers_of (words l) ≡ Some zs → after ≡ sets own 0 zs)
        → list ≡ paste before 0 (take n after) (length (take n after))
        → ParsedAs (line_numbers l) before (Some n) list
    right_line own after list m w p =
        let zs = read.zs in
        let put : list ≡ zs ++ drop (0 + length zs) before =
        p
        ∙ ap (λ (t : List ℤ). paste before 0 t (length t)) (front own after m w)
        ∙ paste_all before 0 zs (length zs) refl in
        subst (λ (o : Option (List ℤ)). ParsedAs o before (Some n) list) (sym read.is ∙ short l h)
        (ap Some (sym read.many), put ∙ ap (λ (k : ℕ). zs ++ drop k before) (zero-add (length zs)))
