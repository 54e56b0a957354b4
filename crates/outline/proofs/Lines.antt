-- A line of the contents, part by part. Assumes nothing.
use mathlib.Core.Path.{◌≡◌, sym, ap, ◌∙◌}
use mathlib.Core.Bool.{Bool, true, false, cond}
use mathlib.Core.List.{List, [], ◌∷◌, ◌++◌}
use Prim.Native.Nat.{ℕ, ◌+◌, ◌*◌, ◌≤◌}
use native.Mathlib.Omega.{arith}
use lib.IntN.{ℤ, pos}
use lib.ListN.{length, replicate, length-append, length-replicate}
use lib.Seq.{sets, length-sets}
use Rattle.console.specs.Texts.{clamp_len}
use Rattle.lists.proofs.Appends.{sets_append}
use Rattle.tables.specs.Tables.{same_z}
use Rattle.printing.specs.Texts.{row_text}
use Rattle.printing.proofs.Rows.{row_few}
use Rattle.console.specs.Texts.{TextPut}
use Rattle.console.proofs.Texts.{text_put}
use Rattle.outline.specs.Lines.{word_of, levels, line_text}

pub word_few : (kind : ℤ) → length (word_of kind) ≤ 5
word_few kind = few (same_z kind (pos 0))
  where
    few : (b : Bool) → length {A = ℕ} (cond b (102 ∷ 97 ∷ 99 ∷ 101 ∷ []) (112 ∷ 105 ∷ 101 ∷ 99 ∷ 101 ∷ [])) ≤ 5
    few true = omega arith
    few false = omega arith

-- blanks, the word and the number, one after the other
module _ (before blanked worded after : List ℕ) (depth kind number : ℤ) (n at r : ℕ)
    (d : n ≡ clamp_len depth levels * 2) (few : n ≤ 800)
    (b : blanked ≡ sets before 0 (replicate n 32))
    (w : worded ≡ sets blanked n (word_of kind)) (a : at ≡ n + length (word_of kind))
    (f : after ≡ sets worded at (row_text (number ∷ []))) (m : r ≡ at + length (row_text (number ∷ [])))
    (size : 828 ≤ length worded) where
  abbrev indent : List ℕ
  indent = replicate (clamp_len depth levels * 2) 32

  indented : n ≡ 0 + length indent
  indented = omega (arith, length-replicate {A = ℕ} (clamp_len depth levels * 2) 32)

  named : at ≡ 0 + length (indent ++ word_of kind)
  named = omega (arith, length-append indent (word_of kind), indented)

  worded_is : worded ≡ sets before 0 (indent ++ word_of kind)
  worded_is =
      w ∙ (λ i. sets ((b ∙ ap (λ (k : ℕ). sets before 0 (replicate k 32)) d) i) (indented i) (word_of kind))
      ∙ sym (sets_append indent (word_of kind) before 0)

  size_kept : length worded ≡ length before
  size_kept = ap length worded_is ∙ length-sets before 0 (indent ++ word_of kind)

  total : r ≡ length (line_text depth kind number)
  unfolding line_text
  total = omega (arith, length-append (indent ++ word_of kind) (row_text (number ∷ [])), named)

  pub line-put : TextPut before (line_text depth kind number) after r
  unfolding line_text
  line-put =
      text_put before (line_text depth kind number) after r
      (f ∙ (λ i. sets (worded_is i) (named i) (row_text (number ∷ [])))
      ∙ sym (sets_append (indent ++ word_of kind) (row_text (number ∷ [])) before 0))
      total
      (omega (arith, total, word_few kind, row_few (number ∷ []), size_kept))
