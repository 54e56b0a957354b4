-- The contents of a sheet as text.
use Rattle.std.specs.Prelude.{cond, List, [], ◌∷◌, ◌++◌, ℕ, zero, suc, ◌+◌, ◌*◌, ◌/◌, ℤ, pos, replicate}
use Rattle.std.proofs.Math.ListN.{get_or}
use Rattle.tables.specs.Tables.{same_z}
use Rattle.map.specs.Ticket.{Listed}
use Rattle.printing.specs.Texts.{row_text}
use Rattle.console.specs.Lines.{program_rows}
use Rattle.console.specs.Texts.{clamp_len}

-- `face` for 0, else `piece`
abbrev pub word_of : ℤ → List ℕ
word_of kind = cond (same_z kind (pos 0)) (102 ∷ 97 ∷ 99 ∷ 101 ∷ []) (112 ∷ 105 ∷ 101 ∷ 99 ∷ 101 ∷ [])

-- faces and pieces, and so levels, at most
abbrev pub levels : ℕ
levels = program_rows * 2

-- blanks before a line, at most
abbrev pub indent : ℕ
indent = levels * 2

-- two blanks a level, the word, a blank and the number
unfoldable pub line_text : ℤ → ℤ → ℤ → List ℕ
line_text depth kind number = replicate (clamp_len depth levels * 2) 32 ++ word_of kind ++ row_text (number ∷ [])

-- ---- the lines of a list

-- three numbers a line
abbrev pub line_at : List ℤ → ℕ → List ℕ
line_at list i = line_text (get_or list (i * 3) (pos 0)) (get_or list (i * 3 + 1) (pos 0)) (get_or list (i * 3 + 2) (pos 0))

-- the first n lines
abbrev pub lines_text : List ℤ → ℕ → List ℕ
lines_text list zero = []
lines_text list (suc n) = lines_text list n ++ line_at list n

-- as many as the answer counts numbers of, as far as the list has them
unfoldable pub contents_text : Listed → List ℕ
contents_text l = lines_text l.list (clamp_len l.answer.value (levels * 3) / 3)
