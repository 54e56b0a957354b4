-- What is printed: answers, the head and rows as text.
use Rattle.std.specs.Prelude.{◌≡◌, Bool, cond, List, [], ◌∷◌, ◌++◌, ℕ, zero, suc, ◌/◌, ◌≤◌, min, ℤ, pos, negsuc, length, take}
use Rattle.std.proofs.lemmas.List.Edits.{sets}
use Rattle.tables.specs.Tables.{row_at}
use Rattle.map.specs.declared.Head.{Head}
use Rattle.map.specs.Limits.{node_width, edge_width, face_width}
use Rattle.map.specs.Rows.{Lent}
use Rattle.map.specs.Ticket.{Outcome}
use Rattle.printing.specs.Texts.{natural_text, number_text, row_text}

-- refusal, a blank, the value and a line end
unfoldable pub answer_text : ℕ → ℤ → List ℕ
answer_text refusal value = natural_text refusal ++ 32 ∷ number_text value ++ 10 ∷ []

-- a letter and a row
unfoldable pub tagged_text : ℕ → List ℤ → List ℕ
tagged_text tag row = tag ∷ row_text row

-- the head's numbers: the counts, the next numbers, the record of points
abbrev pub head_numbers : Head → List ℤ
head_numbers h = h.nodes ∷ h.edges ∷ h.faces ∷ h.next_node ∷ h.next_edge ∷ h.next_face ∷ h.points ∷ []

-- the number from 0 to `most` that is nearest
abbrev pub clamp_len : ℤ → ℕ → ℕ
clamp_len (pos k) most = min k most
clamp_len (negsuc k) most = 0

-- a text put at the front of a buffer, and its length
pub record TextPut (before text after : List ℕ) (r : ℕ) : Type 0 where
  pub puts : after ≡ sets before 0 text
  pub count : r ≡ length text
  -- that it fits: the part of the buffer that is written
  pub fits : r ≤ length after
  pub front : r ≡ length (take r after)

-- ---- the head and the rows in use

-- the first n rows of a table
abbrev pub rows_text : ℕ → ℕ → List ℤ → ℕ → List ℕ
rows_text tag w table zero = []
rows_text tag w table (suc n) = rows_text tag w table n ++ tagged_text tag (row_at w table n)

-- as many as the head counts, as far as the table has them
abbrev pub used_text : ℕ → ℕ → List ℤ → ℤ → List ℕ
used_text tag w table count = rows_text tag w table (clamp_len count (length table / w))

unfoldable pub sheet_text : Lent → List ℕ
sheet_text l = tagged_text 72 (head_numbers l.head) ++ used_text 78 node_width l.nodes l.head.nodes
    ++ used_text 69 edge_width l.edges l.head.edges ++ used_text 70 face_width l.faces l.head.faces

-- an answer, with `rows` the head and the rows in use after it
unfoldable pub done_text : Bool → Outcome → List ℕ
done_text rows o = answer_text o.answer.refusal o.answer.value ++ cond rows (sheet_text o.lent) []
