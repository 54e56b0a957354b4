-- A ticket on a line of text, the bytes of lines one after the other, and the ticket program.
use Rattle.std.specs.Prelude.{◌≡◌, cond, List, [], ◌∷◌, ◌++◌, ℕ, suc, ◌*◌, ◌<◌, ℤ, pos, length, take, replicate}
use Rattle.std.specs.Option.{unwrap_or}
use Rattle.lists.specs.Tests.{same}
use Rattle.lists.specs.Scans.{fold}
use Rattle.lists.specs.Members.{All}
use Rattle.map.specs.declared.Head.{Head}
use Rattle.curves.specs.Curves.{max_points}
use Rattle.map.specs.Limits.{node_width, edge_width, face_width, TwelvePoints}
use Rattle.map.specs.Rows.{Lent, lent, empty_map, head_of}
use Rattle.map.specs.Ticket.{Outcome, ticket, emptied}
use Rattle.text.specs.Lines.{max_line, line_numbers}

-- the ticket on a line: its numbers; a line that is wrong is a ticket of no numbers, which is answered 3
abbrev pub line_ticket : List ℕ → List ℤ
line_ticket line = unwrap_or (line_numbers line) []

unfoldable pub line_answered : Lent → List ℕ → Outcome
line_answered l line = ticket l (line_ticket line)

-- after some bytes of the input: what is lent, and the line that has not ended
pub record Desk : Type 0 where
  pub lent : Lent
  pub line : List ℕ

-- a line that is too long is wrong whatever follows: no more of it is kept than tells so
abbrev pub kept_bytes : ℕ
kept_bytes = suc max_line

-- one byte more
unfoldable pub served : Desk → ℕ → Desk
served d b = cond (same b 10) (record { lent = (line_answered d.lent d.line).lent; line = [] })
    (record { lent = d.lent; line = take kept_bytes (d.line ++ b ∷ []) })

abbrev pub Bytes : List ℕ → Type 0
Bytes l = All (λ b. b < 256) l

-- some bytes lead from one desk to another
pub record DeskServed (before after : Desk) : Type 0 where
  pub bytes : List ℕ
  pub are_bytes : Bytes bytes
  pub leaves : after ≡ fold served before bytes

-- ---- the whole input

-- at its end a line that has not ended is answered as if it had
unfoldable pub finished : Desk → Lent
finished d = cond (same (length d.line) 0) d.lent (line_answered d.lent d.line).lent

-- what is lent after all bytes of an input
abbrev pub after_input : Lent → List ℕ → Lent
after_input l bytes = finished (fold served (record { lent = l; line = [] }) bytes)

-- some input was answered to its end; no contract says which bytes a call reads
pub record InputServed (before after : Lent) : Type 0 where
  pub bytes : List ℕ
  pub are_bytes : Bytes bytes
  pub leaves : after ≡ after_input before bytes

-- ---- the ticket program

-- it has 200 rows a table, and takes 12 points
abbrev pub program_rows : ℕ
program_rows = 200

-- a table of rows of w numbers
abbrev pub program_table : ℕ → List ℤ
program_table w = replicate (program_rows * w) (pos 0)

unfoldable pub program_tables : Lent
program_tables = lent (program_table node_width) (program_table edge_width) (program_table face_width)
    (head_of TwelvePoints empty_map)

-- the head after some input, from the empty map on
pub record ProgramServed (h : Head) : Type 0 where
  pub bytes : List ℕ
  pub are_bytes : Bytes bytes
  pub leaves : h ≡ (after_input (emptied program_tables (pos max_points)).lent bytes).head
