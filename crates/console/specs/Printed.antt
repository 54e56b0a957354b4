-- What is printed for the bytes of lines, with `rows` the head and the rows in use after each answer.
use Rattle.std.specs.Prelude.{◌≡◌, Bool, cond, List, [], ◌∷◌, ◌++◌, ℕ, ◌-◌, ◌^◌, ◌≤◌, ◌⊎◌, pos, Option, IsNone, IsSome, length}
use Rattle.std.specs.Io.KnownBytes.{Appends, Consumes, IsAtEnd}
use Rattle.lists.specs.Tests.{same}
use Rattle.lists.specs.Scans.{fold}
use Rattle.map.specs.declared.Head.{Head}
use Rattle.curves.specs.Curves.{max_points}
use Rattle.map.specs.Rows.{Lent}
use Rattle.map.specs.Ticket.{emptied}
use Rattle.console.specs.declared.channel.Streams.{Streams}
use Rattle.console.specs.Lines.{Desk, line_answered, served, Bytes, after_input, program_tables}
use Rattle.console.specs.Texts.{done_text}

-- for one byte more: a line that it ends is answered
unfoldable pub byte_printed : Bool → Desk → ℕ → List ℕ
byte_printed rows d b = cond (same b 10) (done_text rows (line_answered d.lent d.line)) []

abbrev pub printed : Bool → Desk → List ℕ → List ℕ
printed rows d [] = []
printed rows d (b ∷ bytes) = byte_printed rows d b ++ printed rows (served d b) bytes

-- at the input's end: a line that has not ended is answered as if it had
unfoldable pub rest_printed : Bool → Desk → List ℕ
rest_printed rows d = cond (same (length d.line) 0) [] (done_text rows (line_answered d.lent d.line))

-- for all bytes of an input
abbrev pub input_printed : Bool → Lent → List ℕ → List ℕ
input_printed rows l bytes = printed rows (record { lent = l; line = [] }) bytes
    ++ rest_printed rows (fold served (record { lent = l; line = [] }) bytes)

-- ---- where a reader says what it has left, and a writer what it holds

-- some bytes are taken from the input and lead from one desk to another; unless a call fails, what is printed for them
-- is written
pub record Took {R W : Type 0} (remaining : R → Option (List ℕ)) (contents : W → Option (List ℕ)) (rows : Bool)
    (before after : Streams R W) (from to : Desk) : Type 0 where
  pub bytes : List ℕ
  pub are_bytes : Bytes bytes
  pub leaves : to ≡ fold served from bytes
  pub fails_once : IsSome before.failure → after ≡ before
  pub takes : IsNone after.failure → Consumes (remaining before.input) (remaining after.input) bytes
  pub writes : IsNone after.failure → Appends (contents before.output) (contents after.output) (printed rows from bytes)

-- unless a call fails, none is left after these bytes, or they are more than any run reads
abbrev pub Ends : {R W : Type 0} → (R → Option (List ℕ)) → Streams R W → List ℕ → Type 0
Ends remaining after bytes = IsNone after.failure → IsAtEnd (remaining after.input) ⊎ (2 ^ 64 - 1 ≤ length bytes)

-- an input was answered to its end
pub record Told {R W : Type 0} (remaining : R → Option (List ℕ)) (contents : W → Option (List ℕ)) (rows : Bool)
    (before after : Streams R W) (from to : Lent) : Type 0 where
  pub bytes : List ℕ
  pub are_bytes : Bytes bytes
  pub leaves : to ≡ after_input from bytes
  pub fails_once : IsSome before.failure → after ≡ before
  pub takes : IsNone after.failure → Consumes (remaining before.input) (remaining after.input) bytes
  pub ends : Ends remaining after bytes
  pub writes : IsNone after.failure
      → Appends (contents before.output) (contents after.output) (input_printed rows from bytes)

-- the ticket program answered its input to its end, from the empty map on
pub record ProgramTold {R W : Type 0} (remaining : R → Option (List ℕ)) (contents : W → Option (List ℕ)) (rows : Bool)
    (before after : Streams R W) (h : Head) : Type 0 where
  pub left : Lent
  pub told : Told remaining contents rows before after (emptied program_tables (pos max_points)).lent left
  pub head : h ≡ left.head
