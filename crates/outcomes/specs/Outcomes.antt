-- What edits promise: on tables in form, tables, head and answer after the call are those that the definitions give.
use Rattle.std.specs.Prelude.{◌≡◌, true, List, ℕ, zero, suc, ℤ, pos, Option, Some, None, Result, Ok, Err}
use Rattle.map.specs.declared.Refusal.{Refusal}
use Rattle.map.specs.Refusals.{number}
use Rattle.map.specs.declared.Answer.{Answer}
use Rattle.map.specs.declared.Head.{Head}
use Rattle.bounding_boxes.specs.declared.Extent.{Extent}
use Rattle.map.specs.Rows.{Map, Lent, map_of, sizes_of, whole, lent, rectangle, lent_with}
use Rattle.map.specs.Form.{in_form}
use Rattle.map.specs.Tickets.{Ticket}
use Rattle.map.specs.Reasons.{Reasons, first_reason, reasons}
use Rattle.map.specs.Ticket.{Outcome, refused, unless, carried}
use Rattle.map.specs.Loans.{Table, lent_now}
use Rattle.outcomes.specs.declared.Done.{Done}
use Rattle.outcomes.specs.declared.Carried.{Carried}

-- the one record that edits require, which `form` establishes: conditions 1 and 2 do not hold
pub record Formed (nodes edges faces : List ℤ) (h : Head) : Type 0 where
  pub whole : whole (lent nodes edges faces h) ≡ true
  pub in_form : in_form (lent nodes edges faces h) ≡ true

-- the first reason from 4 on against a ticket of a known kind, on tables in form; 0 for none
abbrev pub reason_against : Lent → Ticket → ℕ
reason_against l t = first_reason (reasons (sizes_of l) (map_of l) t)

-- such a ticket: carried out unless a reason holds
abbrev pub decided : Lent → Ticket → Outcome
decided l t = unless l (reason_against l t) (carried (map_of l) t)

-- carried out unless there is a reason against it, with these rectangles in the face rows
abbrev pub unless_with : (ℕ → Extent) → Lent → ℕ → Map × ℤ → Outcome
unless_with box l zero c = record {
  lent = lent_with box (sizes_of l) c.0;
  answer = record { refusal = 0; value = c.1 };
}
unless_with box l (suc r) c = refused l (suc r)

-- carried out unless one of the reasons holds, with the rectangles still those of the edges before it
abbrev pub edited_unless : Lent → Reasons → Map × ℤ → Outcome
edited_unless l rs c = unless_with (rectangle (map_of l).edges) l (first_reason rs) c

-- as `decided`, with the rectangles of before: what the edits of rows leave
abbrev pub edited : Lent → Ticket → Outcome
edited l t = edited_unless l (reasons (sizes_of l) (map_of l) t) (carried (map_of l) t)

-- head and answer after an edit, with the head h before it
abbrev pub done_of : Head → Result Carried Refusal → Done
done_of h (Ok d) = record { head = d.head; answer = record { refusal = 0; value = d.value } }
done_of h (Err r) = record { head = h; answer = record { refusal = number r; value = pos 0 } }

-- what a call left and answered
abbrev pub outcome : List ℤ → List ℤ → List ℤ → Done → Outcome
outcome nodes edges faces d = record { lent = lent nodes edges faces d.head; answer = d.answer }

abbrev pub outcome_now : Table → Table → Table → Done → Outcome
outcome_now nodes edges faces d = record { lent = lent_now nodes edges faces d.head; answer = d.answer }

-- what a call left, with the head in a loan of its own
abbrev pub outcome_with : Table → Table → Table → Head → Answer → Outcome
outcome_with nodes edges faces h a = record { lent = lent_now nodes edges faces h; answer = a }

-- what was found of two numbers, as one answer
abbrev pub end_rows : Option ℕ → Option ℕ → Option (ℕ × ℕ)
end_rows (Some u) (Some v) = Some (u, v)
end_rows (Some u) None = None
end_rows None f = None

-- document 01's number for the answer of a lookup: 4 a named row is missing
abbrev pub lookup_refusal : Option ℕ → ℕ
lookup_refusal (Some i) = 0
lookup_refusal None = 4
