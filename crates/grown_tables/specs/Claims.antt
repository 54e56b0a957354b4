-- What is proved of tables that tickets left: the empty map is such, every ticket leaves such, and such are in form. So
-- conditions 1 and 2 need not be looked at again before each ticket. Proved in proofs/Grown.antt (`created_grown`,
-- `ticket_grown`, `grown_formed`).
use Rattle.std.specs.Prelude.{◌≡◌, true, List, ℤ}
use Rattle.map.specs.declared.Head.{Head}
use Rattle.map.specs.Limits.{is_record}
use Rattle.map.specs.Rows.{Lent, lent, whole}
use Rattle.map.specs.Ticket.{ticket, emptied}
use Rattle.outcomes.specs.Outcomes.{Formed}
use Rattle.grown_tables.specs.Tables.{GrownTables}

-- the empty map, created in whole tables for 6 points or 12
abbrev pub CreatedGrown : Type 0
CreatedGrown = (l : Lent) (k : ℤ) → whole l ≡ true → is_record k ≡ true → GrownTables (emptied l k).lent

-- one ticket more, carried out or turned down
abbrev pub TicketGrown : Type 0
TicketGrown = (l : Lent) (t : List ℤ) → GrownTables l → GrownTables (ticket l t).lent

-- neither condition 1 nor condition 2 answers
abbrev pub GrownFormed : Type 0
GrownFormed =
    (nodes edges faces : List ℤ) (h : Head) → GrownTables (lent nodes edges faces h) → Formed nodes edges faces h
