-- The desk, as the code has it.
use Rattle.std.specs.Prelude.{◌≡◌, Bool, List, [], ℕ}
use Rattle.map.specs.Rows.{lent}
use Rattle.console.specs.declared.Desk.{Desk as DeskHeld}
use Rattle.console.specs.Lines.{Desk, line_answered}
use Rattle.console.specs.Texts.{done_text}

abbrev pub desk_now : DeskHeld → Desk
desk_now d = record { lent = lent d.nodes.now d.edges.now d.faces.now d.head; line = d.line.items }

-- the tables are those that were lent to it
abbrev pub SameLoans : DeskHeld → DeskHeld → Type 0
SameLoans before after = (after.nodes.ghost_name ≡ before.nodes.ghost_name)
    × (after.edges.ghost_name ≡ before.edges.ghost_name) × (after.faces.ghost_name ≡ before.faces.ghost_name)

-- its line is answered
abbrev pub next_line : Desk → Desk
next_line d = record { lent = (line_answered d.lent d.line).lent; line = [] }

abbrev pub line_printed : Bool → Desk → List ℕ
line_printed rows d = done_text rows (line_answered d.lent d.line)
