-- The numbers from z on are still to be written.
use Rattle.std.proofs.Common.{◌+◌, ◌*◌, ◌≡◌, ◌≤◌, length, drop}
use Rattle.std.proofs.lemmas.List.Edits.{sets}
use Rattle.printing.specs.Texts.{row_text}
use Rattle.printing.proofs.write_row.Given as goal

abbrev pub invariant-loop-z : goal.invariant-loop-z
invariant-loop-z l = (l.end ≤ l.at + l.z-index * 22)
    × (sets l.initial.out l.at (row_text l.row) ≡ sets l.out l.end (row_text (drop l.z-index l.row)))
    × (l.at + length (row_text l.row) ≡ l.end + length (row_text (drop l.z-index l.row)))
