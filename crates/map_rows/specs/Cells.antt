-- The 32 numbers of an edge row, as a function hands them on.
use Rattle.std.specs.Prelude.{List, ◌∷◌, ℤ, pos}
use Rattle.curve_edits.specs.declared.Line.{Line}
use Rattle.map_rows.specs.declared.Incidence.{Incidence}

abbrev pub cells_of : Incidence → Line → List ℤ
cells_of s l =
    s.number ∷ s.start ∷ s.end ∷ s.next_left ∷ s.next_right ∷ s.left ∷ s.right ∷ pos l.count ∷ l.cells
