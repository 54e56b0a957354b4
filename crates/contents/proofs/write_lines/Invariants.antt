-- `contents::write_lines` meets its contract: what is written, and what is left, make up the whole. Assumes nothing.
use mathlib.Core.Path.{◌≡◌}
use Prim.Native.Nat.{◌*◌, ◌-◌, ◌≤◌}
use lib.Seq.{sets}
use Rattle.contents.proofs.Writes.{cells_from}
use Rattle.contents.proofs.write_lines.Given as goal

abbrev pub invariant-loop-j : goal.invariant-loop-j
invariant-loop-j l =
    (l.j ≤ l.parts)
    × (sets l.list (l.j * 3) (cells_from l.nodes l.faces l.notes l.parts l.j) ≡ sets l.initial.list 0 (cells_from l.nodes l.faces l.notes l.parts 0))

abbrev pub decreases-loop-j : goal.decreases-loop-j
decreases-loop-j l = l.parts - l.j
