-- The lines before i are written.
use Rattle.console.specs.Wrote.{Wrote}
use Rattle.outline.specs.Lines.{lines_text}
use Rattle.outline.proofs.write_lines.Given as goal

abbrev pub invariant-loop-i : goal.invariant-loop-i
invariant-loop-i g l = Wrote g.W.Write.contents l.initial.streams l.streams (lines_text l.list l.i)
