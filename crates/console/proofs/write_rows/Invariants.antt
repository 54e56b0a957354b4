-- The rows before i are written.
use Rattle.console.specs.Texts.{rows_text}
use Rattle.console.specs.Wrote.{Wrote}
use Rattle.console.proofs.write_rows.Given as goal

abbrev pub invariant-loop-i : goal.invariant-loop-i
invariant-loop-i g l = Wrote g.W.Write.contents l.initial.streams l.streams (rows_text l.tag l.width l.table l.i)
