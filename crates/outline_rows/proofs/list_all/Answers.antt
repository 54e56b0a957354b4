-- `outline_rows::list_all` meets its contract. Assumes nothing.
use mathlib.Core.Path.{refl}
use native.Mathlib.Omega.{arith}
use lib.ListN.{replicate}
use Rattle.outline_rows.proofs.Outlines.{zeros, some_parts, outlined}
use Rattle.outline_rows.proofs.list_all.Goals as goal

pub note-requires : goal.note-requires
note-requires c = (some_parts c.requires.0, c.requires.1, omega arith, omega arith, omega arith)

pub overflow_sub-parts : goal.overflow_sub-parts
overflow_sub-parts c = some_parts c.requires.0

pub list_pieces-left-requires : goal.list_pieces-left-requires
list_pieces-left-requires c =
    let r = c.requires.0 in
    record {
      matrix = r.matrix;
      row = omega arith;
      under = omega arith;
      depth = omega (arith, r.few, some_parts r);
      lines = omega (arith, c.requires.1, c.note.auto.notes);
      marks = c.note.auto.seen;
    }

pub returns : goal.returns
returns c =
    let a = c.args in
    rw c.eq.ensures (outlined a.graph.now a.parts c.requires.0 a.notes.now (replicate 2048 0)
    c.requires.1 refl (zeros 2048) _ _ c.note.ensures _ _ _ c.list_pieces-left.ensures)
