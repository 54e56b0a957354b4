-- `curve_edits::Line::empty` meets its contract. Assumes nothing.
use mathlib.Core.Path.{refl}
use Rattle.curve_edits.specs.Lines.{line_of}
use Rattle.curve_edits.proofs.Line.empty.Goals as goal

pub returns : goal.returns
unfolding line_of
returns c = refl
