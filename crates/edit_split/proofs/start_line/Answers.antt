-- `edit_split::start_line` meets its contract. Assumes nothing.
use mathlib.Core.Path.{ap, ◌∙◌}
use Rattle.curves.specs.Curves.{Curve, points}
use Rattle.curves.specs.Edits.{front}
use Rattle.curve_edits.specs.Lines.{line_of}
use Rattle.edit_split.proofs.start_line.Goals as goal

pub returns : goal.returns
returns c = c.front_of.ensures ∙ ap (λ (d : Curve). line_of (points (front c.args.p d)))
    c.curve_of.ensures.1
