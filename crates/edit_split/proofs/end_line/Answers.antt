-- `edit_split::end_line` meets its contract. Assumes nothing.
use mathlib.Core.Path.{ap, ◌∙◌}
use Rattle.curves.specs.Curves.{Curve, points}
use Rattle.curves.specs.Edits.{back}
use Rattle.curve_edits.specs.Lines.{line_of}
use Rattle.edit_split.proofs.end_line.Goals as goal

pub returns : goal.returns
returns c = c.back_of.ensures ∙ ap (λ (d : Curve). line_of (points (back c.args.p d)))
    c.curve_of.ensures.1
