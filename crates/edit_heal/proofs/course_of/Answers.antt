-- `edit_heal::course_of` meets its contract. Assumes nothing.
use mathlib.Core.Path.{ap, ◌∙◌}
use Prim.Native.Nat.{◌%◌}
use Rattle.lists.proofs.Bools.{same_eq, same_false}
use Rattle.curves.specs.Curves.{Curve, points}
use Rattle.curves.specs.Edits.{reversed}
use Rattle.curve_edits.specs.Lines.{line_of}
use Rattle.edit_heal.proofs.course_of.Goals as goal

pub returns-then-p-eq1 : goal.returns-then-p-eq1
returns-then-p-eq1 c =
    rw (same_eq (c.args.p % 2) 1 c.if-p-eq1.true)
    (c.reversed_of.ensures ∙ ap (λ (d : Curve). line_of (points (reversed d)))
    c.curve_of-c.ensures.1)

pub returns-else-p-eq1 : goal.returns-else-p-eq1
returns-else-p-eq1 c =
    rw (same_false (c.args.p % 2) 1 c.if-p-eq1.false)
    (c.whole_of.ensures ∙ ap (λ (d : Curve). line_of (points d)) c.curve_of-c.ensures.1)
