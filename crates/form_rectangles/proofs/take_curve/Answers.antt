-- `form_rectangles::take_curve` meets its contract. Assumes nothing.
use mathlib.Core.Path.{ap, ◌∙◌}
use native.Mathlib.Omega.{arith}
use lib.ListN.{length-set}
use Rattle.bounding_boxes.specs.Extents.{extent_of}
use Rattle.form_rectangles.specs.Merged.{box_in}
use Rattle.form_rectangles.proofs.Boxes.{taken, taken_once, taken_twice}
use Rattle.form_rectangles.proofs.take_curve.Goals as goal

pub returns-then-a-b : goal.returns-then-a-b
returns-then-a-b c =
    let a = c.args in
    let is = c.extent_of-e.ensures ∙ ap extent_of c.curve_of.ensures.1 in
    let long = length-set a.boxes.now a.a c.united.result in
    λ j. taken_twice j a.a a.b (box_in a.boxes.now j)
    (taken a.boxes.now a.a _ (omega (arith, c.told-boxes, c.requires.1)) c.united.ensures j) is c.if-a-b.true
    (taken _ a.b _ (omega (arith, c.told-boxes, long, c.requires.2)) c.united-then-a-b.ensures j)

pub returns-else-a-b : goal.returns-else-a-b
returns-else-a-b c =
    let a = c.args in
    let is = c.extent_of-e.ensures ∙ ap extent_of c.curve_of.ensures.1 in
    λ j. taken_once j a.a a.b (box_in a.boxes.now j)
    (taken a.boxes.now a.a _ (omega (arith, c.told-boxes, c.requires.1)) c.united.ensures j) is c.if-a-b.false
