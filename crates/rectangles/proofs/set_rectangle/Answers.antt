-- `rectangles::set_rectangle` meets its contract. Assumes nothing.
use mathlib.Core.Path.{ap, ◌∙◌}
use lib.IntN.{ℤ, pos, nat_abs}
use mir.Syntax.{w64}
use mir.Val.{of_z}
use mir.Facts.{to_z-of_z}
use Rattle.lists.specs.Tables.{sweep}
use Rattle.lists.proofs.Bools.{same_eq, same_false}
use Rattle.bounding_boxes.specs.declared.Extent.{Extent}
use Rattle.rectangles.specs.Boxes.{set_row}
use Rattle.rectangles.proofs.Settings.{zero_word}
use Rattle.rectangles.proofs.set_rectangle.Goals as goal

pub returns-then-face-ne0 : goal.returns-then-face-ne0
returns-then-face-ne0 c =
    let b = c in
    let s = b in
    let a = s.args in
    c.write_rectangle.ensures
    ∙ ap (λ (z : ℤ). sweep (set_row z c.settled.result) a.faces.now 0 a.n)
    (to_z-of_z s.ranges.face ∙ s.requires.1)
    ∙ ap (λ (e : Extent). sweep (set_row (pos (nat_abs a.face)) e) a.faces.now 0 a.n)
    c.settled.ensures
    ∙ rw (same_false (nat_abs a.face) 0 (λ q. b.if-face-ne0.true (ap (of_z w64) (s.requires.1 ∙ ap pos q))))

pub returns-else-face-ne0 : goal.returns-else-face-ne0
returns-else-face-ne0 c =
    let s = c in
    rw (same_eq (nat_abs s.args.face) 0 (zero_word s.ranges.face c.if-face-ne0.false))
