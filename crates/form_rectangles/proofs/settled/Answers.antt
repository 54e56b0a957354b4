-- `form_rectangles::settled` meets its contract. Assumes nothing.
use borrow.Author.Rules.{sfits_of}
use mathlib.Core.Path.{sym, ap, ◌∙◌}
use mathlib.Core.Bool.{Bool, cond, ◌||◌}
use mathlib.Core.List.{[]}
use lib.Dec.{ltb}
use Rattle.map.specs.Rows.{box_of}
use Rattle.form_rectangles.specs.Merged.{box_in}
use Rattle.form_rectangles.proofs.Rows.{face_tested}
use Rattle.form_rectangles.proofs.settled.Goals as goal

pub returns-then-faces-k : goal.returns-then-faces-k
returns-then-faces-k c =
    let l = c.args.faces.now in
    let k = c.args.k in
    let box = box_in c.args.boxes.now k in
    sym (ap (λ (b : Bool). cond b (box_of []) box)
    (ap (λ (b : Bool). b || ltb box.right box.left) (sym (face_tested l k (sfits_of c.t11-1.given)))
    ∙ c.if-faces-k.true))

pub returns : goal.returns
returns c =
    let l = c.args.faces.now in
    let k = c.args.k in
    let box = box_in c.args.boxes.now k in
    sym (ap (λ (b : Bool). cond b (box_of []) box)
    (ap (λ (b : Bool). b || ltb box.right box.left) (sym (face_tested l k (sfits_of c.t11-1.given)))
    ∙ c.if-faces-k.false))
