-- `form_rectangles::has_box` meets its contract. Assumes nothing.
use borrow.Author.Rules.{sfits_of}
use mathlib.Core.Bool.{◌&&◌}
use lib.Dec.{lit<}
use Rattle.form_rectangles.proofs.Rows.{cell_tested}
use Rattle.form_rectangles.proofs.has_box.Goals as goal

pub returns : goal.returns
returns c =
    let b = c in
    let d = b in
    let s = d in
    let l = s.args.faces.now in
    let k = s.args.k in
    let e = s.args.e in
    let bounds = s.requires.2 in
    let x = cell_tested l k 1 e.left (lit< tt) (sfits_of d.result-1.given) bounds.left in
    let y = cell_tested l k 2 e.low (lit< tt) (sfits_of d.result-2-1.given) bounds.low in
    let z = cell_tested l k 3 e.right (lit< tt) (sfits_of b.result-3-1.given) bounds.right in
    let t = cell_tested l k 4 e.high (lit< tt) (sfits_of c.result-4-1.given) bounds.high in
    λ i. x i && y i && z i && t i
