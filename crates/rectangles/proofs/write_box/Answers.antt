-- `rectangles::write_box` meets its contract: the numbers are written as they are. Assumes nothing.
use mathlib.Core.Path.{◌≡◌, ◌∙◌}
use mathlib.Core.List.{[], ◌∷◌}
use native.Mathlib.Omega.{arith}
use lib.IntN.{pos}
use lib.Seq.{paste}
use mir.Syntax.{w64}
use mir.Val.{to_z}
use mir.Facts.{to_z_pos}
use Rattle.rectangles.proofs.write_box.Goals as goal

pub returns : goal.returns
returns c =
    let s = c in
    let e = s.args.e in
    let b = s.requires.1 in
    let l : to_z w64 e.left ≡ pos e.left = to_z_pos w64 (omega (arith, b.left)) in
    let m : to_z w64 e.low ≡ pos e.low = to_z_pos w64 (omega (arith, b.low)) in
    let r : to_z w64 e.right ≡ pos e.right = to_z_pos w64 (omega (arith, b.right)) in
    let t : to_z w64 e.high ≡ pos e.high = to_z_pos w64 (omega (arith, b.high)) in
    c.write.ensures ∙ (λ i. paste s.args.faces.now s.args.at (l i ∷ m i ∷ r i ∷ t i ∷ []) 4)
