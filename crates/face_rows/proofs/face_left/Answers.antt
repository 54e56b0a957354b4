-- `face_rows::face_left` meets its contract. Assumes nothing.
use mathlib.Core.Path.{sym, ap, ◌∙◌}
use mathlib.Core.Bool.{Bool, cond}
use Prim.Native.Nat.{min}
use lib.IntN.{pos, nat_abs}
use mir.Syntax.{w64}
use mir.Facts.{to_z-of_z}
use Rattle.std.specs.Int.{int_min}
use Rattle.integers.specs.Signs.{sent}
use Rattle.face_rows.proofs.Words.{least_is}
use Rattle.face_rows.proofs.face_left.Goals as goal

pub returns-then-makes : goal.returns-then-makes
returns-then-makes c =
    let a = c.args in
    to_z-of_z {w = w64} c.ranges.next ∙ c.requires.0
    ∙ sym (ap (λ (b : Bool). pos (cond b (nat_abs a.next) (min (nat_abs a.left) (nat_abs a.right)))) c.if-makes.true)

pub returns-else-makes : goal.returns-else-makes
returns-else-makes c =
    let a = c.args in
    let l = to_z-of_z {w = w64} c.ranges.left ∙ c.requires.1 in
    let r = to_z-of_z {w = w64} c.ranges.right ∙ c.requires.2 in
    sent c.min.type_inv ∙ c.min.ensures.value ∙ (λ i. int_min (l i) (r i)) ∙ least_is (nat_abs a.left) (nat_abs a.right)
    ∙ sym (ap (λ (b : Bool). pos (cond b (nat_abs a.next) (min (nat_abs a.left) (nat_abs a.right)))) c.if-makes.false)
