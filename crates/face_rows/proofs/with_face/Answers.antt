-- `face_rows::with_face` meets its contract. Assumes nothing.
use borrow.Author.Rules.{rules}
use mathlib.Core.Path.{◌≡◌, refl, ap, ◌∙◌}
use mathlib.Core.Bool.{Bool, true, false, cond}
use Prim.Native.Nat.{ℕ, ◌+◌}
use native.Mathlib.Omega.{arith}
use mir.Val.{bool_byte}
use Rattle.lists.proofs.Counts.{byte_most}
use Rattle.map.specs.Rows.{counts}
use Rattle.head.specs.Heads.{changed_head}
use Rattle.face_rows.proofs.with_face.Goals as goal

numbers : (b : Bool) → 1 + bool_byte b ≡ cond b 2 1
numbers true = refl
numbers false = refl

pub returns : goal.returns
returns c =
    c.changed.ensures
    ∙ ap (λ (n : ℕ). changed_head c.args.h (counts 0 0 1) (counts 0 0 0) (counts 0 0 n))
    (numbers c.args.goes)

pub overflow_add-given : goal.overflow_add-given
overflow_add-given c = let k = byte_most c.args.goes in omega arith

pub changed-requires : goal.changed-requires
changed-requires c = let k = byte_most c.args.goes in search rules
