-- `face_rows::without_face` meets its contract. Assumes nothing.
use borrow.Author.Rules.{rules}
use mathlib.Core.Path.{ap, ◌∙◌}
use Prim.Native.Nat.{ℕ}
use Rattle.lists.proofs.Counts.{byte_most, byte_bit}
use Rattle.map.specs.Rows.{counts}
use Rattle.head.specs.Heads.{changed_head}
use Rattle.face_rows.proofs.without_face.Goals as goal

pub returns : goal.returns
returns c =
    c.changed.ensures
    ∙ ap (λ (n : ℕ). changed_head c.args.h (counts 0 0 0) (counts 0 0 1) (counts 0 0 n))
    (byte_bit c.args.makes)

pub changed-requires : goal.changed-requires
changed-requires c = let k = byte_most c.args.makes in search rules
