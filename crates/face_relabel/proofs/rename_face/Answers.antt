-- `face_relabel::rename_face` meets its contract: a column at a time. Assumes nothing.
use mathlib.Core.Path.{ap, ◌∙◌}
use mathlib.Core.List.{List}
use Prim.Native.Nat.{◌+◌, ◌*◌}
use lib.IntN.{ℤ}
use mir.Facts.{to_z-of_z}
use Rattle.lists.specs.Tables.{sweep}
use Rattle.tables.specs.Tables.{replace_at}
use Rattle.face_relabel.proofs.rename_face.Goals as goal

pub returns : goal.returns
returns c =
    let third = c in
    let second = third in
    let first = second in
    let s = first in
    let a = s.args in (
      rw (to_z-of_z s.ranges.old, to_z-of_z s.ranges.new) at first.replace_column.ensures,
      (rw (to_z-of_z s.ranges.old, to_z-of_z s.ranges.new) at third.replace_column-3.ensures)
          ∙ ap (λ (l : List ℤ). sweep (λ l i. replace_at a.old a.new l (i * 32 + 6)) l 0 a.count)
          (rw (to_z-of_z s.ranges.old, to_z-of_z s.ranges.new) at second.replace_column-2.ensures),
    )
