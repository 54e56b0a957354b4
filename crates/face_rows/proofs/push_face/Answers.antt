-- `face_rows::push_face` meets its contract. Assumes nothing.
use mathlib.Core.Path.{sym, ap, ◌∙◌}
use native.Mathlib.Omega.{arith}
use Prim.Native.Nat.{◌*◌}
use lib.IntN.{nat_abs}
use lib.ListN.{set, length-set}
use mir.Syntax.{w64}
use mir.Facts.{to_z-of_z}
use Rattle.tables.proofs.Tests.{pos_abs}
use Rattle.map.specs.Limits.{face_width}
use Rattle.face_rows.proofs.FaceRows.{face_pushed}
use Rattle.face_rows.proofs.push_face.Goals as goal

pub returns : goal.returns
returns c =
    let a = c.args in (
      length-set a.faces.now (a.count * face_width) _,
      λ box none cells. face_pushed a.faces.now a.count (nat_abs a.face) box c.requires.0 none cells
          ∙ ap (set a.faces.now (a.count * face_width))
          (sym (to_z-of_z {w = w64} c.ranges.face ∙ pos_abs a.face c.requires.1)),
    )

pub bounds-faces-count : goal.bounds-faces-count
bounds-faces-count c = omega (arith, c.requires.0)
