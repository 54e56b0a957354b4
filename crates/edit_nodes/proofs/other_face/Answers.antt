-- `edit_nodes::other_face` meets its contract. Assumes nothing.
use mathlib.Core.Path.{ap, ◌∙◌}
use mir.Syntax.{w64}
use mir.Facts.{to_z-of_z}
use Rattle.map.specs.Reasons.{minus_one}
use Rattle.tables.proofs.Order.{word_test}
use Rattle.edit_nodes.proofs.Faces.{other_is}
use Rattle.edit_nodes.proofs.other_face.Goals as goal

pub returns : goal.returns
returns c =
    let a = c.args.face in
    let b = c.args.around in
    rw (
      c.is_none.ensures ∙ ap minus_one (to_z-of_z {w = w64} {z = a} c.ranges.face),
      word_test {a = a} {b = b} c.ranges.face c.ranges.around,
    ) (other_is a b c.requires.0 c.requires.1)
