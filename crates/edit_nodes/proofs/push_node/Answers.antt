-- `edit_nodes::push_node` meets its contract. Assumes nothing.
use mathlib.Core.Path.{◌∙◌}
use mathlib.Core.List.{[], ◌∷◌}
use Prim.Native.Nat.{◌*◌}
use lib.Seq.{paste}
use mir.Syntax.{w64}
use mir.Facts.{to_z-of_z}
use Rattle.map.specs.Limits.{node_width}
use Rattle.head.proofs.Words.{nodes_read}
use Rattle.outcomes.proofs.Words.{next_node_back}
use Rattle.edit_nodes.proofs.push_node.Goals as goal

pub returns : goal.returns
returns c =
    let w = c in
    let s = w in
    let a = s.args in
    let n = nodes_read s.requires.0 w.to_usize.ensures in
    let k = next_node_back s.requires.0 in
    let x = to_z-of_z {w = w64} s.ranges.x in
    let y = to_z-of_z {w = w64} s.ranges.y in
    let z = to_z-of_z {w = w64} s.ranges.around in (
      w.write_node.ensures
          ∙ (λ i. paste a.nodes.now (n i * node_width) (k i ∷ x i ∷ y i ∷ z i ∷ []) node_width),
      (λ i. record { head = c.changed.ensures i; value = k i }),
    )
