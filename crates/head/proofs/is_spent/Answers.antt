-- `head::is_spent` meets its contract. Assumes nothing.
use borrow.Author.Rules.{rules}
use mathlib.Core.Path.{◌≡◌}
use mir.Syntax.{w64}
use mir.Val.{to_z, of_z}
use Rattle.head.specs.Heads.{spent_at}
use Rattle.head.proofs.is_spent.Goals as goal

pub returns : goal.returns
unfolding spent_at
returns c =
    let h = c.args.h in
    let n : to_z w64 (of_z w64 h.next_node) ≡ h.next_node = search rules in
    let e : to_z w64 (of_z w64 h.next_edge) ≡ h.next_edge = search rules in
    let f : to_z w64 (of_z w64 h.next_face) ≡ h.next_face = search rules in
    rw (
      c.exceeds.ensures,
      c.exceeds-2.ensures,
      c.exceeds-3.ensures,
      n,
      e,
      f,
    )
