-- `edit_split::end_half` meets its contract. Assumes nothing.
use mathlib.Core.Path.{◌≡◌, ap, ◌∙◌}
use Prim.Native.Nat.{◌+◌, ◌*◌}
use lib.IntN.{pos, neg_ℤ}
use lib.ListN.{get_or}
use mir.Syntax.{w64}
use mir.Val.{to_z, of_z}
use mir.Facts.{to_z-of_z}
use Rattle.integers.specs.Signs.{sent}
use Rattle.edit_split.proofs.end_half.Goals as goal

pub returns : goal.returns
returns c =
    let s = c in
    let e₁ : to_z w64 (of_z w64 c.negated.result) ≡ neg_ℤ s.args.a = sent c.negated.type_inv ∙ c.negated.ensures
    ∙ ap neg_ℤ (to_z-of_z {w = w64} s.ranges.a) in
    let l = s.args.edges.now in
    let i = s.args.i in
    rw (
      e₁,
      to_z-of_z {w = w64} {z = s.args.b} s.ranges.b,
      to_z-of_z {w = w64} {z = s.args.node} s.ranges.node,
      sent {z = get_or l (i * 32 + 6) (pos 0)} c.right-1.given,
      sent {z = get_or l (i * 32 + 5) (pos 0)} c.left-1.given,
      sent {z = get_or l (i * 32 + 3) (pos 0)} c.next_left-1.given,
      sent {z = get_or l (i * 32 + 2) (pos 0)} c.end-1.given,
    )
