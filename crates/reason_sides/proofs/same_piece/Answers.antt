-- `reason_sides::same_piece` meets its contract: labels tell pieces apart. Assumes nothing.
use borrow.Author.Rules.{sfits_of}
use mathlib.Core.Path.{ap₂, ◌∙◌}
use Prim.Native.Nat.{ℕ, ◌+◌, ◌*◌}
use lib.IntN.{ℤ, pos}
use lib.ListN.{get_or}
use mir.Syntax.{w64}
use mir.Facts.{to_z-of_z}
use Rattle.lists.specs.Tests.{same}
use Rattle.map.specs.Limits.{edge_width}
use Rattle.reason_sides.proofs.Pieces.{labels_tell}
use Rattle.reason_sides.proofs.same_piece.Goals as goal

pub returns : goal.returns
unfolding same
returns c =
    let s = c in
    let a = s.args in
    let p = s.requires in
    let start : ℕ → ℤ = λ k. get_or a.edges.rows.now (k * edge_width + 1) (pos 0) in
    ap₂ same
    (rw (to_z-of_z {w = w64} {z = start a.j} (sfits_of s.start-1.given)) at c.label_of.ensures)
    (rw (to_z-of_z {w = w64} {z = start a.i} (sfits_of s.own-1.given)) at c.label_of-2.ensures)
    ∙ labels_tell p.0 p.3 a.j a.i p.2 p.1
