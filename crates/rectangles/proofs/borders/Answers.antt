-- `rectangles::borders` meets its contract: the faces of an edge row in range are not negative. Assumes nothing.
use borrow.Author.Rules.{sfits_of}
use mathlib.Core.Path.{◌≡◌, sym, ap, ap₂, ◌∙◌}
use mathlib.Core.Bool.{Bool, ◌||◌}
use Prim.Native.Nat.{ℕ}
use lib.Dec.{eqb}
use lib.IntN.{ℤ, pos, nat_abs}
use mir.Syntax.{w64}
use mir.Val.{of_z, SFits}
use Rattle.lists.specs.Tests.{same}
use Rattle.lists.proofs.Bools.{same_eq, same_false}
use Rattle.tables.specs.Tables.{same_z}
use Rattle.tables.proofs.Order.{word_test, same-pos}
use Rattle.map_rows.specs.Rows.{edge_at}
use Rattle.map_rows.proofs.Rows.{edge_cells_lem}
use Rattle.rectangles.proofs.borders.Goals as goal

-- a side of the edge is the face
side_is : {z face : ℤ} {k : ℕ} → SFits w64 z → SFits w64 face → z ≡ pos k → face ≡ pos (nat_abs face)
    → eqb (of_z w64 z) (of_z w64 face) ≡ same k (nat_abs face)
side_is {z} {face} {k} f g e p = word_test f g ∙ ap₂ same_z e p ∙ same-pos k (nat_abs face)

pub returns-then-left-face : goal.returns-then-left-face
unfolding same
returns-then-left-face c =
    let cells = edge_cells_lem c.args.edges.now c.args.i c.requires.0.ranges in
    let t = same_eq _ _ c.if-left-face.true in
    t ∙ sym (ap (λ (b : Bool). b || same (edge_at c.args.edges.now c.args.i).right (nat_abs c.args.face))
    (sym (side_is (sfits_of c.left-1.given) c.ranges.face cells.left c.requires.1) ∙ t))

pub returns-else-left-face : goal.returns-else-left-face
unfolding same
returns-else-left-face c =
    let cells = edge_cells_lem c.args.edges.now c.args.i c.requires.0.ranges in
    rw (sym (side_is (sfits_of c.left-1.given) c.ranges.face cells.left c.requires.1)
    ∙ same_false _ _ c.if-left-face.false)
    (side_is (sfits_of c.right-1.given) c.ranges.face cells.right c.requires.1)
