-- `rectangles::with_edge` meets its contract: all points of the edge widen the box, or none. Assumes nothing.
use mathlib.Core.Path.{◌≡◌, sym, ap, ◌∙◌}
use lib.IntN.{ℤ, nat_abs}
use mir.Facts.{to_z-of_z}
use Rattle.lists.specs.Scans.{fold}
use Rattle.bounding_boxes.specs.Extents.{widen, extent_of, union}
use Rattle.bounding_boxes.proofs.Unions.{fold-union}
use Rattle.map.specs.Rows.{borders}
use Rattle.map_rows.specs.Rows.{edge_at}
use Rattle.rectangles.proofs.Boundaries.{boundary_hit, boundary_miss}
use Rattle.rectangles.proofs.with_edge.Lts as lts
use Rattle.rectangles.proofs.with_edge.Tie as tie
use Rattle.rectangles.proofs.with_edge.Reads as reads
use Rattle.rectangles.proofs.with_edge.Goals as goal

-- places in the code, by their names in what is generated
abbrev After-borders : Type 0
After-borders = lts.After-borders tie.the-claims reads.Pre reads.Post

-- the test of the edge
test-is : (c : After-borders) → let a = c.args in
    borders (nat_abs a.face) (edge_at a.edges.now a.i) ≡ c.borders.result
test-is c =
    let a = c.args in
    ap (λ (z : ℤ). borders (nat_abs z) (edge_at a.edges.now a.i)) (sym (to_z-of_z c.ranges.face))
    ∙ sym c.borders.ensures

pub returns-then-borders : goal.returns-then-borders
returns-then-borders c =
    let b = c.before.before.before.before in
    let a = b.args in
    let e = edge_at a.edges.now a.i in
    c.united.ensures
    ∙ ap (union a.e) (c.extent_of.ensures ∙ ap extent_of c.curve_of.ensures.1)
    ∙ sym (fold-union a.e e.curve)
    ∙ ap (fold widen a.e)
    (sym (boundary_hit e (nat_abs a.face) (test-is b ∙ c.if-borders.true)))

pub returns-else-borders : goal.returns-else-borders
returns-else-borders c =
    let a = c.args in
    let e = edge_at a.edges.now a.i in
    ap (fold widen a.e) (sym (boundary_miss e (nat_abs a.face) (test-is c.before ∙ c.if-borders.false)))
