-- `form_rectangles::take_edges` meets its contract: what is left of the edges widens the boxes to those of the
-- boundaries. Assumes nothing.
use mathlib.Core.Path.{sym, ap, ◌∙◌, subst}
use mathlib.Core.Bool.{Bool, cond, ◌||◌}
use Prim.Native.Nat.{◌+◌, ◌*◌}
use native.Mathlib.Omega.{arith}
use Rattle.lists.specs.Tests.{same}
use Rattle.bounding_boxes.specs.Extents.{extent_of, union}
use Rattle.map_rows.specs.Rows.{edge_at, face_at}
use Rattle.map_rows.proofs.Rows.{edge-row_of}
use Rattle.rectangles.proofs.Boundaries.{Rest, rest_start, rest_turn, rest_end}
use Rattle.form_rectangles.specs.Merged.{box_in}
use Rattle.form_rectangles.proofs.Sides.{sides_are, edge_widens}
use Rattle.form_rectangles.proofs.take_edges.Goals as goal

pub loop-i-init : goal.loop-i-init
loop-i-init c =
    let l = c.args.edges.now in (
      omega arith,
      (λ faces n u few none named k h. subst (Rest l c.args.count (face_at faces k) 0) (sym (none k h))
          (rest_start l c.args.count (face_at faces k))),
    )

pub take_curve-requires : goal.take_curve-requires
take_curve-requires c =
    let i = c.loop-i.i in (
      edge-row_of c.requires.0 i c.loop-i-test.true,
      rw c.from-left.ensures (c.requires.3 (i * 2) (omega (arith, c.loop-i-test.true))),
      rw c.from-right.ensures (c.requires.3 (i * 2 + 1) (omega (arith, c.loop-i-test.true))),
    )

pub loop-i-preserved : goal.loop-i-preserved
loop-i-preserved c =
    let w = c.loop-i in
    let l = c.args.edges.now in (
      omega (arith, c.loop-i-test.true),
      (λ faces n u few none named k h.
          let box = box_in w.boxes k in
          let e = edge_at l w.i in
          rest_turn l c.args.count (face_at faces k) w.i box (w.invariant.1 faces n u few none named k h)
          c.loop-i-test.true (c.take_curve.ensures k
          ∙ (λ i. cond (same k (c.from-left.ensures i) || same k (c.from-right.ensures i)) (union box (extent_of e.curve)) box)
          ∙ ap (λ (b : Bool). cond b (union box (extent_of e.curve)) box)
          (sides_are c.args.bears.now c.requires.0 u named w.i k c.loop-i-test.true h)
          ∙ edge_widens box e (face_at faces k))),
    )

pub returns : goal.returns
returns c =
    let w = c.loop-i in
    λ faces n u few none named k h. rest_end c.args.edges.now c.args.count (face_at faces k) w.i (box_in w.boxes k)
    (w.invariant.1 faces n u few none named k h) c.loop-i-test.false
