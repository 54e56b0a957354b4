-- `point_location::floor_over` meets its contract: curve and faces are those of the edge row. Assumes nothing.
use mathlib.Core.Path.{ap, ◌∙◌}
use native.Mathlib.Omega.{arith}
use lib.IntN.{nat_abs}
use lib.Signed.{non_neg}
use Rattle.map_rows.proofs.Rows.{edge_cells_lem}
use Rattle.point_location.proofs.floor_over.Goals as goal

pub face_at-left-requires : goal.face_at-left-requires
face_at-left-requires c =
    let row = c.requires.2 in
    (omega (arith, row.fits), ap non_neg (edge_cells_lem c.args.edges.now c.args.i row.ranges).left)

pub face_at-right-requires : goal.face_at-right-requires
face_at-right-requires c =
    let row = c.requires.2 in (
      omega (arith, row.fits),
      ap non_neg
          (edge_cells_lem c.args.edges.now c.args.i row.ranges).right,
    )

pub returns : goal.returns
returns c =
    let s = c in
    let cells = edge_cells_lem s.args.edges.now s.args.i s.requires.2.ranges in
    let l = c.face_at-left.ensures.0 ∙ ap nat_abs cells.left in
    let r = c.face_at-right.ensures.0 ∙ ap nat_abs cells.right in
    (rw (← c.curve_of.ensures.1, ← l, ← r) c.floor_along.ensures.0, c.floor_along.ensures.1)
