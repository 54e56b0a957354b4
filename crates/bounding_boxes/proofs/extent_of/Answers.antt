-- `bounding_boxes::extent_of` meets its contract: the extent, widened by the points from i on, is that of the curve.
-- Assumes nothing.
use mathlib.Core.Path.{sym, ap, ◌∙◌}
use Prim.Native.Nat.{◌+◌, ◌<◌, ◌/◌}
use native.Mathlib.Omega.{arith}
use lib.ListN.{length}
use Rattle.lists.specs.Scans.{fold}
use Rattle.lists.proofs.Scans.{fold_step}
use Rattle.plane.specs.declared.Point.{Point}
use Rattle.curves.specs.Curves.{point_at, points_from}
use Rattle.curves.proofs.Runs.{curve_is, two-points}
use Rattle.bounding_boxes.specs.declared.Extent.{Extent}
use Rattle.bounding_boxes.specs.Extents.{extent_at, widen}
use Rattle.bounding_boxes.proofs.extent_of.Goals as goal

pub loop-i-init : goal.loop-i-init
loop-i-init c =
    let s = c in (
      omega (arith, two-points s.requires),
      rw (curve_is s.requires) (ap (λ (p : Point). fold widen (extent_at p) (points_from s.args.c.now 1))
          c.point_at-p.ensures.0),
    )

pub loop-i-preserved : goal.loop-i-preserved
loop-i-preserved c =
    let b = c in
    let l = b.args.c.now in
    let h : b.loop-i.i < length l / 2 = omega arith in
    let w = c.widened-e.ensures ∙ ap (widen b.loop-i.e) c.point_at.ensures.0 in (
      omega arith,
      ap (λ (e : Extent). fold widen e (points_from l (b.loop-i.i + 1))) w
          ∙ sym (fold_step (point_at l) b.loop-i.i (length l / 2) widen b.loop-i.e h) ∙ b.loop-i.invariant.1,
    )

pub point_at-p-requires : goal.point_at-p-requires
point_at-p-requires c = (c.requires, omega (arith, two-points c.requires))
