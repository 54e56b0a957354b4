-- `curve_edits::reversed_of` meets its contract: the last i points are in the line, the last first. Assumes nothing.
use mathlib.Core.Path.{◌≡◌, sym, ap, ◌∙◌}
use mathlib.Core.List.{[]}
use Prim.Native.Nat.{◌-◌}
use native.Mathlib.Omega.{arith}
use Rattle.curves.specs.Curves.{point_at}
use Rattle.curves.proofs.Runs.{few_points}
use Rattle.curve_edits.specs.Lines.{line_of}
use Rattle.curve_edits.proofs.Lines.{empty_count}
use Rattle.curve_edits.proofs.Places.{points_more}
use Rattle.curve_edits.proofs.Curves.{reversed-points}
use Rattle.curve_edits.proofs.reversed_of.Goals as goal

pub loop-i-init : goal.loop-i-init
loop-i-init c = (omega arith, c.empty-out.ensures, empty_count c.empty-out.result c.empty-out.ensures)

pub loop-i-preserved : goal.loop-i-preserved
loop-i-preserved c =
    let inv = c.loop-i.invariant in
    let n = c.point_count-n.result in
    let l = c.args.c.now in (
      omega arith,
      c.with_point-out.ensures.0 _ inv.1
          ∙ ap line_of (points_more (λ j. point_at l (n - 1 - j)) 0 c.loop-i.i [] (omega arith)
          c.point_at.ensures.0),
      omega arith,
    )

pub returns : goal.returns
returns c =
    let n = c.point_count-n.ensures in
    let e : c.loop-i.i - 0 ≡ c.point_count-n.result = omega arith in
    c.loop-i.invariant.1 ∙ ap line_of (rw (e, n) (sym (reversed-points c.requires)))

pub with_point-out-requires : goal.with_point-out-requires
with_point-out-requires c = (c.point_at.ensures.1, omega (arith, few_points c.requires))
