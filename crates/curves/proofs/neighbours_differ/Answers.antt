-- `curves::neighbours_differ` meets its contract: neighbours differ from point i on if and only if they differ. Assumes
-- nothing.
use mathlib.Core.Path.{sym, ◌∙◌}
use native.Mathlib.Omega.{arith}
use Rattle.plane.specs.Points.{same_point}
use Rattle.curves.proofs.Runs.{curve_is}
use Rattle.curves.proofs.Turns.{asked, differs_hit, differs_miss}
use Rattle.plane.proofs.Laws.{point_eq}
use Rattle.curves.proofs.neighbours_differ.Goals as goal

pub loop-i-init : goal.loop-i-init
loop-i-init c = (omega arith, rw (curve_is c.requires))

pub returns-then-eq : goal.returns-then-eq
returns-then-eq c =
    let s = c in
    let e = asked same_point c.point_at.ensures.0
    c.point_at-in-loop-i.ensures.0 (c.eq.ensures ∙ point_eq _ _) c.if-eq.true in
    sym (differs_hit s.args.c.now _ s.segment_count-n.ensures.0
    c.loop-i-test.true e) ∙ c.loop-i.invariant.1

pub loop-i-preserved : goal.loop-i-preserved
loop-i-preserved c =
    let s = c in
    let e = asked same_point c.point_at.ensures.0
    c.point_at-in-loop-i.ensures.0 (c.eq.ensures ∙ point_eq _ _) c.if-eq.false in (
      omega arith,
      sym (differs_miss s.args.c.now _ s.segment_count-n.ensures.0
          c.loop-i-test.true e)
          ∙ c.loop-i.invariant.1,
    )
