-- `curves::is_simple` meets its contract: once the first segment is clear of the others, the rest from point i on is an
-- arc if and only if the curve is simple. Assumes nothing.
use mathlib.Core.Path.{sym, ◌∙◌}
use native.Mathlib.Omega.{arith}
use Rattle.curves.proofs.Turns.{first_told, arc_hit, arc_miss}
use Rattle.plane.proofs.Laws.{point_eq}
use Rattle.curves.proofs.is_simple.Goals as goal

pub returns-then-not-segment_clear : goal.returns-then-not-segment_clear
returns-then-not-segment_clear c =
    sym (first_told c.segment_count-n.result
    c.requires
    c.segment_count-n.ensures.0
    c.point_at.ensures.0 c.point_at-2.ensures.0
    (c.eq-closed.ensures ∙ point_eq _ _) c.segment_clear.ensures (c.if-not-segment_clear.true))

pub loop-i-init : goal.loop-i-init
loop-i-init c = (
  omega arith,
  sym (first_told c.segment_count-n.result
      c.requires
      c.segment_count-n.ensures.0
      c.point_at.ensures.0 c.point_at-2.ensures.0
      (c.eq-closed.ensures ∙ point_eq _ _) c.segment_clear.ensures (c.if-not-segment_clear.false)),
)

pub returns-then-not-segment_clear-2 : goal.returns-then-not-segment_clear-2
returns-then-not-segment_clear-2 c =
    let s = c in
    sym (arc_hit s.args.c.now _ s.segment_count-n.ensures.0 c.loop-i-test.true
    (sym c.segment_clear-in-loop-i.ensures ∙ c.if-not-segment_clear-2.true)) ∙ c.loop-i.invariant.1

pub loop-i-preserved : goal.loop-i-preserved
loop-i-preserved c =
    let s = c in (
      omega arith,
      sym (arc_miss s.args.c.now _ s.segment_count-n.ensures.0
          c.loop-i-test.true
          (sym c.segment_clear-in-loop-i.ensures ∙ c.if-not-segment_clear-2.false))
          ∙ c.loop-i.invariant.1,
    )
