-- `curves::segment_free` meets its contract: the segments from point j on are free of segment i if and only if those
-- from point i + 2 on are. Assumes nothing.
use mathlib.Core.Path.{◌≡◌, sym, ◌∙◌}
use Prim.Native.Nat.{◌+◌}
use native.Mathlib.Omega.{arith}
use Rattle.curves.proofs.Turns.{free_told, free_hit, free_miss}
use Rattle.std.proofs.lemmas.Grind.{common_steps}
use mathlib.Core.Bool.{◌&&◌}
use lib.Dec.{eqb}
use Rattle.curves.proofs.segment_free.Goals as goal
use Rattle.curves.proofs.segment_free.Goals.{then-closed, else-closed}

pub returns-then-segments_wrong : goal.returns-then-segments_wrong
returns-then-segments_wrong c =
    let l = c.args.c.now in
    let all = c.segment_count-n.ensures.0 in
    let taken = c.loop-j-test.true in
    let m : c.if-closed.end_of ≡ c.args.closed && eqb (c.loop-j.j + 1) c.segment_count-n.result =
    elim c.if-closed.branch [
      | then-closed w ↦ grind (arith, common_steps)
      | else-closed w ↦ grind (arith, common_steps)
    ] in
    let e =
    free_told l c.loop-j.j c.segment_count-n.result c.args.closed c.point_at-end.result c.point_at-a.result
    c.point_at-b.result all taken c.point_at.ensures.0 c.point_at-in-loop-j.ensures.0 m c.end_of.ensures
    c.segments_wrong.ensures c.if-segments_wrong.true in
    sym (free_hit l _ all taken _ _ _ e) ∙ c.loop-j.invariant.1

pub loop-j-preserved : goal.loop-j-preserved
loop-j-preserved c =
    let l = c.args.c.now in
    let all = c.segment_count-n.ensures.0 in
    let taken = c.loop-j-test.true in
    let m : c.if-closed.end_of ≡ c.args.closed && eqb (c.loop-j.j + 1) c.segment_count-n.result =
    elim c.if-closed.branch [
      | then-closed w ↦ grind (arith, common_steps)
      | else-closed w ↦ grind (arith, common_steps)
    ] in
    let e =
    free_told l c.loop-j.j c.segment_count-n.result c.args.closed c.point_at-end.result c.point_at-a.result
    c.point_at-b.result all taken c.point_at.ensures.0 c.point_at-in-loop-j.ensures.0 m c.end_of.ensures
    c.segments_wrong.ensures c.if-segments_wrong.false in
    (omega arith, sym (free_miss l _ all taken _ _ _ e) ∙ c.loop-j.invariant.1)
