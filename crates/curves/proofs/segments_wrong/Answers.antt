-- `curves::segments_wrong` meets its contract. Assumes nothing.
use native.Mathlib.Omega.{arith}
use Rattle.std.proofs.lemmas.Grind.{common_steps}
use Rattle.curves.specs.Tests.{seg_wrong}
use Rattle.curves.proofs.Turns.{shares_is}
use Rattle.curves.proofs.segments_wrong.Goals as goal

pub returns-then-segments_stretch : goal.returns-then-segments_stretch
unfolding seg_wrong
returns-then-segments_stretch c =
    let s = c.args in
    let e = shares_is s.l.first s.l.last s.a s.b s.c s.d in
    grind (arith, common_steps)

pub returns-then-not-shared_at : goal.returns-then-not-shared_at
unfolding seg_wrong
returns-then-not-shared_at c =
    let s = c.args in
    let e = shares_is s.l.first s.l.last s.a s.b s.c s.d in
    grind (arith, common_steps)

pub returns-else-not-shared_at : goal.returns-else-not-shared_at
unfolding seg_wrong
returns-else-not-shared_at c =
    let s = c.args in
    let e = shares_is s.l.first s.l.last s.a s.b s.c s.d in
    grind (arith, common_steps)

pub returns-else-segments_meet : goal.returns-else-segments_meet
unfolding seg_wrong
returns-else-segments_meet c =
    let s = c.args in
    let e = shares_is s.l.first s.l.last s.a s.b s.c s.d in
    grind (arith, common_steps)
