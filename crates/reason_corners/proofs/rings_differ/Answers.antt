-- `reason_corners::rings_differ` meets its contract: the reverse lies on what is left of the ring exactly where it lies
-- on the ring. Assumes nothing.
use mathlib.Core.Path.{sym, ap, ◌∙◌}
use mathlib.Core.Bool.{not}
use native.Mathlib.Omega.{arith}
use Rattle.reason_corners.proofs.Walked.{ring-meets, meets-end, meets_here, meets_on, meets_last}
use Rattle.reason_corners.proofs.rings_differ.Goals as goal

pub loop-n-init : goal.loop-n-init
loop-n-init c = (omega arith, λ new m j. ring-meets c.requires.rows j)

pub returns-then-p-own : goal.returns-then-p-own
returns-then-p-own c =
    let s = c in
    let w = c.loop-n in
    λ new m j. sym (ap not (w.invariant.1 new m j
    ∙ meets_here s.requires.rows j w.n w.p c.loop-n-test.true c.if-p-own.true))

pub returns-then-p-own-2 : goal.returns-then-p-own-2
returns-then-p-own-2 c =
    let b = c in
    let s = b in
    let w = b.loop-n in
    let d = c.drawn_next-p in
    λ new m j. sym (ap not (w.invariant.1 new m j
    ∙ meets_last s.requires.rows j w.n w.p b.loop-n-test.true w.invariant.0 c.if-p-own.false
    d.result d.ensures.0 (d.ensures.1 new m j) c.if-p-own-2.true))

pub loop-n-preserved : goal.loop-n-preserved
loop-n-preserved c =
    let b = c in
    let s = b in
    let w = b.loop-n in
    let d = c.drawn_next-p in (
      d.ensures.0,
      λ new m j. w.invariant.1 new m j
          ∙ meets_on s.requires.rows j w.n w.p b.loop-n-test.true w.invariant.0 c.if-p-own.false
          d.result d.ensures.0 (d.ensures.1 new m j) c.if-p-own-2.false,
    )

pub returns : goal.returns
returns c =
    let s = c in
    let w = c.loop-n in
    λ new m j. sym (ap not (w.invariant.1 new m j ∙ meets-end s.requires.rows j w.n w.p c.loop-n-test.false))
