-- `rings::is_lowest` meets its contract: what was passed is not lower, and what is left of the ring has a lower one
-- where the ring has. Assumes nothing.
use mathlib.Core.Path.{sym, ap, ◌∙◌}
use mathlib.Core.Bool.{not}
use native.Mathlib.Omega.{arith}
use Rattle.lists.specs.Tests.{same}
use Rattle.rings.proofs.Walks.{ring-steps, Follows}
use Rattle.rings.proofs.Lowest.{any_lower, lower-end, lower_on, lower-back}
use Rattle.rings.proofs.is_lowest.Lts as lts
use Rattle.rings.proofs.is_lowest.Tie as tie
use Rattle.rings.proofs.is_lowest.Reads as reads
use Rattle.rings.proofs.is_lowest.Goals as goal

-- places in the code, by their names in what is generated
abbrev After-next_position-c : Type 0
After-next_position-c = lts.After-next_position tie.the-claims reads.Pre reads.Post goal.the-invariant-loop-k goal.the-decreases-loop-k

pub overflow_mul-k-end : goal.overflow_mul-k-end
overflow_mul-k-end c = omega (arith, c.requires.0)

pub loop-k-init : goal.loop-k-init
loop-k-init c = let a = c.args in (
  c.requires.1,
  omega arith,
  omega (arith, c.requires.1),
  ap (any_lower a.edges.rows.now a.p)
      (sym (ring-steps a.edges.rows.now a.edges.count a.p)),
)

follows : (c : After-next_position-c)
    → Follows c.args.edges.rows.now c.args.edges.count
    c.loop-k.c c.next_position-c.result
follows c = record { below = c.next_position-c.ensures.0; is = c.next_position-c.ensures.1 }

pub returns-then-c-first : goal.returns-then-c-first
unfolding same
returns-then-c-first c =
    let b = c in
    let s = b in
    let w = b.loop-k in
    lower-back s.args.edges.ranged s.args.p s.requires.1 w.k w.c w.invariant.0 w.invariant.1 w.invariant.2
    c.next_position-c.result (follows c.before) (omega arith) (omega arith) ∙ ap not w.invariant.3

pub loop-k-preserved : goal.loop-k-preserved
loop-k-preserved c =
    let b = c in
    let s = b in
    let w = b.loop-k in
    let f = follows c.before in (
      f.below,
      omega arith,
      omega arith,
      sym (lower_on s.args.edges.ranged s.args.p s.requires.1 w.k w.c w.invariant.0 w.invariant.1 w.invariant.2
          c.next_position-c.result f (λ e. omega (arith, c.if-c-first.false))) ∙ w.invariant.3,
    )

pub returns : goal.returns
returns c =
    let s = c in
    let w = c.loop-k in
    ap not (sym (lower-end s.args.edges.ranged s.args.p s.requires.1 w.k w.c w.invariant.0 w.invariant.1 w.invariant.2
    (omega arith)) ∙ w.invariant.3)

pub overflow_cast-first : goal.overflow_cast-first
overflow_cast-first c = omega (arith, c.requires.0, c.requires.1)

pub overflow_sub-k-end : goal.overflow_sub-k-end
overflow_sub-k-end c = omega (arith, c.requires.1)

pub next_position-c-requires : goal.next_position-c-requires
next_position-c-requires c = (c.args.edges.ranged, c.requires.0, c.loop-k.invariant.0)
