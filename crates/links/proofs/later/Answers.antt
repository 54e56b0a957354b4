-- `links::later` meets its contract. Assumes nothing.
use mathlib.Core.Path.{◌≡◌, sym, ap, ◌∙◌}
use Rattle.plane.specs.Directions.{Way, way_to, before}
use Rattle.darts.specs.Positions.{way_with}
use Rattle.links.proofs.later.Lts as lts
use Rattle.links.proofs.later.Tie as tie
use Rattle.links.proofs.later.Reads as reads
use Rattle.links.proofs.later.Goals as goal

-- places in the code, by their names in what is generated
abbrev After-before-2 : Type 0
After-before-2 = lts.After-before2 tie.the-claims reads.Pre reads.Post

pub returns-in_default : goal.returns-in_default
returns-in_default c = rw c.in_default.is

pub step_with-requires : goal.step_with-requires
step_with-requires c = rw c.in-Some.is at c.requires.0

-- the test, in the direction of k
test : (c : After-before-2)
    → before (way_with c.args.edges.now c.args.own
    c.args.c.now c.in-Some.k)
    (way_to c.args.w.from c.args.w.to) ≡ c.before-2.result
test c = ap (λ (v : Way). before v (way_to c.args.w.from
    c.args.w.to)) (sym c.step_with.ensures.way) ∙ sym c.before-2.ensures

pub returns-then-before : goal.returns-then-before
returns-then-before c = rw (
  c.in-Some.is,
  test c.before,
  c.if-before.true,
)

pub returns-else-before : goal.returns-else-before
returns-else-before c = rw (
  c.in-Some.is,
  test c.before,
  c.if-before.false,
)
