-- `links::chosen` meets its contract. Assumes nothing.
use mathlib.Core.Path.{sym, ◌∙◌}
use Rattle.plane.specs.Directions.{way_to}
use Rattle.darts.specs.Positions.{way_with}
use Rattle.links.proofs.Choices.{chosen_past, chosen_under}
use Rattle.links.proofs.chosen.Goals as goal

pub step_with-w-requires : goal.step_with-w-requires
step_with-w-requires c = c.requires.0

pub later-requires : goal.later-requires
later-requires c = (c.requires.1, (c.step_with-w.ensures.from, c.step_with-w.ensures.to))

pub returns-then-not-before : goal.returns-then-not-before
returns-then-not-before c =
    let b = c in
    let a = b.args in
    chosen_past (way_with a.edges.now a.own a.c.now) (way_to a.v.from a.v.to) a.h a.p
    (way_to b.step_with-w.result.from b.step_with-w.result.to) c.later.result
    b.step_with-w.ensures.way c.later.ensures
    (sym c.before-2.ensures ∙ c.if-not-before.true)

pub later-requires-2 : goal.later-requires-2
later-requires-2 c =
    let b = c in
    (b.requires.2, (b.step_with-w.ensures.from, b.step_with-w.ensures.to))

pub returns : goal.returns
returns c =
    let t = c in
    let b = t in
    let a = b.args in
    chosen_under (way_with a.edges.now a.own a.c.now) (way_to a.v.from a.v.to) a.h a.p
    (way_to b.step_with-w.result.from b.step_with-w.result.to) t.later.result
    b.step_with-w.ensures.way t.later.ensures
    c.later-2.result c.later-2.ensures (sym t.before-2.ensures ∙ c.if-not-before.false)
