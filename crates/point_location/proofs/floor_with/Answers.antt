-- `point_location::floor_with` meets its contract. Assumes nothing.
use mathlib.Core.Path.{sym, ap, ◌∙◌}
use Rattle.point_location.specs.Highest.{highest_floor, over}
use Rattle.point_location.proofs.floor_with.Goals as goal

pub returns-then-not-passes_below : goal.returns-then-not-passes_below
returns-then-not-passes_below c = (rw (sym c.passes_below.ensures ∙ c.if-not-passes_below.true), c.requires.0)

pub returns : goal.returns
returns c =
    let s = c in
    let e = sym c.passes_below.ensures ∙ c.if-not-passes_below.false in (
      rw e (c.higher_of.ensures.0 ∙ ap (over s.args.p.x (highest_floor s.args.h))
          c.floor_of.ensures.0),
      c.higher_of.ensures.1,
    )
