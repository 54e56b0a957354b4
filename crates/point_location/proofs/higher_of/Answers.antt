-- `point_location::higher_of` meets its contract. Assumes nothing.
use mathlib.Core.Path.{sym, ◌∙◌}
use Rattle.point_location.proofs.higher_of.Goals as goal

pub is_higher-requires : goal.is_higher-requires
is_higher-requires c = let p = c.requires in
    let f = rw c.in-Some.is at p.1 in
    (p.0, p.2.from, p.2.to, f.from, f.to)

pub returns-then-is_higher : goal.returns-then-is_higher
returns-then-is_higher c = (rw (c.in-Some.is, sym c.is_higher.ensures ∙ c.if-is_higher.true), c.requires.2)

pub returns-else-is_higher : goal.returns-else-is_higher
returns-else-is_higher c =
    (rw (c.in-Some.is, sym c.is_higher.ensures ∙ c.if-is_higher.false), rw c.in-Some.is at c.requires.1)
