-- `reason_departures::direction_taken` meets its contract. Assumes nothing.
use mathlib.Core.Path.{◌≡◌, sym, ap₂, ◌∙◌}
use lib.IntN.{ℤ}
use mir.Syntax.{w64}
use mir.Facts.{to_z-of_z}
use Rattle.plane.specs.Directions.{Way}
use Rattle.curves.specs.Curves.{curve_of, start_way}
use Rattle.curves.proofs.Reverses.{end_way_lem}
use Rattle.reason_departures.specs.Turning.{way_taken_at}
use Rattle.reason_departures.proofs.direction_taken.Lts as lts
use Rattle.reason_departures.proofs.direction_taken.Tie as tie
use Rattle.reason_departures.proofs.direction_taken.Reads as reads
use Rattle.reason_departures.proofs.direction_taken.Goals as goal

-- places in the code, by their names in what is generated
abbrev After-way_taken : Type 0
After-way_taken = lts.After-way_taken tie.the-claims reads.Pre reads.Post

-- the first test
start : (c : After-way_taken)
    → let a = c.args in
    c.way_taken.result ≡ way_taken_at a.edges.rows.now a.edges.count a.own a.u (start_way (curve_of a.c.now))
start c =
    let s = c in
    let a = s.args in
    c.way_taken.ensures
    ∙ ap₂ (λ (z : ℤ) (w : Way). way_taken_at a.edges.rows.now a.edges.count a.own z w) (to_z-of_z {w = w64} s.ranges.u)
    c.first_step.ensures.way

pub returns-then-way_taken : goal.returns-then-way_taken
returns-then-way_taken c = rw (sym (start c.before), c.if-way_taken.true)

pub returns-else-way_taken : goal.returns-else-way_taken
returns-else-way_taken c =
    let s = c in
    let a = s.args in
    rw (sym (start c.before.before.before), c.if-way_taken.false)
    (c.way_taken-else-way_taken.ensures
    ∙ ap₂ (λ (z : ℤ) (w : Way). way_taken_at a.edges.rows.now a.edges.count a.own z w) (to_z-of_z {w = w64} s.ranges.v)
    (c.first_step-else-way_taken.ensures.way ∙ end_way_lem s.requires))
