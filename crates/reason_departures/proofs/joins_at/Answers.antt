-- `reason_departures::joins_at` meets its contract. Assumes nothing.
use mathlib.Core.Path.{◌≡◌, refl, sym, ap, ◌∙◌}
use mathlib.Core.Bool.{Bool, ◌&&◌}
use lib.IntN.{ℤ, pos, nat_abs}
use mir.Syntax.{w64}
use mir.Val.{to_z, of_z}
use mir.Facts.{to_z-of_z}
use Rattle.lists.specs.Tests.{same}
use Rattle.lists.specs.Scans.{count_of}
use Rattle.tables.proofs.Tests.{pos_abs}
use Rattle.links.specs.Linking.{positions, leaves_node}
use Rattle.reason_departures.specs.Turning.{ends_at}
use Rattle.reason_departures.proofs.Ends.{joins_is}
use Rattle.reason_departures.proofs.joins_at.Goals as goal

-- the edge does not end there
pub returns-else-ends_at : goal.returns-else-ends_at
returns-else-ends_at c =
    let s = c in
    let a = s.args in
    let l = a.edges.rows.now in
    let k = nat_abs a.node in
    let z : to_z w64 (of_z w64 a.node) ≡ pos k = to_z-of_z {w = w64} s.ranges.node ∙ pos_abs a.node s.requires.1 in
    let n = count_of (leaves_node l (pos k)) (positions a.edges.count) in
    let f = sym (ap (ends_at l a.j) z) ∙ sym c.ends_at.ensures
    ∙ c.if-ends_at.false in
    c.if-ends_at.false ∙ sym (ap (λ (b : Bool). b && same n 2) f) ∙ joins_is a.edges.ranged a.j s.requires.0 k n refl

pub returns-then-ends_at : goal.returns-then-ends_at
unfolding same
returns-then-ends_at c =
    let d = c in
    let s = d in
    let a = s.args in
    let l = a.edges.rows.now in
    let k = nat_abs a.node in
    let z : to_z w64 (of_z w64 a.node) ≡ pos k = to_z-of_z {w = w64} s.ranges.node ∙ pos_abs a.node s.requires.1 in
    let f = sym (ap (ends_at l a.j) z) ∙ sym d.ends_at.ensures
    ∙ c.if-ends_at.true in
    sym (ap (λ (b : Bool). b && same c.edge_ends.result 2) f)
    ∙ joins_is a.edges.ranged a.j s.requires.0 k c.edge_ends.result
    (c.edge_ends.ensures.0 ∙ ap (λ (z : ℤ). count_of (leaves_node l z) (positions a.edges.count)) z)
