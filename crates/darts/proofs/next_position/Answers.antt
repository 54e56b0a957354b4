-- `darts::next_position` meets its contract: the link names an edge of the table. Assumes nothing.
use Rattle.std.specs.Prelude.{Option, Some}
use Rattle.std.specs.Option.{unwrap_or}
use borrow.Author.Rules.{sfits_of}
use mathlib.Core.Path.{◌≡◌, sym, ap, ◌∙◌, subst}
use Prim.Native.Nat.{ℕ, ◌*◌, ◌<◌}
use native.Mathlib.Omega.{arith}
use lib.IntN.{ℤ}
use mir.Syntax.{w64}
use mir.Facts.{to_z-of_z}
use Rattle.lists.specs.Tables.{place}
use Rattle.planar_maps.specs.Rings.{same_dart}
use Rattle.map.specs.Rows.{dart_of}
use Rattle.map.specs.Darts.{directed, next}
use Rattle.map_rows.specs.Rows.{edge_map}
use Rattle.darts.specs.Positions.{dart_at}
use Rattle.darts.proofs.Positions.{next_there, next_place}
use Rattle.darts.proofs.next_position.Goals as goal

-- the position that is found is the one that follows
follows : (c : goal.After-unwrap_or)
    → let a = c.args in (c.unwrap_or.result < a.count * 2)
    × (dart_at a.edges.now c.unwrap_or.result ≡ next (edge_map a.edges.now a.count) (dart_at a.edges.now a.p))
follows c =
    let a = c.args in
    let q = next_there c.requires.0 a.p c.requires.2 in
    let d = c.dart_cell-next in
    let there : c.position_of.result ≡ Some q.0 = next_place c.requires.0 a.p c.requires.2 c.position_of.result
    (c.position_of.ensures ∙ ap (λ (z : ℤ). place (λ d. same_dart d (dart_of z)) 0 (directed (edge_map a.edges.now a.count)))
    (to_z-of_z {w = w64} {z = d.result} (sfits_of d.type_inv) ∙ d.ensures)) in
    let e : q.0 ≡ c.unwrap_or.result = sym (c.unwrap_or.ensures ∙ ap (λ (r : Option ℕ). unwrap_or r a.p) there) in
    subst (λ (k : ℕ). (k < a.count * 2)
    × (dart_at a.edges.now k ≡ next (edge_map a.edges.now a.count) (dart_at a.edges.now a.p))) e (q.1, q.2)

pub overflow_cast-result : goal.overflow_cast-result
overflow_cast-result c = omega (arith, (follows c).0, c.requires.1)

pub returns : goal.returns
returns c = follows c
