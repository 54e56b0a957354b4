-- `edit_heal::lead_to_healed` meets its contract. Assumes nothing.
use mathlib.Core.Path.{sym, ap, ◌∙◌, subst}
use Prim.Native.Nat.{ℕ, ◌/◌}
use native.Mathlib.Omega.{arith}
use lib.IntN.{neg_ℤ}
use mir.Syntax.{w64}
use mir.Facts.{to_z-of_z}
use Rattle.integers.specs.Signs.{sent}
use Rattle.map.specs.Rows.{dart_cell}
use Rattle.map_rows.specs.Rows.{EdgeRow}
use Rattle.map_rows.proofs.Rows.{edge-row_of}
use Rattle.darts.specs.Positions.{dart_at, reverse_of}
use Rattle.darts.proofs.Positions.{reverse_below}
use Rattle.links.specs.Linking.{redirected}
use Rattle.edit_heal.proofs.lead_to_healed.Goals as goal

pub dart_at-d-requires : goal.dart_at-d-requires
dart_at-d-requires c =
    let s = c in
    subst (λ (k : ℕ). EdgeRow s.args.edges.now (k / 2)) (sym c.reverse.ensures)
    (edge-row_of s.requires.rows (reverse_of s.args.q / 2)
    (omega (arith, reverse_below s.args.e s.args.q s.requires.second)))

pub returns : goal.returns
returns c =
    let n = c in
    let r = n in
    let d = r in
    let p = d in
    let s = p in
    let a = s.args in
    let first = sent p.dart_at-c.type_inv ∙ p.dart_at-c.ensures in
    let number = to_z-of_z {w = w64} s.ranges.number in
    let second = sent d.dart_at-d.type_inv ∙ d.dart_at-d.ensures
    ∙ ap (λ (k : ℕ). dart_cell (dart_at a.edges.now k)) d.reverse.ensures in
    let back = sent n.negated.type_inv ∙ n.negated.ensures ∙ ap neg_ℤ number in
    let t = r.redirect.ensures ∙ (λ j. redirected (first j) (number j) a.edges.now a.e) in
    c.redirect-2.ensures ∙ (λ j. redirected (second j) (back j) (t j) a.e)

pub dart_at-c-requires : goal.dart_at-c-requires
dart_at-c-requires c = let s = c in edge-row_of s.requires.rows (s.args.p / 2) (omega (arith, s.requires.first))
