-- `edit_heal::healed_incidence` meets its contract. Assumes nothing.
use mathlib.Core.Path.{◌≡◌, ap, ◌∙◌}
use Prim.Native.Nat.{ℕ, ◌/◌}
use native.Mathlib.Omega.{arith}
use mir.Syntax.{w64}
use mir.Facts.{to_z-of_z}
use Rattle.integers.specs.Signs.{sent}
use Rattle.darts.specs.Positions.{side_cell}
use Rattle.edit_heal.proofs.Reverses.{reverse_half}
use Rattle.edit_heal.proofs.healed_incidence.Goals as goal

pub dart_cell-end-requires : goal.dart_cell-end-requires
dart_cell-end-requires c =
    let s = c in
    let e : c.reverse.result / 2 ≡ s.args.q / 2 = ap (λ (k : ℕ). k / 2) c.reverse.ensures
    ∙ reverse_half s.args.q in
    (omega (arith, s.requires.second_row), omega arith)

pub dart_cell-next_right-requires : goal.dart_cell-next_right-requires
dart_cell-next_right-requires c =
    let s = c in
    let e : c.reverse-2.result / 2 ≡ s.args.p / 2 = ap (λ (k : ℕ). k / 2) c.reverse-2.ensures
    ∙ reverse_half s.args.p in
    (omega (arith, s.requires.first_row), omega arith)

pub returns : goal.returns
returns c =
    let s = c in
    let l = s.args.edges.now in
    let start = c.dart_cell-start in
    let end = c.dart_cell-end in
    let left = c.dart_cell-next_left in
    let right = c.dart_cell-next_right in
    let n = to_z-of_z {w = w64} s.ranges.number in
    let e₁ = sent start.type_inv ∙ start.ensures in
    let e₂ = sent end.type_inv ∙ end.ensures
    ∙ ap (λ (k : ℕ). side_cell l k 1) c.reverse.ensures in
    let e₃ = sent left.type_inv ∙ left.ensures in
    let e₄ = sent right.type_inv ∙ right.ensures
    ∙ ap (λ (k : ℕ). side_cell l k 3) c.reverse-2.ensures in
    let e₅ = sent c.left-1.given in
    let e₆ = sent c.right-1.given in
    λ t. record {
      number = n t;
      start = e₁ t;
      end = e₂ t;
      next_left = e₃ t;
      next_right = e₄ t;
      left = e₅ t;
      right = e₆ t;
    }
