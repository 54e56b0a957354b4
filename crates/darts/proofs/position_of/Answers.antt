-- `darts::position_of` meets its contract: the row of the edge, twice, and one more for the reverse. Assumes nothing.
use Rattle.std.specs.Prelude.{Some}
use mathlib.Core.Path.{◌≡◌, sym, ap, ◌∙◌, subst}
use mathlib.Core.Bool.{true, false}
use mathlib.Core.List.{List}
use Prim.Native.Nat.{ℕ, ◌+◌, ◌*◌, ◌<◌, ◌≤◌}
use native.Mathlib.Nat.{add-zero}
use native.Mathlib.Omega.{arith}
use lib.IntN.{ℤ, pos, ◌-ℤ◌}
use lib.Signed.{lt_z}
use mir.Syntax.{w64}
use mir.Val.{to_z, of_z, SFits}
use mir.Facts.{to_z-of_z}
use Rattle.lists.specs.Tables.{place}
use Rattle.planar_maps.specs.Rings.{same_dart}
use Rattle.map.specs.Rows.{dart_of}
use Rattle.map.specs.Darts.{directed}
use Rattle.map_rows.specs.Rows.{edge_map}
use Rattle.map_rows.proofs.Rows.{edge_rows_rising}
use Rattle.darts.proofs.Positions.{far, far_none, negative_found, negative_missing, positive_found}
use Rattle.darts.proofs.Positions.{positive_missing, near_fits}
use Rattle.darts.proofs.position_of.Goals as goal
use Rattle.darts.proofs.position_of.Goals.{then-d-lt0, else-d-lt0}

-- d is found in row i, at position p
abbrev Sought : List ℤ → ℕ → ℤ → ℕ → ℕ → Type 0
Sought l n d i p = (i < n) × (place (λ c. same_dart c (dart_of d)) 0 (directed (edge_map l n)) ≡ Some p)

pub returns-then-d : goal.returns-then-d
returns-then-d c =
    let s = c in
    sym (far_none s.requires s.args.d
    (subst (λ (z : ℤ). far z ≡ true) (to_z-of_z {w = w64} s.ranges.d) c.if-d.true))

-- a number handed on twice
twice : {z : ℤ} → SFits w64 z → to_z w64 (of_z w64 (to_z w64 (of_z w64 z))) ≡ z
twice f = let e = to_z-of_z {w = w64} f in ap (λ (z : ℤ). to_z w64 (of_z w64 z)) e ∙ e

pub find_row-requires : goal.find_row-requires
find_row-requires c = edge_rows_rising c.requires

pub returns-in_err-i : goal.returns-in_err-i
returns-in_err-i c =
    let a = c.args in
    let e = to_z-of_z {w = w64} c.ranges.d in
    let none = sym c.find_row.ensures ∙ c.in_err-i.was in
    c.from_residual.ensures ∙ sym (elim c.if-d-lt0.branch [
      | then-d-lt0 w ↦ negative_missing c.requires a.d _ (subst (λ (z : ℤ). lt_z z (pos 0) ≡ true) e w.if-d-lt0.true)
          (twice (near_fits (to_z w64 (of_z w64 a.d)) c.if-d.false w.if-d-lt0.true) ∙ ap (λ z. pos 0 -ℤ z) e) (rw w.number-is at none)
      | else-d-lt0 w ↦ positive_missing c.requires a.d _ (subst (λ (z : ℤ). lt_z z (pos 0) ≡ false) e w.if-d-lt0.false)
          (twice c.ranges.d)
          (rw w.number-is at none)
    ])

-- the row of the edge that is looked for, and its position
found : (c : goal.In_ok-i)
    → Sought c.args.edges.now c.args.count c.args.d c.in_ok-i.i (c.in_ok-i.i * 2 + c.if-d-lt0.number.1)
    × (c.if-d-lt0.number.1 ≤ 1)
found c =
    let a = c.args in
    let e = to_z-of_z {w = w64} c.ranges.d in
    let at = sym c.find_row.ensures ∙ c.in_ok-i.was in
    elim c.if-d-lt0.branch [
      | then-d-lt0 w ↦ rw w.number-is (
        negative_found c.requires a.d _ c.in_ok-i.i (subst (λ (z : ℤ). lt_z z (pos 0) ≡ true) e w.if-d-lt0.true)
            (twice (near_fits (to_z w64 (of_z w64 a.d)) c.if-d.false w.if-d-lt0.true) ∙ ap (λ z. pos 0 -ℤ z) e) (rw w.number-is at at),
        omega arith,
      )
      | else-d-lt0 w ↦ rw (w.number-is, add-zero (c.in_ok-i.i * 2)) (
        positive_found c.requires a.d _ c.in_ok-i.i (subst (λ (z : ℤ). lt_z z (pos 0) ≡ false) e w.if-d-lt0.false)
            (twice c.ranges.d)
            (rw w.number-is at at),
        omega arith,
      )
    ]

pub overflow_mul-result : goal.overflow_mul-result
overflow_mul-result c = omega (arith, (found c).0.0, c.requires.fits)

pub overflow_add-result : goal.overflow_add-result
overflow_add-result c = omega (arith, (found c).0.0, (found c).1, c.requires.fits)

pub returns : goal.returns
returns c = sym (found c).0.1
