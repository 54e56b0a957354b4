-- `rings::ring_area` meets its contract: the sum, with the area of what is left of the ring, is the ring's; it is at
-- most a curve's greatest area for each step. Assumes nothing.
use mathlib.Core.Path.{◌≡◌, sym, ap, ◌∙◌, subst}
use Prim.Native.Nat.{◌+◌, ◌*◌, ◌-◌, ◌/◌}
use native.Mathlib.Omega.{arith}
use lib.IntN.{ℤ, ◌+ℤ◌}
use mir.Syntax.{w64}
use mir.Val.{to_z, of_z, SFits}
use mir.Facts.{to_z-of_z}
use Rattle.integers.specs.Signs.{sent}
use Rattle.map_rows.specs.Rows.{EdgeRow}
use Rattle.map_rows.proofs.Rows.{edge-row_of}
use Rattle.rings.proofs.Walks.{steps}
use Rattle.rings.proofs.Reversed.{Within, within-sub, curve_most}
use Rattle.rings.proofs.Sums.{area_left, area_at, area-within, sum-within, sum_fits, area_start, area_on}
use Rattle.rings.proofs.Sums.{area_last, area-end}
use Rattle.rings.proofs.ring_area.Goals as goal

pub overflow_mul-k-end : goal.overflow_mul-k-end
overflow_mul-k-end c = omega (arith, c.requires.0)

pub loop-k-init : goal.loop-k-init
loop-k-init c =
    let a = c.args in (
      c.requires.1,
      omega arith,
      within-sub 0 0 0 (omega arith) (omega arith),
      area_start a.edges.rows.now
          a.edges.count a.p,
    )

-- what is added, and the sum
module _ (c : goal.After-dart_area-sum) where
  row : EdgeRow c.args.edges.rows.now (c.loop-k.c / 2)
  row = edge-row_of c.args.edges.ranged (c.loop-k.c / 2)
      (omega (arith, c.loop-k.invariant.0))

  step : to_z w64 c.loop-k.sum-bits +ℤ to_z w64 (of_z w64 c.dart_area-sum.result)
      ≡ to_z w64 c.loop-k.sum-bits +ℤ area_at c.args.edges.rows.now
      c.loop-k.c
  step = ap (λ (z : ℤ). to_z w64 c.loop-k.sum-bits +ℤ z)
      (sent {z = c.dart_area-sum.result} c.dart_area-sum.type_inv ∙ c.dart_area-sum.ensures)

  within : Within (curve_most * (c.loop-k.k + 1))
      (to_z w64 c.loop-k.sum-bits +ℤ area_at c.args.edges.rows.now
      c.loop-k.c)
  within = sum-within c.loop-k.k c.loop-k.invariant.2
      (area-within c.loop-k.c row)

  fits : SFits w64 (to_z w64 c.loop-k.sum-bits +ℤ to_z w64 (of_z w64 c.dart_area-sum.result))
  fits = subst (SFits w64) (sym step) (sum_fits (c.loop-k.k + 1)
      (omega (arith, c.requires.0, c.loop-k-test.true)) within)

  total : to_z w64 (of_z w64 (to_z w64 c.loop-k.sum-bits +ℤ to_z w64 (of_z w64 c.dart_area-sum.result)))
      ≡ to_z w64 c.loop-k.sum-bits +ℤ area_at c.args.edges.rows.now
      c.loop-k.c
  total = to_z-of_z fits ∙ step

pub returns-then-c-first : goal.returns-then-c-first
returns-then-c-first c =
    let b = c in
    let s = b in
    let w = b.loop-k in
    let n = c.next_position-c in
    total c.before.before.before ∙ area_last s.args.edges.ranged s.args.p s.requires.1 w.k w.c (to_z w64 w.sum-bits)
    w.invariant.3 w.invariant.0 b.loop-k-test.true n.result (record { below = n.ensures.0; is = n.ensures.1 })
    c.if-c-first.true

pub loop-k-preserved : goal.loop-k-preserved
loop-k-preserved c =
    let b = c in
    let s = b in
    let w = b.loop-k in
    let n = c.next_position-c in
    let e = total c.before.before.before in (
      n.ensures.0,
      omega (arith, b.loop-k-test.true),
      subst (Within (curve_most * (w.k + 1))) (sym e) (within c.before.before.before),
      ap (λ (z : ℤ). z +ℤ area_left s.args.edges.rows.now s.args.edges.count
          (steps s.args.edges.rows.now s.args.edges.count s.args.p (s.args.edges.count * 2 - (w.k + 1)) n.result)) e
          ∙ area_on s.args.edges.ranged s.args.p s.requires.1 w.k w.c (to_z w64 w.sum-bits) w.invariant.3 w.invariant.0
          b.loop-k-test.true n.result (record { below = n.ensures.0; is = n.ensures.1 }) c.if-c-first.false,
    )

pub returns : goal.returns
returns c =
    let s = c in
    let w = c.loop-k in
    area-end s.args.edges.ranged s.args.p s.requires.1 w.k w.c (to_z w64 w.sum-bits) w.invariant.3 c.loop-k-test.false

pub overflow_cast-first : goal.overflow_cast-first
overflow_cast-first c = omega (arith, c.requires.0, c.requires.1)

pub dart_area-sum-requires : goal.dart_area-sum-requires
dart_area-sum-requires c = edge-row_of c.args.edges.ranged (c.loop-k.c / 2) (omega (arith, c.loop-k.invariant.0))

pub overflow_add-sum : goal.overflow_add-sum
overflow_add-sum c = fits c

pub next_position-c-requires : goal.next_position-c-requires
next_position-c-requires c = (c.args.edges.ranged, c.requires.0, c.loop-k.invariant.0)
