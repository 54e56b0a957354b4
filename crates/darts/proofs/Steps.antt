-- The first step along a curve and along its reverse, by the points of a run; the negative of a number. Assumes
-- nothing.
use mathlib.Core.Path.{◌≡◌, sym, ap, ap₂, ◌∙◌}
use mathlib.Core.Bool.{true, false}
use mathlib.Core.List.{List, ◌∷◌}
use Prim.Native.Nat.{ℕ, zero, suc, ◌+◌, ◌-◌, ◌/◌}
use native.Mathlib.Nat.{add-zero, zero-add}
use native.Mathlib.Omega.{arith}
use lib.IntN.{ℤ, pos, neg_ℤ, ◌-ℤ◌, +ℤ_idl}
use lib.ListN.{length}
use mir.Syntax.{w64}
use mir.Val.{SFits}
use Rattle.plane.specs.declared.Point.{Point}
use Rattle.plane.specs.Points.{InRange}
use Rattle.plane.specs.Directions.{way_to}
use Rattle.curves.specs.Curves.{Run, Curve, curve_of, point_at, points_from, last_of, second_of, before_last}
use Rattle.curves.specs.Edits.{turned, course}
use Rattle.curves.proofs.Runs.{two-points, from_step, from_end, curve_is, last_is}
use Rattle.curves.proofs.Reverses.{second_turned}
use Rattle.darts.specs.declared.Step.{Step}
use Rattle.darts.specs.Positions.{step_of, Along}

before-from : (l : List ℤ) (k i : ℕ) → i + k + 2 ≡ length l / 2 → before_last (point_at l i) (points_from l (i + 1))
    ≡ point_at l (i + k)
before-from l zero i h = rw (from_step l (i + 1) (omega arith), from_end l (i + 1 + 1) (omega arith), add-zero i)
before-from l (suc k) i h =
    let e : i + 1 + k ≡ i + suc k = omega arith in
    let rest = rw (from_step l (i + 1 + 1) (omega arith)) at (before-from l k (i + 1) (omega arith)) in
    rw (from_step l (i + 1) (omega arith), from_step l (i + 1 + 1) (omega arith)) (rest ∙ ap (point_at l) e)

module _ {l : List ℤ} (run : Run l) where
  pub step_forward : step_of (course false (curve_of l)) ≡ record { from = point_at l 0; to = point_at l 1 }
  step_forward = ap step_of (curve_is run)
      ∙ ap (λ (r : List Point). step_of (record { first = point_at l 0; rest = r }))
      (from_step l 1 (omega (arith, two-points run)))

  pub step_back : (n : ℕ) → n ≡ length l / 2 → step_of (course true (curve_of l))
      ≡ record { from = point_at l (n - 1); to = point_at l (n - 2) }
  step_back n e =
      let h = two-points run in
      let first = from_step l 1 (omega arith) in
      let z = last_of (point_at l 0) (points_from l 1) in
      let last : z ≡ point_at l (n - 1) = last_is l (n - 1) (omega arith) in
      let second : second_of z (turned (point_at l 0) (points_from l 1)) ≡ before_last (point_at l 0) (points_from l 1) =
      rw first (second_turned (last_of (point_at l 0) (point_at l 1 ∷ points_from l 2)) (point_at l 0) (point_at l 1)
      (points_from l 2)) in
      let before : before_last (point_at l 0) (points_from l 1) ≡ point_at l (n - 2) =
      before-from l (n - 2) 0 (omega arith) ∙ ap (point_at l) (zero-add (n - 2)) in
      ap (λ (c : Curve). step_of (course true c)) (curve_is run) ∙ ap₂ step last (second ∙ before)
    where
      step : Point → Point → Step
      step p q = record { from = p; to = q }

pub along : {a b p q : Point} {c : Curve} → (a ≡ p) × InRange a → (b ≡ q) × InRange b → step_of c
    ≡ record { from = p; to = q } → Along (record { from = a; to = b }) c
along {a} {b} {p} {q} {c} e f h = record {
  is = same;
  way = ap (λ (s : Step). way_to s.from s.to) same;
  from = e.1;
  to = f.1;
}
  where
    same : record { from = a; to = b } ≡ step_of c
    same = (λ i. record { from = e.0 i; to = f.0 i }) ∙ sym h

-- ---- the negative of a number that is not negative

pub negative_is : (z : ℤ) → pos 0 -ℤ z ≡ neg_ℤ z
negative_is z = +ℤ_idl (neg_ℤ z)

negative_fits : (n : ℕ) → SFits w64 (pos n) → SFits w64 (neg_ℤ (pos n))
negative_fits zero f = f
negative_fits (suc n) f = record { sfits = let h = f.sfits in omega arith }

pub minus_fits : (z : ℤ) (n : ℕ) → z ≡ pos n → SFits w64 z → SFits w64 (pos 0 -ℤ z)
minus_fits z n e f = rw (negative_is z, e) (negative_fits n (rw e at f))
