-- The doubled area of a run's curve, segment by segment. Assumes nothing.
use mathlib.Core.Path.{◌≡◌}
use mathlib.Core.List.{List, foldr}
use Prim.Native.Nat.{ℕ, ◌+◌, ◌*◌, ◌/◌, ◌≤◌, ◌<◌}
use lib.IntN.{ℤ, pos, ◌+ℤ◌, ◌-ℤ◌}
use lib.ListN.{length}
use Rattle.integers.specs.Solver.{con, ◌⊕◌, ◌⊖◌, ◌⊗◌, ◌≐◌, solve}
use Rattle.plane.specs.declared.Point.{Point}
use Rattle.plane.specs.Points.{origin}
use Rattle.plane.specs.Areas.{area}
use Rattle.curves.specs.Curves.{Run, point_at, curve_of}
use Rattle.curves.specs.Measures.{curve_area}
use Rattle.curves.proofs.Runs.{curve_is}
use Rattle.curves.proofs.Turns.{segments_from, segments_step, segments-end}

-- the doubled areas of the origin and the segments from point i on
abbrev pub area_from : List ℤ → ℕ → ℤ
area_from l i = foldr (λ s a. area origin s.from s.to +ℤ a) (pos 0) (segments_from l i)

add-zero-left : (z : ℤ) → pos 0 -ℤ pos 0 +ℤ z ≡ z
add-zero-left = solve 1 (λ z. con (pos 0) ⊖ con (pos 0) ⊕ z ≐ z) tt

add_zero_right : (z : ℤ) → z +ℤ pos 0 ≡ z
add_zero_right = solve 1 (λ z. z ⊕ con (pos 0) ≐ z) tt

pub area_start : {l : List ℤ} → Run l → pos 0 -ℤ pos 0 +ℤ area_from l 0 ≡ curve_area (curve_of l)
unfolding curve_area
area_start {l} run = rw (curve_is run) (add-zero-left (area_from l 0))

-- one segment more
one_more : (p m : ℕ) (a b : Point) (r : ℤ) → pos p -ℤ pos m +ℤ (area origin a b +ℤ r)
    ≡ pos (p + a.x * b.y) -ℤ pos (m + a.y * b.x) +ℤ r
unfolding area
one_more p m a b r =
    solve 7 (λ p m x y u v r.
    p ⊖ m ⊕ ((x ⊖ con (pos 0)) ⊗ (v ⊖ con (pos 0)) ⊖ (y ⊖ con (pos 0)) ⊗ (u ⊖ con (pos 0)) ⊕ r) ≐ (p ⊕ x ⊗ v) ⊖
    (m ⊕ y ⊗ u) ⊕ r) tt
    (pos p) (pos m) (pos a.x) (pos a.y) (pos b.x) (pos b.y) r

pub area_step : (l : List ℤ) (i p m u v : ℕ) {n : ℕ} {a b : Point} → n + 1 ≡ length l / 2 → i < n → a ≡ point_at l i → b
    ≡ point_at l (i + 1) → u ≡ a.x * b.y → v ≡ a.y * b.x
    → pos p -ℤ pos m +ℤ area_from l i ≡ pos (p + u) -ℤ pos (m + v) +ℤ area_from l (i + 1)
area_step l i p m u v all taken ea eb eu ev =
    rw (segments_step l i all taken, eu, ev, ea, eb)
    (one_more p m (point_at l i) (point_at l (i + 1)) (area_from l (i + 1)))

pub area-end : (l : List ℤ) (i : ℕ) (p m : ℕ) {n : ℕ} → n + 1 ≡ length l / 2 → n ≤ i → pos p -ℤ pos m +ℤ area_from l i
    ≡ pos p -ℤ pos m
area-end l i p m all left = rw (segments-end l i all left) (add_zero_right (pos p -ℤ pos m))
