-- A half of a curve has no more points than the curve. Assumes nothing.
use mathlib.Core.Bool.{Bool, true, false}
use mathlib.Core.List.{List, [], ◌∷◌}
use Prim.Native.Nat.{ℕ, suc, ◌≤◌}
use native.Mathlib.Omega.{arith}
use lib.ListN.{length}
use Rattle.plane.specs.declared.Point.{Point}
use Rattle.plane.specs.Points.{same_point}
use Rattle.plane.specs.Segments.{on_segment}
use Rattle.curves.specs.Curves.{points, max_points}
use Rattle.curves.specs.Edits.{Halves, cut_here, cut, front, back}
use Rattle.map_rows.specs.Rows.{EdgeRow, edge_at}
use Rattle.map_rows.proofs.RowCurves.{edge_few}

-- of n points after the first
abbrev HalvesUpTo : Halves → ℕ → Type 0
HalvesUpTo h n = (length h.front ≤ n) × (length h.back ≤ n)

here_few : (t v : Bool) (m b : Point) (r : List Point) (h : Halves) → HalvesUpTo h (length r)
    → HalvesUpTo (cut_here t v m b r h) (suc (length r))
here_few true true m b r h k = (omega arith, omega arith)
here_few true false m b r h k = (omega arith, omega arith)
here_few false v m b r h k = (let q = k.0 in omega arith, let q = k.1 in omega arith)

cut_few : (m a : Point) (r : List Point) → HalvesUpTo (cut m a r) (length r)
cut_few m a [] = (omega arith, omega arith)
cut_few m a (b ∷ r) = here_few (on_segment m a b) (same_point m b) m b r (cut m b r) (cut_few m b r)

module _ {l : List _} {i : ℕ} (row : EdgeRow l i) (p : Point) where
  pub front_few : length (points (front p (edge_at l i).curve)) ≤ max_points
  front_few = let c = (edge_at l i).curve in omega (arith, edge_few row, (cut_few p c.first c.rest).0)

  pub back_few : length (points (back p (edge_at l i).curve)) ≤ max_points
  back_few = let c = (edge_at l i).curve in omega (arith, edge_few row, (cut_few p c.first c.rest).1)
