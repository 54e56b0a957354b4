-- The numbers that are written are those of the row. Assumes nothing.
use mathlib.Core.Path.{◌≡◌, refl, ap, ◌∙◌}
use mathlib.Core.List.{List, ◌∷◌, ◌++◌}
use Prim.Native.Nat.{ℕ, zero, suc, ◌+◌, ◌-◌, ◌≤◌}
use native.Mathlib.Omega.{arith}
use lib.IntN.{ℤ, pos}
use lib.ListN.{length, take, replicate}
use lib.Seq.{take-append-add}
use Rattle.curves.specs.Curves.{points, coordinates}
use Rattle.curve_edits.specs.Lines.{line_of}
use Rattle.curve_edits.proofs.Lines.{length-coordinates}
use Rattle.map.specs.Rows.{Edge, dart_cell, edge_cells}
use Rattle.map_rows.specs.declared.Incidence.{Incidence}
use Rattle.map_rows.specs.Cells.{cells_of}

take-replicate : {A : Type 0} (z : A) (k m : ℕ) → k ≤ m → take k (replicate m z) ≡ replicate k z
take-replicate z zero m h = refl
take-replicate z (suc k) zero h = absurd (omega arith)
take-replicate z (suc k) (suc m) h = ap (λ l. z ∷ l) (take-replicate z k m (omega arith))

-- a list filled up with zeros to w numbers
padded : (w : ℕ) (l : List ℤ) → length l ≤ w → take w (l ++ replicate w (pos 0)) ≡ l ++ replicate (w - length l) (pos 0)
padded w l h =
    let k : w ≡ length l + (w - length l) = omega arith in
    ap (λ n. take n (l ++ replicate w (pos 0))) k ∙ take-append-add l (replicate w (pos 0)) (w - length l)
    ∙ ap (λ r. l ++ r) (take-replicate (pos 0) (w - length l) w (omega arith))

-- the row of e, of at most 12 points
pub row_cells_lem : (s : Incidence) (e : Edge) → s.number ≡ pos e.number → s.start ≡ pos e.start → s.end
    ≡ pos e.end → s.next_left ≡ dart_cell e.next_left
    → s.next_right ≡ dart_cell e.next_right → s.left ≡ pos e.left → s.right ≡ pos e.right
    → length (points e.curve) ≤ 12 → cells_of s (line_of (points e.curve)) ≡ edge_cells e
unfolding line_of edge_cells
row_cells_lem s e n b t nl nr l r k =
    let p = padded 24 (coordinates (points e.curve)) (omega (arith, length-coordinates (points e.curve))) in
    λ i. n i ∷ b i ∷ t i ∷ nl i ∷ nr i ∷ l i ∷ r i ∷ pos (length (points e.curve)) ∷ p i

-- its points are counted
pub line_count : (ps : List _) → (line_of ps).count ≡ length ps
unfolding line_of
line_count ps = refl
