-- The cells of a face row are compared as words with the rectangle of its box, which is that of the face. Assumes
-- nothing.
use borrow.Author.Rules.{sfits_of}
use mathlib.Core.Path.{◌≡◌, refl, sym, ap, ap₂, ◌∙◌}
use mathlib.Core.Bool.{Bool, ◌&&◌, ◌||◌}
use mathlib.Core.Logic.{inl, inr}
use mathlib.Core.List.{List, []}
use Prim.Native.Nat.{ℕ, zero, suc, ◌+◌, ◌*◌, ◌<◌, ◌≤◌}
use native.Mathlib.Nat.{lt_of_le_of_lt}
use native.Mathlib.Omega.{arith}
use lib.Dec.{eqb, ltb, lit<}
use lib.IntN.{ℤ, pos, nat_abs}
use lib.ListN.{get_or}
use mir.Syntax.{w64}
use mir.Val.{SFits, of_z}
use Rattle.lists.specs.Tests.{same}
use Rattle.lists.specs.Scans.{all_of}
use Rattle.lists.specs.Tables.{table}
use Rattle.lists.proofs.Bools.{equal?, same_eq, same_false, cond_has}
use Rattle.plane.specs.Points.{max_coordinate}
use Rattle.tables.specs.Tables.{row_at, cell, same_z}
use Rattle.tables.proofs.Order.{word_test}
use Rattle.tables.proofs.Rows.{row_cell, row_first}
use Rattle.tables.proofs.Tests.{zero_tested}
use Rattle.bounding_boxes.specs.declared.Extent.{Extent}
use Rattle.map.specs.Limits.{face_width}
use Rattle.map.specs.Rows.{Edge, box_of, rectangle}
use Rattle.map_rows.specs.Rows.{EdgeRows, EdgesInRange, edges_of, face_at}
use Rattle.rectangles.specs.Boxes.{boundary_box, Bounded}
use Rattle.rectangles.proofs.Boundaries.{settled_is}
use Rattle.form_rectangles.specs.Merged.{settled_for}

module _ (l : List ℤ) (k : ℕ) where
  -- cell j and a number of a box
  pub cell_tested : (j n : ℕ) → j < face_width → SFits w64 (get_or l (k * 5 + j) (pos 0)) → n ≤ suc max_coordinate
      → eqb (of_z w64 (get_or l (k * 5 + j) (pos 0))) n ≡ same_z (cell (row_at face_width l k) j) (pos n)
  cell_tested j n h fits small =
      word_test {a = get_or l (k * 5 + j) (pos 0)} {b = pos n} fits (sfits_of (lt_of_le_of_lt small (lit< tt)))
      ∙ ap (λ (z : ℤ). same_z z (pos n)) (sym (row_cell face_width l k j h))

  -- face 0
  pub face_tested : SFits w64 (get_or l (k * 5) (pos 0)) → eqb (of_z w64 (get_or l (k * 5) (pos 0))) 0
      ≡ same (face_at l k) 0
  face_tested fits = zero_tested (get_or l (k * 5) (pos 0)) fits
      ∙ ap (λ (z : ℤ). same (nat_abs z) 0) (sym (row_first face_width l k (lit< tt)))

-- a rectangle is bounded where its box is
pub settled_bounds : (f : ℕ) {e : Extent} → Bounded e → Bounded (settled_for f e)
settled_bounds f {e} s = cond_has Bounded (same f 0 || ltb e.right e.left)
    (record { left = omega arith; right = omega arith; low = omega arith; high = omega arith }) s

-- ---- the rectangle of a face

pub edges_ranged : {l : List ℤ} {n : ℕ} → EdgeRows l n → EdgesInRange l n
edges_ranged t = record { fits = t.fits; ranges = t.ranges }

no_rectangle : (es : List Edge) → rectangle es 0 ≡ box_of []
unfolding rectangle
no_rectangle es = refl

pub rectangle_is : {l : List ℤ} {n : ℕ} → EdgeRows l n → (f : ℕ) → settled_for f (boundary_box (edges_of l n) f)
    ≡ rectangle (edges_of l n) f
rectangle_is {l} {n} t f =
    elim (equal? f 0) [
      | inl e ↦ rw (same_eq f 0 e) (sym (ap (rectangle (edges_of l n)) e ∙ no_rectangle (edges_of l n)))
      | inr d ↦ rw (same_false f 0 d) (settled_is (edges_ranged t) f d)
    ]

-- ---- row by row

-- one test of places and one of rows
pub all_alike : (p : ℕ → Bool) (q : List ℤ → Bool) (row : ℕ → List ℤ) (a n : ℕ)
    → ((k : ℕ) → a ≤ k → k < a + n → p k ≡ q (row k)) → all_of p (table (λ k. k) a n) ≡ all_of q (table row a n)
all_alike p q row a zero h = refl
all_alike p q row a (suc n) h =
    ap₂ ◌&&◌ (h a (omega arith) (omega arith)) (all_alike p q row (a + 1) n (λ k g i. h k (omega arith) (omega arith)))
