-- Laws of runs: the points of a run, one after the other. Assumes nothing.
use mathlib.Core.Path.{◌≡◌, refl, ap, ◌∙◌}
use mathlib.Core.Bool.{Bool, true, ◌&&◌, false≢true}
use mathlib.Core.List.{List, [], ◌∷◌}
use Prim.Native.Nat.{ℕ, zero, suc, ◌+◌, ◌*◌, ◌-◌, ◌/◌, ◌≤◌, ◌<◌}
use native.Mathlib.Nat.{add-zero, zero-add, lt_of_le_of_lt}
use native.Mathlib.Numerals.{add-one}
use native.Mathlib.Omega.{arith}
use lib.Dec.{T, leb, lit<}
use lib.IntN.{ℤ, pos, negsuc, nat_abs}
use lib.ListN.{length, get_or, drop}
use lib.Seq.{drop-cons}
use lib.Signed.{le_z, non_neg}
use mir.Syntax.{w64}
use mir.Val.{of_z, to_z, SFits, Fits}
use mir.Facts.{to_z-of_z, Fits-of_lt}
use borrow.Author.Rules.{sfits_of}
use borrow.Author.Tests.{leb-true, le-leb}
use Rattle.lists.specs.Scans.{all_of}
use Rattle.lists.specs.Tables.{table}
pub use Rattle.lists.proofs.Bools.{and_left, and_right}
use Rattle.plane.specs.Points.{max_coordinate, InRange}
use Rattle.curves.specs.Curves.{Run, is_run_to, max_points, coordinate, point_at, points_from, points_of, curve_of}
use Rattle.curves.specs.Curves.{last_of, through}

-- ---- tables

module _ {A : Type 0} where
  pub table_shift : (f g : ℕ → A) → ((i : ℕ) → f (i + 1) ≡ g i) → (a n : ℕ) → table f (a + 1) n ≡ table g a n
  table_shift f g h a zero = refl
  table_shift f g h a (suc n) =
      ap (λ (r : A). r ∷ table f (a + 1 + 1) n) (h a) ∙ ap (λ (l : List A). g a ∷ l) (table_shift f g h (a + 1) n)

  pub all_drop : (p : A → Bool) (l : List A) (i : ℕ) (d : A) → i < length l → all_of p (drop i l) ≡ p (get_or l i d)
      && all_of p (drop (i + 1) l)
  all_drop p l i d h = rw (drop-cons l i d h, add-one i)

  pub all_get_d : (p : A → Bool) (l : List A) (i : ℕ) (d : A) → p d ≡ true → all_of p l ≡ true → p (get_or l i d) ≡ true
  all_get_d p [] i d h e = h
  all_get_d p (r ∷ l) zero d h e = and_left (p r) (all_of p l) e
  all_get_d p (r ∷ l) (suc i) d h e = all_get_d p l i d h (and_right (p r) (all_of p l) e)

-- ---- coordinates

pub coordinate-pos : (z : ℤ) → coordinate z ≡ true → z ≡ pos (nat_abs z)
coordinate-pos (pos n) e = refl
coordinate-pos (negsuc n) e = absurd (false≢true e)

pub coordinate-le : (z : ℤ) → coordinate z ≡ true → nat_abs z ≤ max_coordinate
coordinate-le (pos n) e = leb-true n max_coordinate (and_right (le_z (pos 0) (pos n)) (leb n max_coordinate) e)
coordinate-le (negsuc n) e = absurd (false≢true e)

pub coordinate_of : (n : ℕ) → n ≤ max_coordinate → coordinate (pos n) ≡ true
coordinate_of n h = rw (le-leb 0 n (omega arith), le-leb n max_coordinate h)

coordinate-fits : (z : ℤ) → coordinate z ≡ true → SFits w64 z
coordinate-fits (pos n) e = sfits_of (lt_of_le_of_lt (coordinate-le (pos n) e) (lit< tt))
coordinate-fits (negsuc n) e = absurd (false≢true e)

coordinate_nonneg : (z : ℤ) → coordinate z ≡ true → T (non_neg z)
coordinate_nonneg (pos n) e = tt
coordinate_nonneg (negsuc n) e = absurd (false≢true e)

-- a coordinate as it is read, and as it is cast
pub coordinate-read : (z : ℤ) → coordinate z ≡ true → to_z w64 (of_z w64 z) ≡ z
coordinate-read z e = to_z-of_z {w = w64} (coordinate-fits z e)

pub coordinate_cast : (z : ℤ) → coordinate z ≡ true → T (non_neg (to_z w64 (of_z w64 z)))
    × Fits w64 (nat_abs (to_z w64 (of_z w64 z)))
coordinate_cast z e = rw (coordinate-read z e)
    (coordinate_nonneg z e, Fits-of_lt (lt_of_le_of_lt (coordinate-le z e) (lit< tt)))

-- ---- what a run is

module _ {l : List ℤ} (run : Run l) where
  pub two-points : 2 ≤ length l / 2
  unfolding is_run_to
  two-points = leb-true 2 (length l / 2)
      (and_left _ (leb (length l / 2) max_points) (and_left _ (all_of coordinate l) run.is))

  pub few_points : length l / 2 ≤ max_points
  unfolding is_run_to
  few_points = leb-true (length l / 2) max_points
      (and_right (leb 2 (length l / 2)) _ (and_left _ (all_of coordinate l) run.is))

  cells : all_of coordinate l ≡ true
  unfolding is_run_to
  cells = and_right (leb 2 (length l / 2) && leb (length l / 2) max_points) _ run.is

  -- each number of a run is a coordinate
  pub cell-le : (i : ℕ) → nat_abs (get_or l i (pos 0)) ≤ max_coordinate
  cell-le i = coordinate-le (get_or l i (pos 0)) (all_get_d coordinate l i (pos 0) refl cells)

  -- a number of a run, read back from its bits
  pub cell-read : (i : ℕ) → to_z w64 (of_z w64 (get_or l i (pos 0))) ≡ get_or l i (pos 0)
  cell-read i = coordinate-read (get_or l i (pos 0)) (all_get_d coordinate l i (pos 0) refl cells)

  pub cell_cast : (i : ℕ) → T (non_neg (to_z w64 (of_z w64 (get_or l i (pos 0)))))
      × Fits w64 (nat_abs (to_z w64 (of_z w64 (get_or l i (pos 0)))))
  cell_cast i = coordinate_cast (get_or l i (pos 0)) (all_get_d coordinate l i (pos 0) refl cells)

  pub point_in : (i : ℕ) → InRange (point_at l i)
  point_in i = record { x = cell-le (i * 2); y = cell-le (i * 2 + 1) }

-- a run of at most k points is one of at most n, if that is more
pub run_wider : {k n : ℕ} → k ≤ n → (l : List ℤ) → is_run_to k l ≡ true → is_run_to n l ≡ true
unfolding is_run_to
run_wider {k} {n} le l h =
    let few = and_left (leb 2 (length l / 2) && leb (length l / 2) k) (all_of coordinate l) h in
    let most = leb-true (length l / 2) k (and_right (leb 2 (length l / 2)) (leb (length l / 2) k) few) in
    rw (
      and_left (leb 2 (length l / 2)) (leb (length l / 2) k) few,
      le-leb (length l / 2) n (omega arith),
      and_right (leb 2 (length l / 2) && leb (length l / 2) k) (all_of coordinate l) h,
    )

-- ---- the points of a run

pub points-table : (l : List ℤ) → points_of l ≡ table (point_at l) 0 (length l / 2)
points-table [] = refl
points-table (x ∷ []) = refl
points-table (x ∷ y ∷ r) = rw (
  half,
  table_shift (point_at (x ∷ y ∷ r)) (point_at r) next 0 (length r / 2),
  points-table r,
)
  where
    half : suc (suc (length r)) / 2 ≡ suc (length r / 2)
    half = omega arith

    twice : (i : ℕ) → (i + 1) * 2 ≡ suc (suc (i * 2))
    twice i = omega arith

    twice' : (i : ℕ) → suc (suc (i * 2)) + 1 ≡ suc (suc (i * 2 + 1))
    twice' i = omega arith

    next : (i : ℕ) → point_at (x ∷ y ∷ r) (i + 1) ≡ point_at r i
    next i = rw (twice i, twice' i)

-- the points from i on are point i and those from i + 1 on
pub from_step : (l : List ℤ) (i : ℕ) → i < length l / 2 → points_from l i ≡ point_at l i ∷ points_from l (i + 1)
from_step l i h = let e : length l / 2 - i ≡ suc (length l / 2 - (i + 1)) = omega arith in rw e

pub from_end : (l : List ℤ) (i : ℕ) → length l / 2 ≤ i → points_from l i ≡ []
from_end l i h = let e : length l / 2 - i ≡ 0 = omega arith in rw e

-- the curve of a run
pub curve_is : {l : List ℤ} → Run l → curve_of l ≡ record { first = point_at l 0; rest = points_from l 1 }
unfolding curve_of
curve_is {l} run =
    let e : length l / 2 ≡ suc (length l / 2 - 1) = omega (arith, two-points run) in
    ap through (points-table l ∙ ap (table (point_at l) 0) e)

-- the last point
pub last_from : (l : List ℤ) (k i : ℕ) → i + k + 1 ≡ length l / 2 → last_of (point_at l i) (points_from l (i + 1))
    ≡ point_at l (i + k)
last_from l zero i h = rw (from_end l (i + 1) (omega arith), add-zero i)
last_from l (suc k) i h =
    let e : i + 1 + k ≡ i + suc k = omega arith in
    rw (from_step l (i + 1) (omega arith)) (last_from l k (i + 1) (omega arith) ∙ ap (point_at l) e)

pub last_is : (l : List ℤ) (n : ℕ) → n + 1 ≡ length l / 2 → last_of (point_at l 0) (points_from l 1) ≡ point_at l n
last_is l n h = last_from l n 0 (omega arith) ∙ ap (point_at l) (zero-add n)
