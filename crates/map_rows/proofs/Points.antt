-- The point and the containing face of a node row. Assumes nothing.
use mathlib.Core.Path.{◌≡◌, refl, ap, subst}
use mathlib.Core.Bool.{true, not, ◌&&◌}
use mathlib.Core.List.{List}
use Prim.Native.Nat.{ℕ, ◌+◌, ◌*◌, ◌≤◌}
use native.Mathlib.Omega.{arith}
use lib.Dec.{lit<}
use lib.IntN.{ℤ, pos, negsuc}
use lib.ListN.{get_or}
use lib.Signed.{le_z, non_neg}
use borrow.Author.Tests.{leb-true}
use Rattle.lists.specs.Scans.{is_some}
use Rattle.lists.proofs.Bools.{and_left, and_right}
use Rattle.tables.specs.Tables.{row_at, cell, same_z}
use Rattle.tables.proofs.Order.{is_same}
use Rattle.tables.proofs.Rows.{row_cell}
use Rattle.plane.specs.Points.{InRange}
use Rattle.curves.specs.Curves.{coordinate, point}
use Rattle.curves.proofs.Runs.{coordinate-le}
use Rattle.map.specs.Limits.{node_width}
use Rattle.map.specs.Rows.{node_of, face_of}
use Rattle.map_rows.specs.Rows.{NodeRow, node_at}

pub point_in : (x y : ℤ) → coordinate x ≡ true → coordinate y ≡ true → InRange (point x y)
point_in x y e f = record { x = coordinate-le x e; y = coordinate-le y f }

-- ---- the point of a node row

module _ {l : List ℤ} {i : ℕ} (row : NodeRow l i) where
  in_it : non_neg (cell (row_at node_width l i) 0) && coordinate (cell (row_at node_width l i) 1)
      && coordinate (cell (row_at node_width l i) 2) ≡ true
  in_it = and_left _ (le_z (negsuc 0) (cell (row_at node_width l i) 3)) row.ranges

  pub node_x : coordinate (get_or l (i * 4 + 1) (pos 0)) ≡ true
  node_x =
      subst (λ (z : ℤ). coordinate z ≡ true) (row_cell node_width l i 1 (lit< tt))
      (and_right (non_neg (cell (row_at node_width l i) 0)) _
      (and_left _ (coordinate (cell (row_at node_width l i) 2)) in_it))

  pub node_y : coordinate (get_or l (i * 4 + 2) (pos 0)) ≡ true
  node_y =
      subst (λ (z : ℤ). coordinate z ≡ true) (row_cell node_width l i 2 (lit< tt))
      (and_right (non_neg (cell (row_at node_width l i) 0) && coordinate (cell (row_at node_width l i) 1)) _ in_it)

  pub node_point_is : point (get_or l (i * 4 + 1) (pos 0)) (get_or l (i * 4 + 2) (pos 0)) ≡ (node_at l i).at
  unfolding node_of
  node_point_is = rw (row_cell node_width l i 1 (lit< tt), row_cell node_width l i 2 (lit< tt))

-- ---- a containing face in its row: a number, or -1 for none

pub isolated_is : (z : ℤ) → le_z (negsuc 0) z ≡ true → not (same_z z (negsuc 0)) ≡ is_some (face_of z)
isolated_is (pos n) h = refl
isolated_is (negsuc n) h =
    let e : n ≤ 0 = leb-true n 0 h in
    ap not (is_same (negsuc n) (negsuc 0) (ap negsuc (omega arith)))
