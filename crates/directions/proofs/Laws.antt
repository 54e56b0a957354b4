-- Laws of directions and of heights that the functions' proofs share. Assumes nothing.
use mathlib.Core.Path.{◌≡◌, refl, ap₂, ◌∙◌}
use mathlib.Core.Bool.{Bool, true, false}
use mathlib.Core.List.{List, [], ◌∷◌}
use Prim.Native.Nat.{ℕ, ◌+◌, ◌*◌, ◌≤◌, ◌<◌}
use lib.IntN.{ℤ, pos, ◌-ℤ◌, ◌*ℤ◌}
use lib.ListN.{get_or}
use Rattle.integers.specs.Order.{Sign, negative, null, positive, sgn}
use Rattle.integers.specs.Solver.{Expr, ◌⊕◌, ◌⊖◌, ◌⊗◌, ◌≐◌, solve}
use Rattle.plane.specs.declared.Point.{Point}
use Rattle.plane.specs.Areas.{is_positive}
use Rattle.plane.specs.Directions.{Way, way_to, class, classes, sign_place, cross}
use Rattle.plane.specs.Below.{Segment, along, height, higher}
use Rattle.plane.proofs.Laws.{sign_above, sign_below, sign_equal}

-- ---- the table of the eight classes, by the places of the two signs
abbrev pub class_table : List (List ℕ)
class_table = (5 ∷ 4 ∷ 3 ∷ []) ∷ (6 ∷ 8 ∷ 2 ∷ []) ∷ (7 ∷ 0 ∷ 1 ∷ []) ∷ []

abbrev pub class_at : ℕ → ℕ → ℕ
class_at i j = get_or (get_or class_table i []) j 0

class-signs : (s t : Sign) → class_at (sign_place s) (sign_place t) ≡ classes s t
class-signs negative negative = refl
class-signs negative null = refl
class-signs negative positive = refl
class-signs null negative = refl
class-signs null null = refl
class-signs null positive = refl
class-signs positive negative = refl
class-signs positive null = refl
class-signs positive positive = refl

pub class_is : (v : Way) (i j : ℕ) → i ≡ sign_place (sgn v.dx) → j ≡ sign_place (sgn v.dy) → class_at i j ≡ class v
unfolding class
class_is v i j ei ej = ap₂ class_at ei ej ∙ class-signs (sgn v.dx) (sgn v.dy)

-- ---- heights of two segments at x, over a common run: the difference of two sums of products
abbrev pub height_part : ℕ → Point → Point → ℕ
height_part x a b = a.y * b.x + x * b.y

abbrev pub lift_part : ℕ → Point → Point → Point → Point → ℕ
lift_part x a b c d = height_part x a b * d.x + height_part x b a * c.x + height_part x c d * a.x + height_part x d
    c * b.x

abbrev lifted : ℕ → Segment → Segment → ℤ
lifted x s t = height x s *ℤ (along t).dx -ℤ height x t *ℤ (along s).dx

-- the same as expressions for the solver
abbrev part_e : Expr → Expr → Expr → Expr → Expr
part_e x ay bx by = ay ⊗ bx ⊕ x ⊗ by

abbrev lift_e : Expr → Expr → Expr → Expr → Expr → Expr → Expr → Expr → Expr → Expr
lift_e x ax ay bx by cx cy dx dy =
    part_e x ay bx by ⊗ dx ⊕ part_e x by ax ay ⊗ cx ⊕ part_e x cy dx dy ⊗ ax ⊕ part_e x dy cx cy ⊗ bx

abbrev height_e : Expr → Expr → Expr → Expr → Expr → Expr
height_e x ax ay bx by = ay ⊗ (bx ⊖ ax) ⊕ (x ⊖ ax) ⊗ (by ⊖ ay)

lift-parts : (x : ℕ) (a b c d : Point)
    → pos (lift_part x a b c d) -ℤ pos (lift_part x b a c d)
    ≡ lifted x (record { from = a; to = b }) (record { from = c; to = d })
lift-parts x a b c d =
    solve 9 (
    λ x ax ay bx by cx cy dx dy.
    lift_e x ax ay bx by cx cy dx dy ⊖ lift_e x bx by ax ay cx cy dx dy
    ≐ height_e x ax ay bx by ⊗ (dx ⊖ cx) ⊖ height_e x cx cy dx dy ⊗ (bx ⊖ ax)
    ) tt (pos x) (pos a.x) (pos a.y) (pos b.x) (pos b.y) (pos c.x) (pos c.y) (pos d.x) (pos d.y)

-- p and n are the parts for the segments a b and c d
module _ (x : ℕ) (a b c d : Point) (p n : ℕ) (ep : p ≡ lift_part x a b c d) (en : n ≡ lift_part x b a c d) where
  lift_is : pos p -ℤ pos n ≡ lifted x (record { from = a; to = b }) (record { from = c; to = d })
  lift_is = (λ i. pos (ep i) -ℤ pos (en i)) ∙ lift-parts x a b c d

  pub higher_above : n < p → true ≡ higher x (record { from = a; to = b }) (record { from = c; to = d })
  unfolding higher
  higher_above h = rw (sign_above _ p n lift_is h)

  pub higher_below : p < n → false ≡ higher x (record { from = a; to = b }) (record { from = c; to = d })
  unfolding higher
  higher_below h = rw (sign_below _ p n lift_is h)

  pub higher_equal : (r : Bool) → p ≤ n → n ≤ p → r ≡ is_positive (sgn (cross (way_to c d) (way_to a b)))
      → r ≡ higher x (record { from = a; to = b }) (record { from = c; to = d })
  unfolding higher
  higher_equal r g h e = rw (sign_equal _ p n lift_is g h) e
