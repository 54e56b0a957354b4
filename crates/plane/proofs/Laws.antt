-- Laws of the plane that the functions' proofs share. Assumes nothing.
use mathlib.Core.Path.{◌≡◌, refl, sym, ap, ◌∙◌}
use mathlib.Core.Bool.{Bool, true, ◌&&◌}
use Prim.Native.Nat.{ℕ, ◌+◌, ◌*◌, ◌≤◌, ◌<◌}
use native.Mathlib.Nat.{mul-le-mul}
use native.Mathlib.Omega.{arith}
use lib.IntN.{ℤ, pos, ◌-ℤ◌}
use mathlib.Core.List.{[], ◌∷◌}
use lib.Dec.{T, eqb}
use denote.Enum.Bare.{sameb}
use Rattle.integers.specs.Solver.{Expr, ◌⊕◌, ◌⊖◌, ◌⊗◌, ◌≐◌, Vars, equation, valid, Holds, holds}
use Rattle.integers.specs.Order.{Sign, negative, null, positive, sgn, sgn-sub-lt, sgn_sub_gt, sgn_sub_eq}
use Rattle.lists.specs.Tests.{same}
use Rattle.lists.proofs.Bools.{same_true, and-true}
use Rattle.plane.specs.declared.Point.{Point}
use Rattle.plane.specs.declared.Turn.{Turn}
use Rattle.plane.specs.declared.Turn.TheVariants.{Left, Straight, Right}
use Rattle.plane.specs.contracts.Turn.{the_type}
use Rattle.plane.specs.Points.{same_point}
use Rattle.plane.specs.Areas.{area, turn_of, turn, is_null, is_positive}
use Rattle.plane.specs.Directions.{way_to, cross}

-- a point is its coordinates
pub point_path : {p q : Point} → p.x ≡ q.x → p.y ≡ q.y → p ≡ q
point_path u v = λ t. record { x = u t; y = v t }

pub same_point-true : (p q : Point) → same_point p q ≡ true → p ≡ q
unfolding same_point
same_point-true p q e =
    let h = and-true (same p.x q.x) (same p.y q.y) e in
    point_path (same_true p.x q.x h.0) (same_true p.y q.y h.1)

pub product_le : (m : ℕ) {a b : ℕ} → a ≤ m → b ≤ m → a * b ≤ m * m
product_le m h k = mul-le-mul h k

-- the doubled area, as an expression for the solver
abbrev pub area_e : Expr → Expr → Expr → Expr → Expr → Expr → Expr
area_e ax ay bx by cx cy = (bx ⊖ ax) ⊗ (cy ⊖ ay) ⊖ (by ⊖ ay) ⊗ (cx ⊖ ax)

-- the solver at the coordinates of three and of four points
pub solve₃ : (f : Vars 6) → T (valid (equation 6 0 f)) → (a b c : Point)
    → Holds (equation 6 0 f) (pos a.x ∷ pos a.y ∷ pos b.x ∷ pos b.y ∷ pos c.x ∷ pos c.y ∷ [])
solve₃ f t a b c = holds (equation 6 0 f) t _

pub solve₄ : (f : Vars 8) → T (valid (equation 8 0 f)) → (a b c d : Point)
    → Holds (equation 8 0 f) (pos a.x ∷ pos a.y ∷ pos b.x ∷ pos b.y ∷ pos c.x ∷ pos c.y ∷ pos d.x
    ∷ pos d.y ∷ [])
solve₄ f t a b c d = holds (equation 8 0 f) t _

-- the two parts of the doubled area, each a sum of products
abbrev pub part : Point → Point → Point → ℕ
part a b c = a.x * b.y + b.x * c.y + c.x * a.y

pub area-parts : (a b c : Point) → pos (part a b c) -ℤ pos (part b a c) ≡ area a b c
unfolding area
area-parts a b c =
    solve₃ (λ ax ay bx by cx cy. (ax ⊗ by ⊕ bx ⊗ cy ⊕ cx ⊗ ay) ⊖
    (bx ⊗ ay ⊕ ax ⊗ cy ⊕ cx ⊗ by) ≐ area_e ax ay bx by cx cy) tt a b c

-- p and n are the parts
pub area_is : (a b c : Point) (p n : ℕ) → p ≡ part a b c → n ≡ part b a c → pos p -ℤ pos n ≡ area a b c
area_is a b c p n ep en = (λ i. pos (ep i) -ℤ pos (en i)) ∙ area-parts a b c

-- the cross product of b - a and d - c, and its two parts
abbrev pub cross_e : Expr → Expr → Expr → Expr → Expr → Expr → Expr → Expr → Expr
cross_e ax ay bx by cx cy dx dy = (bx ⊖ ax) ⊗ (dy ⊖ cy) ⊖ (by ⊖ ay) ⊗ (dx ⊖ cx)

abbrev pub cross_part : Point → Point → Point → Point → ℕ
cross_part a b c d = b.x * d.y + a.x * c.y + b.y * c.x + a.y * d.x

pub cross-parts : (a b c d : Point) → pos (cross_part a b c d) -ℤ pos (cross_part b a c d) ≡ cross (way_to a b) (way_to c d)
unfolding cross
cross-parts a b c d =
    solve₄ (
    λ ax ay bx by cx cy dx dy.
    (bx ⊗ dy ⊕ ax ⊗ cy ⊕ by ⊗ cx ⊕ ay ⊗ dx) ⊖ (ax ⊗ dy ⊕ bx ⊗ cy ⊕ ay ⊗ cx ⊕ by ⊗ dx) ≐ cross_e ax ay bx by cx cy dx dy
    ) tt a b c d

pub cross_is : (a b c d : Point) (p n : ℕ) → p ≡ cross_part a b c d → n ≡ cross_part b a c d → pos p -ℤ pos n
    ≡ cross (way_to a b) (way_to c d)
cross_is a b c d p n ep en = (λ i. pos (ep i) -ℤ pos (en i)) ∙ cross-parts a b c d

-- how two naturals compare is the sign of their difference z
module _ (z : ℤ) (p n : ℕ) (e : pos p -ℤ pos n ≡ z) where
  pub sign_above : n < p → sgn z ≡ positive
  sign_above h = ap sgn (sym e) ∙ sgn-sub-lt p n h

  pub sign_below : p < n → sgn z ≡ negative
  sign_below h = ap sgn (sym e) ∙ sgn_sub_gt p n h

  pub sign_equal : p ≤ n → n ≤ p → sgn z ≡ null
  sign_equal h k = ap sgn (sym e) ∙ sgn_sub_eq p n (omega arith)

  pub turn-left : n < p → Left ≡ turn z
  unfolding turn
  turn-left h = ap turn_of (sym (sign_above h))

  pub turn_right : p < n → Right ≡ turn z
  unfolding turn
  turn_right h = ap turn_of (sym (sign_below h))

  pub turn-straight : p ≤ n → n ≤ p → Straight ≡ turn z
  unfolding turn
  turn-straight h k = ap turn_of (sym (sign_equal h k))

-- two points compared
pub point_eq : (p q : Point) → eqb p.x q.x && eqb p.y q.y ≡ same_point p q
unfolding same_point same
point_eq p q = refl

-- straight on is 0, left is positive
straight_of : (s : Sign) → sameb the_type (turn_of s) Straight ≡ is_null s
straight_of negative = refl
straight_of null = refl
straight_of positive = refl

left_of_lem : (s : Sign) → sameb the_type (turn_of s) Left ≡ is_positive s
left_of_lem negative = refl
left_of_lem null = refl
left_of_lem positive = refl

-- b is the answer of a test of the turn t of z
module _ (z : ℤ) (t : Turn) (b : Bool) (e : t ≡ turn z) where
  pub null_is : b ≡ sameb the_type t Straight → b ≡ is_null (sgn z)
  unfolding turn
  null_is h = h ∙ ap (λ (s : Turn). sameb the_type s Straight) e ∙ straight_of (sgn z)

  pub positive_is : b ≡ sameb the_type t Left → b ≡ is_positive (sgn z)
  unfolding turn
  positive_is h = h ∙ ap (λ (s : Turn). sameb the_type s Left) e ∙ left_of_lem (sgn z)
