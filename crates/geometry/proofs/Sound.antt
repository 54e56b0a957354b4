-- The sign test is right: segments that share a point pass it (`sound`). Assumes nothing.
use mathlib.Core.Path.{◌≡◌, refl, sym, ap, ◌∙◌}
use mathlib.Core.Bool.{Bool, true, false}
use Prim.Native.Nat.{ℕ, ◌+◌, ◌*◌, ◌-◌, ◌<◌, min, max}
use native.Mathlib.Nat.{eq_of_mul-eq-mul_left, mul_left_comm}
use native.Mathlib.Omega.{arith}
use borrow.Author.Tests.{leb-false}
use lib.Dec.{leb}
use lib.IntN.{ℤ, pos, ◌+ℤ◌, ◌-ℤ◌, ◌*ℤ◌}
use Rattle.integers.specs.Solver.{con, ◌⊕◌, ◌⊖◌, ◌⊗◌, ◌≐◌, solve, zero_of}
use Rattle.integers.specs.Order.{Sign, negative, null, positive, sgn, signed, pos-<, sub-pos, weighted_pos}
use Rattle.integers.specs.Order.{weighted_not_pos, weighted_not_neg, *-pos-zero}
use Rattle.plane.specs.declared.Point.{Point}
use Rattle.plane.specs.Areas.{area, turn_of, turn}
use Rattle.plane.specs.Segments.{overlap, apart, straddle, meets}
use Rattle.plane.proofs.Laws.{area_e}
use Rattle.geometry.specs.Spots.{Spot, OnSeg}

-- ---- a shared point, by weights: j and i of a and b, l and k of c and d

pub record Common (a b c d : Point) : Type 0 where
  pub j : ℕ
  pub i : ℕ
  pub l : ℕ
  pub k : ℕ
  pub ab : 0 < j + i
  pub cd : 0 < l + k
  pub same_x : (l + k) * (j * a.x + i * b.x) ≡ (j + i) * (l * c.x + k * d.x)
  pub same_y : (l + k) * (j * a.y + i * b.y) ≡ (j + i) * (l * c.y + k * d.y)

-- one coordinate of a common spot
meet_at : (D X j i l k A B : ℕ) → 0 < D → (j + i) * X ≡ D * A → (l + k) * X ≡ D * B → (l + k) * A ≡ (j + i) * B
meet_at D X j i l k A B h e f =
    eq_of_mul-eq-mul_left D h ((l + k) * A) ((j + i) * B)
    (mul_left_comm D (l + k) A ∙ ap (λ (n : ℕ). (l + k) * n) (sym e) ∙ mul_left_comm (l + k) (j + i) X
    ∙ ap (λ (n : ℕ). (j + i) * n) f ∙ mul_left_comm (j + i) D B)

-- a spot of both segments
pub spot_common : {P : Spot} {a b c d : Point} → OnSeg P a b → OnSeg P c d → Common a b c d
spot_common {P} {a} {b} {c} {d} o p =
    record {
      j = o.j;
      i = o.i;
      l = p.j;
      k = p.i;
      ab = o.weight;
      cd = p.weight;
      same_x = meet_at P.d P.x o.j o.i p.j p.i (o.j * a.x + o.i * b.x)
          (p.j * c.x + p.i * d.x) P.some o.x p.x;
      same_y = meet_at P.d P.y o.j o.i p.j p.i (o.j * a.y + o.i * b.y)
          (p.j * c.y + p.i * d.y) P.some o.y p.y;
    }

pub common_spot : {a b c d : Point} → Common a b c d → (P : Spot) × OnSeg P a b × OnSeg P c d
common_spot {a} {b} {c} {d} s = (
  record { x = s.j * a.x + s.i * b.x; y = s.j * a.y + s.i * b.y; d = s.j + s.i; some = s.ab },
  record { j = s.j; i = s.i; weight = s.ab; x = refl; y = refl },
  record { j = s.l; i = s.k; weight = s.cd; x = s.same_x; y = s.same_y },
)

pub swap : {a b c d : Point} → Common a b c d → Common c d a b
swap s = record {
  j = s.l;
  i = s.k;
  l = s.j;
  k = s.i;
  ab = s.cd;
  cd = s.ab;
  same_x = sym s.same_x;
  same_y = sym s.same_y;
}

-- ---- the ranges overlap

-- a and b are not both above c and d
not_above : (j i l k a b c d : ℕ) → 0 < j + i → 0 < l + k → (l + k) * (j * a + i * b) ≡ (j + i) * (l * c + k * d)
    → max c d < min a b → ⊥
not_above j i l k a b c d ab cd e h =
    weighted_not_pos j i (inner a) (inner b) ab
    (solve 8 (λ j i l k a b c d. j ⊗ (l ⊗ (a ⊖ c) ⊕ k ⊗ (a ⊖ d)) ⊕ i ⊗ (l ⊗ (b ⊖ c) ⊕ k ⊗ (b ⊖ d)) ≐ (l ⊕ k) ⊗
    (j ⊗ a ⊕ i ⊗ b) ⊖ (j ⊕ i) ⊗ (l ⊗ c ⊕ k ⊗ d)) tt
    (pos j) (pos i) (pos l) (pos k) (pos a) (pos b) (pos c) (pos d) ∙ zero_of (ap pos e))
    (weighted_pos l k _ _ cd (sub-pos (pos c) (pos a) (pos-< (omega arith)))
    (sub-pos (pos d) (pos a) (pos-< (omega arith))))
    (weighted_pos l k _ _ cd (sub-pos (pos c) (pos b) (pos-< (omega arith)))
    (sub-pos (pos d) (pos b) (pos-< (omega arith))))
  where
    inner : ℕ → ℤ
    inner x = pos l *ℤ (pos x -ℤ pos c) +ℤ pos k *ℤ (pos x -ℤ pos d)

-- a test that cannot fail
leb_is : (m n : ℕ) → (n < m → ⊥) → leb m n ≡ true
leb_is m n f = go (leb m n) refl
  where
    go : (b : Bool) → leb m n ≡ b → b ≡ true
    go true e = refl
    go false e = absurd (f (leb-false m n e))

overlaps : (j i l k a b c d : ℕ) → 0 < j + i → 0 < l + k → (l + k) * (j * a + i * b) ≡ (j + i) * (l * c + k * d)
    → overlap a b c d ≡ true
unfolding overlap
overlaps j i l k a b c d ab cd e =
    rw (
      leb_is (min a b) (max c d) (not_above j i l k a b c d ab cd e),
      leb_is (min c d) (max a b) (not_above l k j i c d a b cd ab (sym e)),
    )

-- ---- each segment's ends are not on one side of the other's line

weighted_areas : {a b c d : Point} (s : Common a b c d) → pos s.l *ℤ area a b c +ℤ pos s.k *ℤ area a b d ≡ pos 0
unfolding area
weighted_areas {a} {b} {c} {d} s =
    *-pos-zero (pos (s.j + s.i)) _ (pos-< s.ab)
    (solve 12 (λ j i l k ax ay bx by cx cy dx dy.
    (j ⊕ i) ⊗ (l ⊗ area_e ax ay bx by cx cy ⊕ k ⊗ area_e ax ay bx by dx dy)
    ≐ (by ⊖ ay) ⊗ ((l ⊕ k) ⊗ (j ⊗ ax ⊕ i ⊗ bx) ⊖ (j ⊕ i) ⊗ (l ⊗ cx ⊕ k ⊗ dx)) ⊖ (bx ⊖ ax) ⊗
    ((l ⊕ k) ⊗ (j ⊗ ay ⊕ i ⊗ by) ⊖ (j ⊕ i) ⊗ (l ⊗ cy ⊕ k ⊗ dy))) tt
    (pos s.j) (pos s.i) (pos s.l) (pos s.k) (pos a.x) (pos a.y) (pos b.x) (pos b.y)
    (pos c.x) (pos c.y) (pos d.x) (pos d.y)
    ∙ (λ t. (pos b.y -ℤ pos a.y) *ℤ zero_of (ap pos s.same_x) t -ℤ (pos b.x -ℤ pos a.x) *ℤ zero_of
    (ap pos s.same_y) t)
    ∙ solve 2 (λ u v. u ⊗ con (pos 0) ⊖ v ⊗ con (pos 0) ≐ con (pos 0)) tt (pos b.y -ℤ pos a.y)
    (pos b.x -ℤ pos a.x))

-- two signs that are not both positive and not both negative
apart_if : (u v : Sign) → (u ≡ positive → v ≡ positive → ⊥) → (u ≡ negative → v ≡ negative → ⊥)
    → apart (turn_of u) (turn_of v) ≡ true
apart_if negative negative f g = absurd (g refl refl)
apart_if negative null f g = refl
apart_if negative positive f g = refl
apart_if null v f g = refl
apart_if positive negative f g = refl
apart_if positive null f g = refl
apart_if positive positive f g = absurd (f refl refl)

straddles : {a b c d : Point} → Common a b c d → straddle a b c d ≡ true
unfolding straddle turn
straddles {a} {b} {c} {d} s =
    apart_if (sgn (area a b c)) (sgn (area a b d))
    (λ e f. weighted_not_pos s.l s.k _ _ s.cd (weighted_areas s) (signed positive (area a b c) e)
    (signed positive (area a b d) f))
    (λ e f. weighted_not_neg s.l s.k _ _ s.cd (weighted_areas s) (signed negative (area a b c) e)
    (signed negative (area a b d) f))

-- ---- soundness

pub sound : {a b c d : Point} → Common a b c d → meets a b c d ≡ true
unfolding meets
sound {a} {b} {c} {d} s =
    rw (
      overlaps s.j s.i s.l s.k a.x b.x c.x d.x s.ab s.cd s.same_x,
      overlaps s.j s.i s.l s.k a.y b.y c.y d.y s.ab s.cd s.same_y,
      straddles s,
      straddles (swap s),
    )
