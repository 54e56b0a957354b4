-- Spots of segments: the ends, a segment and its two parts, the two spots that two segments share. Assumes nothing.
use mathlib.Core.Path.{◌≡◌, sym, ap, ◌∙◌, subst}
use mathlib.Core.Logic.{◌⊎◌, inl, inr, ◌≢◌}
use Prim.Native.Nat.{ℕ, ◌+◌, ◌*◌, ◌-◌, ◌≤◌, ◌<◌}
use native.Mathlib.Decide.{ℕ_discrete, dec_le}
use native.Mathlib.Nat.{eq_of_mul-eq-mul_left, mul-pos}
use native.Mathlib.Omega.{arith}
use lib.IntN.{ℤ, pos, neg_ℤ, ◌+ℤ◌, ◌-ℤ◌, ◌*ℤ◌}
use Rattle.integers.specs.Solver.{con, ⊝◌, ◌⊕◌, ◌⊖◌, ◌⊗◌, ◌≐◌, solve, zero_of, of_zero, combine, times_zero}
use Rattle.integers.specs.Linear.{pos_injective}
use Rattle.integers.specs.Order.{pos-<, pos-sub, *-pos-zero}
use Rattle.plane.specs.declared.Point.{Point}
use Rattle.plane.proofs.Laws.{point_path}
use Rattle.geometry.specs.Spots.{Spot, spot, At, OnSeg, Between, SameWay}

-- ---- equations of one coordinate, in ℤ

-- from the spot X / D to the whole number a, times D
abbrev pub off : ℕ → ℕ → ℕ → ℤ
off D X a = pos D *ℤ pos a -ℤ pos X

pub balance : (D X j i a b : ℕ) → (j + i) * X ≡ D * (j * a + i * b) → pos j *ℤ off D X a +ℤ pos i *ℤ off D X b ≡ pos 0
balance D X j i a b e =
    solve 6 (λ d x j i a b. j ⊗ (d ⊗ a ⊖ x) ⊕ i ⊗ (d ⊗ b ⊖ x) ≐ d ⊗ (j ⊗ a ⊕ i ⊗ b) ⊖ (j ⊕ i) ⊗ x) tt (pos D) (pos X)
    (pos j) (pos i) (pos a) (pos b)
    ∙ zero_of (sym (ap pos e))

pub balanced : (D X j i a b : ℕ) → pos j *ℤ off D X a +ℤ pos i *ℤ off D X b ≡ pos 0 → (j + i) * X ≡ D * (j * a + i * b)
balanced D X j i a b e =
    sym (pos_injective
    (of_zero _ _
    (sym (solve 6 (λ d x j i a b. j ⊗ (d ⊗ a ⊖ x) ⊕ i ⊗ (d ⊗ b ⊖ x) ≐ d ⊗ (j ⊗ a ⊕ i ⊗ b) ⊖ (j ⊕ i) ⊗ x) tt (pos D)
    (pos X) (pos j) (pos i) (pos a) (pos b)) ∙ e)))

-- a multiple of the distance is 0
none : (D X m n : ℕ) → 0 < n → pos n *ℤ off D X m ≡ pos 0 → X ≡ D * m
none D X m n h e = sym (pos_injective (of_zero (pos D *ℤ pos m) (pos X) (*-pos-zero (pos n) (off D X m) (pos-< h) e)))

-- a spot with all its weight at the one end
lone : (D X k l a m : ℕ) → (k + l) * X ≡ D * (k * a + l * m) → 0 < k + l → k ≡ 0 → X ≡ D * m
lone D X k l a m e h z = none D X m l (omega arith)
    (solve 2 (λ u w. w ≐ con (pos 0) ⊗ u ⊕ w) tt (off D X a) (pos l *ℤ off D X m)
    ∙ ap (λ (n : ℕ). pos n *ℤ off D X a +ℤ pos l *ℤ off D X m) (sym z) ∙ balance D X k l a m e)

-- a whole number m on a b, seen from the spot
module _ (D X j i a b m : ℕ) (e : (j + i) * m ≡ 1 * (j * a + i * b)) where
  pub seen : pos j *ℤ (off D X a -ℤ off D X m) +ℤ pos i *ℤ (off D X b -ℤ off D X m) ≡ pos 0
  seen =
      solve 7 (λ d x j i a b m. j ⊗ ((d ⊗ a ⊖ x) ⊖ (d ⊗ m ⊖ x)) ⊕ i ⊗ ((d ⊗ b ⊖ x) ⊖ (d ⊗ m ⊖ x)) ≐ d
      ⊗ (con (pos 1) ⊗ (j ⊗ a ⊕ i ⊗ b) ⊖ (j ⊕ i) ⊗ m)) tt
      (pos D) (pos X) (pos j) (pos i) (pos a) (pos b) (pos m)
      ∙ times_zero (pos D) (zero_of (sym (ap pos e)))

  -- weights of a spot on a part, and on the whole
  widen : (k l : ℕ) → (k + l) * X ≡ D * (k * a + l * m)
      → ((j + i) * k + l * j + l * i) * X ≡ D * (((j + i) * k + l * j) * a + l * i * b)
  widen k l f =
      balanced D X ((j + i) * k + l * j) (l * i) a b
      (solve 7 (λ u v w j i k l. ((j ⊕ i) ⊗ k ⊕ l ⊗ j) ⊗ u ⊕ (l ⊗ i) ⊗ v ≐ (j ⊕ i) ⊗ (k ⊗ u ⊕ l ⊗ w) ⊕ l
      ⊗ (j ⊗ (u ⊖ w) ⊕ i ⊗ (v ⊖ w))) tt
      (off D X a) (off D X b) (off D X m) (pos j) (pos i) (pos k) (pos l)
      ∙ combine (pos (j + i)) (pos l) (balance D X k l a m f) seen)

  narrow : (s t : ℕ) → t * j ≤ s * i → (s + t) * X ≡ D * (s * a + t * b)
      → (s * i - t * j + t * (j + i)) * X ≡ D * ((s * i - t * j) * a + t * (j + i) * m)
  narrow s t h f =
      balanced D X (s * i - t * j) (t * (j + i)) a m
      (ap (λ (z : ℤ). z *ℤ off D X a +ℤ pos (t * (j + i)) *ℤ off D X m) (pos-sub (s * i) (t * j) h)
      ∙ solve 7 (λ u v w j i s t. (s ⊗ i ⊖ t ⊗ j) ⊗ u ⊕ (t ⊗ (j ⊕ i)) ⊗ w ≐ i ⊗ (s ⊗ u ⊕ t ⊗ v) ⊕ (⊝ t)
      ⊗ (j ⊗ (u ⊖ w) ⊕ i ⊗ (v ⊖ w))) tt
      (off D X a) (off D X b) (off D X m) (pos j) (pos i) (pos s) (pos t)
      ∙ combine (pos i) (neg_ℤ (pos t)) (balance D X s t a b f) seen)

  -- on both parts, with the weights k, l of a, m and k', l' of m, b
  pinned : (k l k' l' : ℕ) → (k + l) * X ≡ D * (k * a + l * m) → (k' + l') * X ≡ D * (k' * m + l' * b)
      → 0 < j * l * l' + i * k * k' + (j + i) * (k * l') → X ≡ D * m
  pinned k l k' l' f g h =
      none D X m (j * l * l' + i * k * k' + (j + i) * (k * l')) h
      (solve 9 (λ u v w j i k l k' l'. (j ⊗ l ⊗ l' ⊕ i ⊗ k ⊗ k' ⊕ (j ⊕ i) ⊗ (k ⊗ l')) ⊗ w
      ≐ con (pos 1) ⊗ ((j ⊗ l') ⊗ (k ⊗ u ⊕ l ⊗ w) ⊕ (i ⊗ k) ⊗ (k' ⊗ w ⊕ l' ⊗ v)) ⊕ (⊝ (k ⊗ l'))
      ⊗ (j ⊗ (u ⊖ w) ⊕ i ⊗ (v ⊖ w))) tt
      (off D X a) (off D X b) (off D X m) (pos j) (pos i) (pos k) (pos l) (pos k') (pos l')
      ∙ combine (pos 1) (neg_ℤ (pos (k * l'))) (combine (pos (j * l')) (pos (i * k)) (balance D X k l a m f)
      (balance D X k' l' m b g)) seen)

-- ---- the ends of a segment

pub flip : {P : Spot} {a b : Point} → OnSeg P a b → OnSeg P b a
flip {P} {a} {b} o =
    record {
      j = o.i;
      i = o.j;
      weight = omega (arith, o.weight);
      x = turn P.x P.d a.x b.x o.x;
      y = turn P.y P.d a.y b.y o.y;
    }
  where
    turn : (X D a b : ℕ) → (o.j + o.i) * X ≡ D * (o.j * a + o.i * b) → (o.i + o.j) * X ≡ D * (o.i * b + o.j * a)
    turn X D a b e =
        let f : o.i + o.j ≡ o.j + o.i = omega arith in
        let g : o.i * b + o.j * a ≡ o.j * a + o.i * b = omega arith in
        rw (f, g) e

pub at_first : {P : Spot} {a : Point} (b : Point) → At P a → OnSeg P a b
at_first {P} {a} b h = record {
  j = 1;
  i = 0;
  weight = omega arith;
  x = go P.d P.x a.x b.x h.x;
  y = go P.d P.y a.y b.y h.y;
}
  where
    go : (D X a b : ℕ) → X ≡ D * a → (1 + 0) * X ≡ D * (1 * a + 0 * b)
    go D X a b e = let f : 1 * a + 0 * b ≡ a = omega arith in rw f (omega arith)

pub at_last : {P : Spot} {b : Point} (a : Point) → At P b → OnSeg P a b
at_last a h = flip (at_first a h)

pub at_one : {P : Spot} {a b : Point} → At P a → At P b → a ≡ b
at_one {P} {a} {b} h k =
    point_path (eq_of_mul-eq-mul_left P.d P.some a.x b.x (sym h.x ∙ k.x))
    (eq_of_mul-eq-mul_left P.d P.some a.y b.y (sym h.y ∙ k.y))

pub at_spot : (a : Point) → At (spot a) a
at_spot a = record { x = omega arith; y = omega arith }

-- ---- a segment and its parts

-- a spot of the first part is one of the whole
pub first_part : {P : Spot} {a b m : Point} → OnSeg (spot m) a b → OnSeg P a m → OnSeg P a b
first_part {P} {a} {b} {m} o p =
    record {
      j = (o.j + o.i) * p.j + p.i * o.j;
      i = p.i * o.i;
      weight = subst (λ (n : ℕ). 0 < n) total (mul-pos o.weight p.weight);
      x = widen P.d P.x o.j o.i a.x b.x m.x o.x p.j p.i p.x;
      y = widen P.d P.y o.j o.i a.y b.y m.y o.y p.j p.i p.y;
    }
  where
    total : (o.j + o.i) * (p.j + p.i) ≡ (o.j + o.i) * p.j + p.i * o.j + p.i * o.i
    total =
        pos_injective (solve 4 (λ j i k l. (j ⊕ i) ⊗ (k ⊕ l) ≐ (j ⊕ i) ⊗ k ⊕ l ⊗ j ⊕ l ⊗ i) tt (pos o.j) (pos o.i)
        (pos p.j) (pos p.i))

pub last_part : {P : Spot} {a b m : Point} → OnSeg (spot m) a b → OnSeg P m b → OnSeg P a b
last_part o p = flip (first_part (flip o) (flip p))

-- a spot of the whole, on the side of a
near_first : {P : Spot} {a b m : Point} (o : OnSeg (spot m) a b) (p : OnSeg P a b) → 0 < o.i
    → p.i * o.j ≤ p.j * o.i → OnSeg P a m
near_first {P} {a} {b} {m} o p q h =
    record {
      j = p.j * o.i - p.i * o.j;
      i = p.i * (o.j + o.i);
      weight = subst (λ (n : ℕ). 0 < n) total (mul-pos q p.weight);
      x = narrow P.d P.x o.j o.i a.x b.x m.x o.x p.j p.i h p.x;
      y = narrow P.d P.y o.j o.i a.y b.y m.y o.y p.j p.i h p.y;
    }
  where
    total : o.i * (p.j + p.i) ≡ p.j * o.i - p.i * o.j + p.i * (o.j + o.i)
    total =
        pos_injective (solve 4 (λ j i k l. i ⊗ (k ⊕ l) ≐ (k ⊗ i ⊖ l ⊗ j) ⊕ l ⊗ (j ⊕ i)) tt (pos o.j) (pos o.i)
        (pos p.j) (pos p.i)
        ∙ sym (ap (λ (z : ℤ). z +ℤ pos (p.i * (o.j + o.i))) (pos-sub (p.j * o.i) (p.i * o.j) h)))

-- the far weight is 0 only at the near end
at_end_lem : (j i a b m : ℕ) → (j + i) * m ≡ 1 * (j * a + i * b) → 0 < j + i → i ≡ 0 → m ≡ a
at_end_lem j i a b m e h z =
    eq_of_mul-eq-mul_left (j + i) h m a (e ∙ ap (λ (n : ℕ). 1 * (j * a + n * b)) z
    ∙ let f : 1 * (j * a + 0 * b) ≡ j * a = omega arith in f ∙ ap (λ (n : ℕ). n * a) k)
  where
    k : j ≡ j + i
    k = omega arith

pub far_weight : {a b m : Point} (o : OnSeg (spot m) a b) → a ≢ m → 0 < o.i
far_weight {a} {b} {m} o n = go (ℕ_discrete o.i 0)
  where
    go : Dec (o.i ≡ 0) → 0 < o.i
    go (yes z) =
        absurd
        (n
        (sym (point_path (at_end_lem o.j o.i a.x b.x m.x o.x o.weight z)
        (at_end_lem o.j o.i a.y b.y m.y o.y o.weight z))))
    go (no z) = omega arith

pub parts : {P : Spot} {a m b : Point} → Between a m b → OnSeg P a b → OnSeg P a m ⊎ OnSeg P m b
unfolding flip
parts {P} {a} {m} {b} s p = go (dec_le (p.i * o.j) (p.j * o.i))
  where
    o : OnSeg (spot m) a b
    o = s.on

    go : Dec (p.i * o.j ≤ p.j * o.i) → OnSeg P a m ⊎ OnSeg P m b
    go (yes h) = inl (near_first o p (far_weight o s.not_first) h)
    go (no h) = inr (flip (near_first (flip o) (flip p) (far_weight (flip o) (λ e. s.not_last (sym e))) (omega arith)))

-- the two parts share m only
pub pin : {P : Spot} {a b m : Point} → OnSeg (spot m) a b → OnSeg P a m → OnSeg P m b → At P m
unfolding flip
pin {P} {a} {b} {m} o p q = go (ℕ_discrete p.j 0) (ℕ_discrete q.i 0)
  where
    go : Dec (p.j ≡ 0) → Dec (q.i ≡ 0) → At P m
    go (yes h) k =
        record {
          x = lone P.d P.x p.j p.i a.x m.x p.x p.weight h;
          y = lone P.d P.y p.j p.i a.y m.y p.y p.weight h;
        }
    go (no h) (yes k) =
        let r : OnSeg P b m = flip q in
        record {
          x = lone P.d P.x r.j r.i b.x m.x r.x r.weight k;
          y = lone P.d P.y r.j r.i b.y m.y r.y r.weight k;
        }
    go (no h) (no k) =
        let pq : 0 < p.j * q.i = mul-pos (omega arith) (omega arith) in
        let some : 0 < (o.j + o.i) * (p.j * q.i) = mul-pos o.weight pq in
        let all : 0 < o.j * p.i * q.i + o.i * p.j * q.j + (o.j + o.i) * (p.j * q.i) = omega arith in
        record {
          x = pinned P.d P.x o.j o.i a.x b.x m.x o.x p.j p.i q.j q.i p.x
              q.x all;
          y = pinned P.d P.y o.j o.i a.y b.y m.y o.y p.j p.i q.j q.i p.y
              q.y all;
        }

-- ---- directions

pub same_way_lem : (a b : Point) → SameWay a b a b
same_way_lem a b = record { n = 1; k = 1; n_some = omega arith; k_some = omega arith; x = omega arith; y = omega arith }

-- from a to m and from a to b
pub first_way : {a m b : Point} → Between a m b → SameWay a m a b
first_way {a} {m} {b} s =
    record {
      n = s.on.j + s.on.i;
      k = s.on.i;
      n_some = s.on.weight;
      k_some = far_weight s.on s.not_first;
      x = go s.on.j s.on.i a.x m.x b.x s.on.x;
      y = go s.on.j s.on.i a.y m.y b.y s.on.y;
    }
  where
    go : (j i a m b : ℕ) → (j + i) * m ≡ 1 * (j * a + i * b) → (j + i) * m + i * a ≡ (j + i) * a + i * b
    go j i a m b e =
        ap (λ (n : ℕ). n + i * a) e
        ∙ pos_injective (solve 4 (λ j i a b. con (pos 1) ⊗ (j ⊗ a ⊕ i ⊗ b) ⊕ i ⊗ a ≐ (j ⊕ i) ⊗ a ⊕ i ⊗ b) tt (pos j)
        (pos i) (pos a) (pos b))

unfoldable pub way_back : {a b c d : Point} → SameWay a b c d → SameWay c d a b
way_back {a} {b} {c} {d} s =
    record {
      n = s.k;
      k = s.n;
      n_some = s.k_some;
      k_some = s.n_some;
      x = omega (arith, s.x);
      y = omega (arith, s.y);
    }

pub way_trans : {a b c d e f : Point} → SameWay a b c d → SameWay c d e f → SameWay a b e f
way_trans {a} {b} {c} {d} {e} {f} s t =
    record {
      n = s.n * t.n;
      k = s.k * t.k;
      n_some = mul-pos s.n_some t.n_some;
      k_some = mul-pos s.k_some t.k_some;
      x = go s.n s.k t.n t.k a.x b.x c.x d.x e.x f.x s.x t.x;
      y = go s.n s.k t.n t.k a.y b.y c.y d.y e.y f.y s.y t.y;
    }
  where
    go : (n k p q a b c d e f : ℕ) → n * b + k * c ≡ n * a + k * d → p * d + q * e ≡ p * c + q * f
        → n * p * b + k * q * e ≡ n * p * a + k * q * f
    go n k p q a b c d e f g h =
        pos_injective (of_zero _ _
        (solve 10 (λ n k p q a b c d e f. n ⊗ p ⊗ b ⊕ k ⊗ q ⊗ e ⊖ (n ⊗ p ⊗ a ⊕ k ⊗ q ⊗ f)
        ≐ p ⊗ (n ⊗ b ⊕ k ⊗ c ⊖ (n ⊗ a ⊕ k ⊗ d)) ⊕ k ⊗ (p ⊗ d ⊕ q ⊗ e ⊖ (p ⊗ c ⊕ q ⊗ f))) tt
        (pos n) (pos k) (pos p) (pos q) (pos a) (pos b) (pos c) (pos d) (pos e) (pos f)
        ∙ combine (pos p) (pos k) (zero_of (ap pos g)) (zero_of (ap pos h))))

pub turn-way : {a b c d : Point} → SameWay a b c d → SameWay b a d c
turn-way s = record { n = s.n; k = s.k; n_some = s.n_some; k_some = s.k_some; x = sym s.x; y = sym s.y }

-- from m to b and from a to b
pub last_way : {a m b : Point} → Between a m b → SameWay m b a b
last_way {a} {m} {b} s =
    turn-way
    (first_way (record {
      on = flip s.on;
      not_first = λ e. s.not_last (sym e);
      not_last = λ e. s.not_first (sym e);
    }))

-- the neighbours of a point that is straight between them differ
pub between_differ : {a m b : Point} → Between a m b → a ≢ b
between_differ {a} {m} {b} s e =
    s.not_first
    (at_one (at_spot a) (pin s.on (at_first m (at_spot a)) (subst (λ (z : Point). OnSeg (spot a) m z) e
    (at_last m (at_spot a)))))
