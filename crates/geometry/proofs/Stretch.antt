-- Two different spots that two segments share: then the segments lie on one line and their ranges overlap
-- (`two_stretch`). Assumes nothing.
use mathlib.Core.Path.{◌≡◌, sym, ◌∙◌}
use mathlib.Core.Bool.{true, false, false≢true, ◌&&◌, ◌||◌}
use mathlib.Core.Logic.{◌⊎◌, inl, inr, ◌≢◌}
use Prim.Native.Nat.{ℕ, ◌+◌, ◌*◌, ◌-◌, ◌≤◌, ◌<◌, min, max}
use native.Mathlib.Decide.{ℕ_discrete, dec_le}
use native.Mathlib.Nat.{mul-le-mul_left, mul_left_comm, lt_of_mul-lt-mul_left, mul_comm}
use native.Mathlib.Omega.{arith}
use borrow.Author.Tests.{lt-ltb}
use lib.IntN.{ℤ, pos, neg_ℤ, ◌+ℤ◌, ◌-ℤ◌, ◌*ℤ◌}
use lib.Signed.{◌<ℤ◌}
use Rattle.integers.specs.Solver.{con, ⊝◌, ◌⊕◌, ◌⊖◌, ◌⊗◌, ◌≐◌, solve, combine}
use Rattle.integers.specs.Linear.{linear, ◌≺◌, ◌⇒◌}
use Rattle.integers.specs.Order.{sgn, pos-<, sub-pos, *-pos-zero, weighted_not_pos, weighted_not_neg}
use Rattle.lists.proofs.Bools.{or_right, or_left}
use Rattle.plane.specs.declared.Point.{Point}
use Rattle.plane.specs.Areas.{area, is_null}
use Rattle.plane.specs.Segments.{overlap_more, stretches}
use Rattle.geometry.specs.Spots.{Spot, spot, Same, At, OnSeg}
use Rattle.plane.proofs.Laws.{area_e}
use Rattle.geometry.proofs.Segments.{off, balance, flip}

-- ---- on one line

abbrev cross : ℤ → ℤ → ℤ → ℤ → ℤ
cross ux uy vx vy = ux *ℤ vy -ℤ uy *ℤ vx

-- opposite vectors
opposed : (j i : ℕ) (ux uy vx vy : ℤ) → 0 < j + i → pos j *ℤ ux +ℤ pos i *ℤ vx ≡ pos 0 → pos j *ℤ uy +ℤ pos i *ℤ vy
    ≡ pos 0 → cross ux uy vx vy ≡ pos 0
opposed j i ux uy vx vy h e f =
    *-pos-zero (pos (j + i)) (cross ux uy vx vy) (pos-< h)
    (solve 6 (λ j i ux uy vx vy. (j ⊕ i) ⊗ (ux ⊗ vy ⊖ uy ⊗ vx) ≐ (vy ⊖ uy) ⊗ (j ⊗ ux ⊕ i ⊗ vx) ⊕ (ux ⊖ vx) ⊗
    (j ⊗ uy ⊕ i ⊗ vy)) tt (pos j) (pos i) ux uy vx vy
    ∙ combine (vy -ℤ uy) (ux -ℤ vx) e f)

abbrev ox : Spot → Point → ℤ
ox P a = off P.d P.x a.x

abbrev oy : Spot → Point → ℤ
oy P a = off P.d P.y a.y

-- from P to Q, times both divisors
abbrev run : ℕ → ℕ → ℕ → ℕ → ℤ
run D X D' X' = pos D *ℤ pos X' -ℤ pos D' *ℤ pos X

-- the run between two spots of a segment has the direction of its ends
module _ (P Q : Spot) where
  abbrev rx : ℤ
  rx = run P.d P.x Q.d Q.x

  abbrev ry : ℤ
  ry = run P.d P.y Q.d Q.y

  abbrev Along : Point → Type 0
  Along a = cross (off P.d P.x a.x) (off P.d P.y a.y) rx ry ≡ pos 0

  along : {a b : Point} → OnSeg P a b → OnSeg Q a b → Along a
  along {a} {b} o p =
      *-pos-zero (pos (p.j + p.i)) _ (pos-< p.weight)
      (solve 12 (λ d x y d' x' y' ax ay bx by j i.
      (j ⊕ i) ⊗ ((d ⊗ ax ⊖ x) ⊗ (d ⊗ y' ⊖ d' ⊗ y) ⊖ (d ⊗ ay ⊖ y) ⊗ (d ⊗ x' ⊖ d' ⊗ x))
      ≐ (d' ⊗ i) ⊗ ((d ⊗ ax ⊖ x) ⊗ (d ⊗ by ⊖ y) ⊖ (d ⊗ ay ⊖ y) ⊗ (d ⊗ bx ⊖ x))
      ⊕ con (pos 1) ⊗ ((⊝ (d ⊗ (d ⊗ ax ⊖ x))) ⊗ (j ⊗ (d' ⊗ ay ⊖ y') ⊕ i ⊗ (d' ⊗ by ⊖ y')) ⊕ (d ⊗ (d ⊗ ay ⊖ y)) ⊗
      (j ⊗ (d' ⊗ ax ⊖ x') ⊕ i ⊗ (d' ⊗ bx ⊖ x')))) tt
      (pos P.d) (pos P.x) (pos P.y) (pos Q.d) (pos Q.x) (pos Q.y) (pos a.x) (pos a.y)
      (pos b.x) (pos b.y) (pos p.j) (pos p.i)
      ∙ combine (pos Q.d *ℤ pos p.i) (pos 1)
      (opposed o.j o.i (ox P a) (oy P a) (ox P b) (oy P b) o.weight
      (balance P.d P.x o.j o.i a.x b.x o.x)
      (balance P.d P.y o.j o.i a.y b.y o.y))
      (combine (neg_ℤ (pos P.d *ℤ off P.d P.x a.x)) (pos P.d *ℤ off P.d P.y a.y)
      (balance Q.d Q.y p.j p.i a.y b.y p.y)
      (balance Q.d Q.x p.j p.i a.x b.x p.x)))

-- three points along one run that is not 0
flat_x : (ux uy vx vy wx wy x y : ℤ) → cross ux uy x y ≡ pos 0 → cross vx vy x y ≡ pos 0 → cross wx wy x y ≡ pos 0
    → x *ℤ cross (vx -ℤ ux) (vy -ℤ uy) (wx -ℤ ux) (wy -ℤ uy) ≡ pos 0
flat_x ux uy vx vy wx wy x y e f g =
    solve 8 (λ ux uy vx vy wx wy x y. x ⊗ ((vx ⊖ ux) ⊗ (wy ⊖ uy) ⊖ (vy ⊖ uy) ⊗ (wx ⊖ ux))
    ≐ con (pos 1) ⊗ ((vx ⊖ wx) ⊗ (ux ⊗ y ⊖ uy ⊗ x) ⊕ (wx ⊖ ux) ⊗ (vx ⊗ y ⊖ vy ⊗ x)) ⊕ (ux ⊖ vx) ⊗
    (wx ⊗ y ⊖ wy ⊗ x)) tt ux uy vx vy wx wy x y
    ∙ combine (pos 1) (ux -ℤ vx) (combine (vx -ℤ wx) (wx -ℤ ux) e f) g

flat_y : (ux uy vx vy wx wy x y : ℤ) → cross ux uy x y ≡ pos 0 → cross vx vy x y ≡ pos 0 → cross wx wy x y ≡ pos 0
    → y *ℤ cross (vx -ℤ ux) (vy -ℤ uy) (wx -ℤ ux) (wy -ℤ uy) ≡ pos 0
flat_y ux uy vx vy wx wy x y e f g =
    solve 8 (λ ux uy vx vy wx wy x y. y ⊗ ((vx ⊖ ux) ⊗ (wy ⊖ uy) ⊖ (vy ⊖ uy) ⊗ (wx ⊖ ux))
    ≐ con (pos 1) ⊗ ((vy ⊖ wy) ⊗ (ux ⊗ y ⊖ uy ⊗ x) ⊕ (wy ⊖ uy) ⊗ (vx ⊗ y ⊖ vy ⊗ x)) ⊕ (uy ⊖ vy) ⊗
    (wx ⊗ y ⊖ wy ⊗ x)) tt ux uy vx vy wx wy x y
    ∙ combine (pos 1) (uy -ℤ vy) (combine (vy -ℤ wy) (wy -ℤ uy) e f) g

-- the doubled area, seen from a spot
area_seen : (P : Spot) (a b c : Point) → cross (off P.d P.x b.x -ℤ off P.d P.x a.x)
    (off P.d P.y b.y -ℤ off P.d P.y a.y)
    (off P.d P.x c.x -ℤ off P.d P.x a.x) (off P.d P.y c.y -ℤ off P.d P.y a.y)
    ≡ pos 0 → area a b c ≡ pos 0
unfolding area
area_seen P a b c e =
    *-pos-zero (pos P.d) _ (pos-< P.some) (*-pos-zero (pos P.d) _ (pos-< P.some)
    (solve 9 (λ d x y ax ay bx by cx cy. d ⊗ (d ⊗ area_e ax ay bx by cx cy)
    ≐ ((d ⊗ bx ⊖ x) ⊖ (d ⊗ ax ⊖ x)) ⊗ ((d ⊗ cy ⊖ y) ⊖ (d ⊗ ay ⊖ y)) ⊖ ((d ⊗ by ⊖ y) ⊖ (d ⊗ ay ⊖ y)) ⊗
    ((d ⊗ cx ⊖ x) ⊖ (d ⊗ ax ⊖ x))) tt
    (pos P.d) (pos P.x) (pos P.y) (pos a.x) (pos a.y) (pos b.x) (pos b.y) (pos c.x)
    (pos c.y) ∙ e))

-- P lies before Q in one coordinate
abbrev Before : Spot → Spot → Type 0
Before P Q = (P.x * Q.d < Q.x * P.d) ⊎ (P.y * Q.d < Q.y * P.d)

run-pos : (D X D' X' : ℕ) → X * D' < X' * D → pos 0 <ℤ run D X D' X'
run-pos D X D' X' h = sub-pos (pos D' *ℤ pos X) (pos D *ℤ pos X')
    (pos-< (let e : D' * X ≡ X * D' = mul_comm D' X in let f : D * X' ≡ X' * D = mul_comm D X' in omega arith))

line-up : (P Q : Spot) (a b c : Point) → Along P Q a → Along P Q b → Along P Q c → Before P Q → area a b c ≡ pos 0
line-up P Q a b c e f g (inl h) = area_seen P a b c
    (*-pos-zero (rx P Q) _ (run-pos P.d P.x Q.d Q.x h)
    (flat_x (ox P a) (oy P a) (ox P b) (oy P b) (ox P c) (oy P c) (rx P Q) (ry P Q) e f g))
line-up P Q a b c e f g (inr h) = area_seen P a b c
    (*-pos-zero (ry P Q) _ (run-pos P.d P.y Q.d Q.y h)
    (flat_y (ox P a) (oy P a) (ox P b) (oy P b) (ox P c) (oy P c) (rx P Q) (ry P Q) e f g))

-- ---- ranges

-- the spot X / D with the weights j, i of a, b
module _ (D X j i a b : ℕ) (w : 0 < j + i) (e : (j + i) * X ≡ D * (j * a + i * b)) where
  low : D * min a b ≤ X
  low = go (dec_le (D * min a b) X)
    where
      go : Dec (D * min a b ≤ X) → D * min a b ≤ X
      go (yes h) = h
      go (no h) =
          let p : D * min a b ≤ D * a = mul-le-mul_left D (omega arith) in
          let q : D * min a b ≤ D * b = mul-le-mul_left D (omega arith) in
          absurd (weighted_not_pos j i (off D X a) (off D X b) w (balance D X j i a b e)
          (sub-pos (pos X) (pos (D * a)) (pos-< (omega arith))) (sub-pos (pos X) (pos (D * b)) (pos-< (omega arith))))

  high : X ≤ D * max a b
  high = go (dec_le X (D * max a b))
    where
      below : (x y : ℤ) → x <ℤ y → (x -ℤ y) <ℤ pos 0
      below = linear 2 (λ x y. x ≺ y ⇒ x ⊖ y ≺ con (pos 0)) (omega arith)

      go : Dec (X ≤ D * max a b) → X ≤ D * max a b
      go (yes h) = h
      go (no h) =
          let p : D * a ≤ D * max a b = mul-le-mul_left D (omega arith) in
          let q : D * b ≤ D * max a b = mul-le-mul_left D (omega arith) in
          absurd (weighted_not_neg j i (off D X a) (off D X b) w (balance D X j i a b e)
          (below (pos (D * a)) (pos X) (pos-< (omega arith))) (below (pos (D * b)) (pos X) (pos-< (omega arith))))

-- bounds of two spots, one before the other
gap : (D X D' X' m M : ℕ) → D * m ≤ X → X' ≤ D' * M → X * D' < X' * D → m < M
gap D X D' X' m M h k l =
    lt_of_mul-lt-mul_left D (lt_of_mul-lt-mul_left D'
    (let p : D' * (D * m) ≤ D' * X = mul-le-mul_left D' h in
    let q : D * X' ≤ D * (D' * M) = mul-le-mul_left D k in
    let e : D * (D' * M) ≡ D' * (D * M) = mul_left_comm D D' M in
    let f : D' * X ≡ X * D' = mul_comm D' X in
    let g : D * X' ≡ X' * D = mul_comm D X' in
    let r : D' * (D * m) < D' * (D * M) = omega arith in r))

overlap_more_lem : (a b c d : ℕ) → min a b < max a b → min a b < max c d → min c d < max a b → min c d < max c d
    → overlap_more a b c d ≡ true
unfolding overlap_more
overlap_more_lem a b c d h k l m = lt-ltb (max (min a b) (min c d)) (min (max a b) (max c d)) (omega arith)

module _ {P Q : Spot} {a b c d : Point} (o : OnSeg P a b) (o' : OnSeg P c d) (p : OnSeg Q a b) (p' : OnSeg Q c d) where
  over_x : P.x * Q.d < Q.x * P.d → overlap_more a.x b.x c.x d.x ≡ true
  over_x h = overlap_more_lem a.x b.x c.x d.x (between lo hi) (between lo hi') (between lo' hi)
      (between lo' hi')
    where
      between : {m M : ℕ} → P.d * m ≤ P.x → Q.x ≤ Q.d * M → m < M
      between {m} {M} u v = gap P.d P.x Q.d Q.x m M u v h

      lo : P.d * min a.x b.x ≤ P.x
      lo = low P.d P.x o.j o.i a.x b.x o.weight o.x

      lo' : P.d * min c.x d.x ≤ P.x
      lo' = low P.d P.x o'.j o'.i c.x d.x o'.weight o'.x

      hi : Q.x ≤ Q.d * max a.x b.x
      hi = high Q.d Q.x p.j p.i a.x b.x p.weight p.x

      hi' : Q.x ≤ Q.d * max c.x d.x
      hi' = high Q.d Q.x p'.j p'.i c.x d.x p'.weight p'.x

  over_y : P.y * Q.d < Q.y * P.d → overlap_more a.y b.y c.y d.y ≡ true
  over_y h = overlap_more_lem a.y b.y c.y d.y (between lo hi) (between lo hi') (between lo' hi)
      (between lo' hi')
    where
      between : {m M : ℕ} → P.d * m ≤ P.y → Q.y ≤ Q.d * M → m < M
      between {m} {M} u v = gap P.d P.y Q.d Q.y m M u v h

      lo : P.d * min a.y b.y ≤ P.y
      lo = low P.d P.y o.j o.i a.y b.y o.weight o.y

      lo' : P.d * min c.y d.y ≤ P.y
      lo' = low P.d P.y o'.j o'.i c.y d.y o'.weight o'.y

      hi : Q.y ≤ Q.d * max a.y b.y
      hi = high Q.d Q.y p.j p.i a.y b.y p.weight p.y

      hi' : Q.y ≤ Q.d * max c.y d.y
      hi' = high Q.d Q.y p'.j p'.i c.y d.y p'.weight p'.y

  over : Before P Q → overlap_more a.x b.x c.x d.x || overlap_more a.y b.y c.y d.y ≡ true
  over (inl h) = or_left (overlap_more a.y b.y c.y d.y) (over_x h)
  over (inr h) = or_right (overlap_more a.x b.x c.x d.x) (overlap_more a.y b.y c.y d.y) (over_y h)

  two_stretch : Before P Q → stretches a b c d ≡ true
  unfolding stretches
  two_stretch h =
      λ t. is_null (sgn (line-up P Q a b c (along P Q o p) (along P Q (flip o) (flip p)) (along P Q o' p') h t))
      && (is_null (sgn (line-up P Q a b d (along P Q o p) (along P Q (flip o) (flip p))
      (along P Q (flip o') (flip p')) h t)) && over h t)

-- segments that do not stretch share one spot at most
pub unique : {P Q : Spot} {a b c d : Point} → stretches a b c d ≡ false → OnSeg P a b → OnSeg P c d → OnSeg Q a b
    → OnSeg Q c d → Same P Q
unique {P} {Q} {a} {b} {c} {d} e o o' p p' =
    record {
      x = even (P.x * Q.d) (Q.x * P.d) (λ h. fore (inl h)) (λ h. aft (inl h));
      y = even (P.y * Q.d) (Q.y * P.d) (λ h. fore (inr h)) (λ h. aft (inr h));
    }
  where
    fore : Before P Q → ⊥
    fore h = false≢true (sym e ∙ two_stretch o o' p p' h)

    aft : Before Q P → ⊥
    aft h = false≢true (sym e ∙ two_stretch p p' o o' h)

    even : (m n : ℕ) → (m < n → ⊥) → (n < m → ⊥) → m ≡ n
    even m n f g = go (ℕ_discrete m n) (dec_le m n)
      where
        go : Dec (m ≡ n) → Dec (m ≤ n) → m ≡ n
        go (yes k) l = k
        go (no k) (yes l) = absurd (f (omega arith))
        go (no k) (no l) = absurd (g (omega arith))

pub same_at : {P : Spot} {q : Point} → Same P (spot q) → At P q
same_at {P} {q} s = record {
  x = let e : P.d * q.x ≡ q.x * P.d = mul_comm P.d q.x in omega (arith, s.x);
  y = let e : P.d * q.y ≡ q.y * P.d = mul_comm P.d q.y in omega (arith, s.y);
}
