-- Directions: curves that share common ends only leave a common end in different directions. Assumes nothing.
use mathlib.Core.Path.{◌≡◌, refl, sym, ap, ◌∙◌, subst}
use mathlib.Core.Bool.{true, false}
use mathlib.Core.List.{List, [], ◌∷◌}
use mathlib.Core.Logic.{◌⊎◌, inl, inr, ◌≢◌}
use Prim.Native.Nat.{ℕ, ◌+◌, ◌*◌, ◌-◌, ◌≤◌}
use native.Mathlib.Decide.{dec_le}
use native.Mathlib.Omega.{arith}
use lib.ListN.{get_or}
use lib.IntN.{ℤ, pos, neg_ℤ, ◌+ℤ◌, ◌-ℤ◌, ◌*ℤ◌}
use lib.Signed.{◌<ℤ◌}
use Rattle.integers.specs.Solver.{con, ⊝◌, ◌⊕◌, ◌⊖◌, ◌⊗◌, ◌≐◌, solve, zero_of, of_zero}
use Rattle.integers.specs.Linear.{pos_injective}
use Rattle.integers.specs.Order.{Sign, negative, null, positive, sgn, signed, neg_pos, natural}
use Rattle.integers.specs.Order.{<→≤, pos-<, pos-<-back, pos-sub}
use Rattle.integers.specs.Positive.{sgn_scaled}
use Rattle.lists.specs.Tests.{same}
use Rattle.lists.proofs.Bools.{same_true, same_eq, not-true, and-true, and_is}
use Rattle.plane.specs.declared.Point.{Point}
use Rattle.plane.specs.Areas.{is_null}
use Rattle.plane.specs.Directions.{Way, way_to, classes, class, cross, same_way}
use Rattle.plane.proofs.Laws.{point_path}
use Rattle.curves.specs.Curves.{last_of, before_last, second_of, Curve, last_point, start_way, end_way}
use Rattle.geometry.specs.Spots.{Spot, spot, At, OnSeg, SameWay}
use Rattle.geometry.specs.Meaning.{On, Some, Differ, Simple, Clear}
use Rattle.geometry.specs.Drawing.{GoodCurve, ClearCurves}
use Rattle.geometry.proofs.Segments.{at_first, at_last, at_spot, flip, way_back}
use Rattle.geometry.proofs.Double.{Two, null_is}
use Rattle.geometry.proofs.Exact.{no_two_lem}

-- ---- what one direction means: the signs agree, and the cross product is 0

way_is : (n k a b c d : ℕ) → n * b + k * c ≡ n * a + k * d → pos n *ℤ (pos b -ℤ pos a) ≡ pos k *ℤ (pos d -ℤ pos c)
way_is n k a b c d e =
    of_zero _ _ (solve 6 (λ n k a b c d. n ⊗ (b ⊖ a) ⊖ k ⊗ (d ⊖ c) ≐ (n ⊗ b ⊕ k ⊗ c) ⊖ (n ⊗ a ⊕ k ⊗ d)) tt (pos n)
    (pos k) (pos a) (pos b) (pos c) (pos d) ∙ zero_of (ap pos e))

module _ {a b c d : Point} (w : SameWay a b c d) where
  pub way_x : sgn (pos b.x -ℤ pos a.x) ≡ sgn (pos d.x -ℤ pos c.x)
  way_x =
      sym (sgn_scaled (pos w.n) (pos b.x -ℤ pos a.x) (pos-< w.n_some))
      ∙ ap sgn (way_is w.n w.k a.x b.x c.x d.x w.x)
      ∙ sgn_scaled (pos w.k) (pos d.x -ℤ pos c.x) (pos-< w.k_some)

  pub way_y : sgn (pos b.y -ℤ pos a.y) ≡ sgn (pos d.y -ℤ pos c.y)
  way_y =
      sym (sgn_scaled (pos w.n) (pos b.y -ℤ pos a.y) (pos-< w.n_some))
      ∙ ap sgn (way_is w.n w.k a.y b.y c.y d.y w.y)
      ∙ sgn_scaled (pos w.k) (pos d.y -ℤ pos c.y) (pos-< w.k_some)

  -- the cross product with any third way has one sign for both
  pub way-cross : (x y : ℤ) → sgn ((pos b.x -ℤ pos a.x) *ℤ y -ℤ (pos b.y -ℤ pos a.y) *ℤ x)
      ≡ sgn ((pos d.x -ℤ pos c.x) *ℤ y -ℤ (pos d.y -ℤ pos c.y) *ℤ x)
  way-cross x y =
      sym (sgn_scaled (pos w.n) ((pos b.x -ℤ pos a.x) *ℤ y -ℤ (pos b.y -ℤ pos a.y) *ℤ x)
      (pos-< w.n_some))
      ∙ ap sgn (solve 5 (λ n u v x y. n ⊗ (u ⊗ y ⊖ v ⊗ x) ≐ (n ⊗ u) ⊗ y ⊖ (n ⊗ v) ⊗ x) tt (pos w.n)
      (pos b.x -ℤ pos a.x) (pos b.y -ℤ pos a.y) x y
      ∙ (λ t. way_is w.n w.k a.x b.x c.x d.x w.x t *ℤ y -ℤ way_is w.n w.k a.y b.y
      c.y d.y w.y t *ℤ x)
      ∙ solve 5 (λ k u v x y. (k ⊗ u) ⊗ y ⊖ (k ⊗ v) ⊗ x ≐ k ⊗ (u ⊗ y ⊖ v ⊗ x)) tt (pos w.k)
      (pos d.x -ℤ pos c.x) (pos d.y -ℤ pos c.y) x y)
      ∙ sgn_scaled (pos w.k) ((pos d.x -ℤ pos c.x) *ℤ y -ℤ (pos d.y -ℤ pos c.y) *ℤ x) (pos-< w.k_some)

-- ---- two segments from one point in one direction

reach : (n k m x y : ℕ) → n ≤ k → n * x + k * m ≡ n * m + k * y → (k - n + n) * y ≡ 1 * ((k - n) * m + n * x)
reach n k m x y h e =
    pos_injective ((λ t. (pos-sub k n h t +ℤ pos n) *ℤ pos y)
    ∙ solve 5 (λ n k m x y. ((k ⊖ n) ⊕ n) ⊗ y ≐ (n ⊗ m ⊕ k ⊗ y) ⊖ n ⊗ m) tt (pos n) (pos k) (pos m) (pos x) (pos y)
    ∙ ap (λ (z : ℕ). pos z -ℤ pos n *ℤ pos m) (sym e)
    ∙ solve 4 (λ n k m x. (n ⊗ x ⊕ k ⊗ m) ⊖ n ⊗ m ≐ con (pos 1) ⊗ ((k ⊖ n) ⊗ m ⊕ n ⊗ x)) tt (pos n) (pos k) (pos m)
    (pos x)
    ∙ sym (λ t. pos 1 *ℤ (pos-sub k n h t *ℤ pos m +ℤ pos n *ℤ pos x)))

short : {m x y : Point} (w : SameWay m x m y) → w.n ≤ w.k → OnSeg (spot y) m x
short {m} {x} {y} w h =
    record {
      j = w.k - w.n;
      i = w.n;
      weight = omega (arith, w.n_some);
      x = reach w.n w.k m.x x.x y.x h w.x;
      y = reach w.n w.k m.y x.y y.y h w.y;
    }

fork : {m x y : Point} → m ≢ x → m ≢ y → SameWay m x m y → Two m x m y
unfolding way_back
fork {m} {x} {y} n n' w = go (dec_le w.n w.k)
  where
    go : Dec (w.n ≤ w.k) → Two m x m y
    go (yes h) = record {
      p = m;
      q = y;
      p_ab = at_first x (at_spot m);
      p_cd = at_first y (at_spot m);
      q_ab = short w h;
      q_cd = at_last m (at_spot y);
      differ = n';
    }
    go (no h) = record {
      p = m;
      q = x;
      p_ab = at_first x (at_spot m);
      p_cd = at_first y (at_spot m);
      q_ab = at_last m (at_spot x);
      q_cd = short (way_back w) (omega arith);
      differ = n;
    }

-- segments from m that share m and one point more at most
pub ways_differ_lem : {m x y : Point} (v : Point) → m ≢ x → m ≢ y
    → ((P : Spot) → OnSeg P m x → OnSeg P m y → At P m ⊎ At P v) → SameWay m x m y → ⊥
ways_differ_lem {m} v n n' h w = no_two_lem m v h (fork n n' w)

-- ---- curves

-- two curves that start in one point
pub starts_differ : (a : Point) (r s : List Point) → Some r → Some s → Differ a r → Differ a s → Clear a r a s
    → SameWay a (second_of a r) a (second_of a s) → ⊥
starts_differ a [] s h k n n' c = absurd h
starts_differ a (x ∷ r) [] h k n n' c = absurd k
starts_differ a (x ∷ r) (y ∷ s) h k n n' c = ways_differ_lem (last_of x r) n.0 n'.0 (λ P o p. (c P (inl o) (inl p)).0)

-- the last segment
pub on_last : (P : Spot) (a : Point) (r : List Point) → Some r → OnSeg P (last_of a r) (before_last a r) → On P a r
on_last P a [] h o = absurd h
on_last P a (b ∷ []) h o = inl (flip o)
on_last P a (b ∷ c ∷ r) h o = inr (on_last P b (c ∷ r) tt o)

pub last_differ : (a : Point) (r : List Point) → Some r → Differ a r → last_of a r ≢ before_last a r
last_differ a [] h n e = absurd h
last_differ a (b ∷ []) h n e = n.0 (sym e)
last_differ a (b ∷ c ∷ r) h n e = last_differ b (c ∷ r) tt n.1 e

-- the two ends of a closed curve
pub loop_differ : (a : Point) (r : List Point) → Some r → Differ a r → Simple a r → last_of a r ≡ a
    → SameWay a (second_of a r) a (before_last a r) → ⊥
loop_differ a [] h n s e w = absurd h
loop_differ a (b ∷ []) h n s e w = n.0 (sym e)
loop_differ a (b ∷ c ∷ r) h n s e w = ways_differ_lem b n.0 (λ k. last_differ b (c ∷ r) tt n.1 (e ∙ k))
    (λ P o p. go P (s.0 P o (on_last P b (c ∷ r) tt
    (subst (λ (z : Point). OnSeg P z (before_last b (c ∷ r))) (sym e) p)))) w
  where
    go : (P : Spot) → At P b ⊎ (At P a × (last_of c r ≡ a)) → At P a ⊎ At P b
    go P (inl k) = inr k
    go P (inr k) = inl k.0

-- ---- one direction, from the signs and the cross product

-- positive multiples of the two ways that are equal
way_by : (a b c d : Point) (p q : ℤ) → pos 0 <ℤ p → pos 0 <ℤ q → q *ℤ (pos b.x -ℤ pos a.x)
    ≡ p *ℤ (pos d.x -ℤ pos c.x)
    → q *ℤ (pos b.y -ℤ pos a.y) ≡ p *ℤ (pos d.y -ℤ pos c.y) → SameWay a b c d
way_by a b c d p q hp hq e f =
    record {
      n = Q.0;
      k = P.0;
      n_some = pos-<-back (subst (λ (z : ℤ). pos 0 <ℤ z) (sym Q.1) hq);
      k_some = pos-<-back (subst (λ (z : ℤ). pos 0 <ℤ z) (sym P.1) hp);
      x = back Q.0 P.0 a.x b.x c.x d.x
          ((λ t. Q.1 t *ℤ (pos b.x -ℤ pos a.x)) ∙ e ∙ sym (λ t. P.1 t *ℤ (pos d.x -ℤ pos c.x)));
      y = back Q.0 P.0 a.y b.y c.y d.y
          ((λ t. Q.1 t *ℤ (pos b.y -ℤ pos a.y)) ∙ f ∙ sym (λ t. P.1 t *ℤ (pos d.y -ℤ pos c.y)));
    }
  where
    P : (n : ℕ) × (pos n ≡ p)
    P = natural p (<→≤ (pos 0) p hp)

    Q : (n : ℕ) × (pos n ≡ q)
    Q = natural q (<→≤ (pos 0) q hq)

    back : (n k a b c d : ℕ) → pos n *ℤ (pos b -ℤ pos a) ≡ pos k *ℤ (pos d -ℤ pos c) → n * b + k * c ≡ n * a + k * d
    back n k a b c d e =
        pos_injective (of_zero _ _ (solve 6
        (λ n k a b c d. (n ⊗ b ⊕ k ⊗ c) ⊖ (n ⊗ a ⊕ k ⊗ d) ≐ n ⊗ (b ⊖ a) ⊖ k ⊗ (d ⊖ c)) tt (pos n) (pos k) (pos a)
        (pos b) (pos c) (pos d) ∙ zero_of e))

pub way_of : (a b c d : Point) → a ≢ b → sgn (pos b.x -ℤ pos a.x) ≡ sgn (pos d.x -ℤ pos c.x)
    → sgn (pos b.y -ℤ pos a.y) ≡ sgn (pos d.y -ℤ pos c.y)
    → (pos b.x -ℤ pos a.x) *ℤ (pos d.y -ℤ pos c.y)
    ≡ (pos b.y -ℤ pos a.y) *ℤ (pos d.x -ℤ pos c.x) → SameWay a b c d
way_of a b c d n sx sy e = go (sgn dx) (sgn dy) refl refl
  where
    dx : ℤ
    dx = pos b.x -ℤ pos a.x

    dy : ℤ
    dy = pos b.y -ℤ pos a.y

    ex : ℤ
    ex = pos d.x -ℤ pos c.x

    ey : ℤ
    ey = pos d.y -ℤ pos c.y

    swap : (u v : ℤ) → u *ℤ v ≡ v *ℤ u
    swap = solve 2 (λ u v. u ⊗ v ≐ v ⊗ u) tt

    minus : (u v : ℤ) → neg_ℤ u *ℤ v ≡ neg_ℤ v *ℤ u
    minus = solve 2 (λ u v. (⊝ u) ⊗ v ≐ (⊝ v) ⊗ u) tt

    out : (u v : ℤ) → neg_ℤ u *ℤ v ≡ neg_ℤ (u *ℤ v)
    out = solve 2 (λ u v. (⊝ u) ⊗ v ≐ ⊝ (u ⊗ v)) tt

    go : (s t : Sign) → sgn dx ≡ s → sgn dy ≡ t → SameWay a b c d
    go positive t h k = way_by a b c d dx ex (signed positive dx h) (signed positive ex (sym sx ∙ h)) (swap ex dx)
        (swap ex dy ∙ sym e)
    go negative t h k =
        way_by a b c d (neg_ℤ dx) (neg_ℤ ex) (neg_pos dx (signed negative dx h))
        (neg_pos ex (signed negative ex (sym sx ∙ h))) (minus ex dx)
        (out ex dy ∙ ap neg_ℤ (swap ex dy ∙ sym e) ∙ sym (out dx ey))
    go null positive h k = way_by a b c d dy ey (signed positive dy k) (signed positive ey (sym sy ∙ k))
        (swap ey dx ∙ e) (swap ey dy)
    go null negative h k =
        way_by a b c d (neg_ℤ dy) (neg_ℤ ey) (neg_pos dy (signed negative dy k))
        (neg_pos ey (signed negative ey (sym sy ∙ k))) (out ey dx ∙ ap neg_ℤ (swap ey dx ∙ e) ∙ sym (out dy ex))
        (minus ey dy)
    go null null h k =
        absurd (n (sym (point_path (pos_injective (of_zero _ _ (signed null dx h)))
        (pos_injective (of_zero _ _ (signed null dy k))))))

-- ---- the test for one direction

-- the signs of a class
decode : ℕ → Sign × Sign
decode n =
    get_or ((positive, null) ∷ (positive, positive) ∷ (null, positive) ∷ (negative, positive) ∷ (negative, null)
    ∷ (negative, negative) ∷ (null, negative) ∷ (positive, negative) ∷ []) n (null, null)

decoded : (s t : Sign) → decode (classes s t) ≡ (s, t)
unfolding decode
decoded negative negative = refl
decoded negative null = refl
decoded negative positive = refl
decoded null negative = refl
decoded null null = refl
decoded null positive = refl
decoded positive negative = refl
decoded positive null = refl
decoded positive positive = refl

pub same_way-true : (a b c d : Point) → a ≢ b → same_way (way_to a b) (way_to c d) ≡ true → SameWay a b c d
unfolding same_way class cross
same_way-true a b c d n e = way_of a b c d n (ap (λ (p : Sign × Sign). p.0) signs)
    (ap (λ (p : Sign × Sign). p.1) signs) (of_zero _ _ (null_is _ h.1))
  where
    v : Way
    v = way_to a b

    w : Way
    w = way_to c d

    h : (same (class v) (class w) ≡ true) × (is_null (sgn (cross v w)) ≡ true)
    h = and-true _ _ e

    signs : ◌≡◌ {A = Sign × Sign} (sgn v.dx, sgn v.dy) (sgn w.dx, sgn w.dy)
    signs = sym (decoded (sgn v.dx) (sgn v.dy)) ∙ ap decode (same_true _ _ h.0)
        ∙ decoded (sgn w.dx) (sgn w.dy)

pub same_way_is : {a b c d : Point} → SameWay a b c d → same_way (way_to a b) (way_to c d) ≡ true
unfolding same_way class cross
same_way_is {a} {b} {c} {d} w =
    and_is (same_eq _ _ (λ t. classes (way_x w t) (way_y w t)))
    (ap is_null (way-cross w ex ey ∙ ap sgn (solve 2 (λ x y. x ⊗ y ⊖ y ⊗ x ≐ con (pos 0)) tt ex ey)))
  where
    ex : ℤ
    ex = pos d.x -ℤ pos c.x

    ey : ℤ
    ey = pos d.y -ℤ pos c.y

pub same_way-false : (a b c d : Point) → a ≢ b → (SameWay a b c d → ⊥) → same_way (way_to a b) (way_to c d) ≡ false
same_way-false a b c d n h = not-true (same_way (way_to a b) (way_to c d)) (λ e. h (same_way-true a b c d n e))

-- ---- the same of curves

pub second_differs : (c : Curve) → GoodCurve c → c.first ≢ second_of c.first c.rest
second_differs c g = go c.rest g.some g.differ
  where
    go : (r : List Point) → Some r → Differ c.first r → c.first ≢ second_of c.first r
    go [] s n = absurd s
    go (b ∷ r) s n = n.0

pub curves_differ : (c d : Curve) → GoodCurve c → GoodCurve d → ClearCurves c d → c.first ≡ d.first
    → same_way (start_way c) (start_way d) ≡ false
curves_differ c d g g' h e = same_way-false c.first (second_of c.first c.rest) d.first
    (second_of d.first d.rest) (second_differs c g) (λ w.
    starts_differ c.first c.rest d.rest g.some g'.some g.differ
    (subst (λ (z : Point). Differ z d.rest) (sym e) g'.differ)
    (subst (λ (z : Point). Clear c.first c.rest z d.rest) (sym e) h)
    (subst (λ (z : Point). SameWay c.first (second_of c.first c.rest) z (second_of z d.rest)) (sym e) w))

pub ends_differ_lem : (c : Curve) → GoodCurve c → last_point c ≡ c.first → same_way (start_way c) (end_way c) ≡ false
ends_differ_lem c g e = same_way-false c.first (second_of c.first c.rest) (last_point c)
    (before_last c.first c.rest) (second_differs c g) (λ w.
    loop_differ c.first c.rest g.some g.differ g.simple e
    (subst (λ (z : Point). SameWay c.first (second_of c.first c.rest) z (before_last c.first c.rest)) e w))
