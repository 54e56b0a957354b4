-- Segments that stretch have two points in common (`stretch_two`). Assumes nothing.
use mathlib.Core.Path.{◌≡◌, refl, sym, ap, ◌∙◌, subst}
use mathlib.Core.Bool.{true, false≢true}
use mathlib.Core.Logic.{◌⊎◌, inl, inr, ◌≢◌}
use Prim.Native.Nat.{ℕ, ◌+◌, ◌*◌, ◌-◌, ◌≤◌, ◌<◌, min, max}
use native.Mathlib.Decide.{dec_le}
use native.Mathlib.Omega.{arith}
use borrow.Author.Tests.{ltb-true}
use lib.IntN.{ℤ, pos, neg_ℤ, ◌+ℤ◌, ◌-ℤ◌, ◌*ℤ◌}
use Rattle.integers.specs.Solver.{con, ⊝◌, ◌⊕◌, ◌⊖◌, ◌⊗◌, ◌≐◌, solve, combine}
use Rattle.integers.specs.Linear.{linear, ◌≗◌, ◌⇒◌}
use Rattle.integers.specs.Order.{Sign, negative, null, positive, sgn, signed, pos-<, sub-pos, *-pos-zero}
use Rattle.lists.proofs.Bools.{or-true, and-true}
use Rattle.plane.specs.declared.Point.{Point}
use Rattle.plane.specs.Areas.{area, is_null}
use Rattle.plane.specs.Segments.{overlap_more, stretches}
use Rattle.geometry.specs.Spots.{spot, At, OnSeg}
use Rattle.plane.proofs.Laws.{area_e, solve₄}
use Rattle.geometry.proofs.Segments.{at_first, at_last, at_spot}
use Rattle.geometry.proofs.Complete.{areas, area_mirror, mirror, on_x}

-- the four points are on one line
record Line (a b c d : Point) : Type 0 where
  abc : area a b c ≡ pos 0
  abd : area a b d ≡ pos 0
  cda : area c d a ≡ pos 0
  cdb : area c d b ≡ pos 0

across : (a b c d : Point) → (pos b.x -ℤ pos a.x) *ℤ area c d a
    ≡ (pos c.x -ℤ pos a.x) *ℤ area a b d +ℤ (pos a.x -ℤ pos d.x) *ℤ area a b c
unfolding area
across a b c d =
    solve₄ (λ ax ay bx by cx cy dx dy. (bx ⊖ ax) ⊗ area_e cx cy dx dy ax ay ≐
    (cx ⊖ ax) ⊗ area_e ax ay bx by dx dy ⊕ (ax ⊖ dx) ⊗ area_e ax ay bx by cx cy) tt a b c d

-- from the first two, where the abscissas of a and b differ
line_of : (a b c d : Point) → a.x ≢ b.x → area a b c ≡ pos 0 → area a b d ≡ pos 0 → Line a b c d
line_of a b c d n e f = record {
  abc = e;
  abd = f;
  cda = cda;
  cdb =
      linear 4 (λ s t u v. v ⊖ u ≗ s ⊖ t ⇒ s ≗ con (pos 0) ⇒ t ≗ con (pos 0) ⇒ u ≗ con (pos 0) ⇒ v ≗ con (pos 0))
      (omega arith) (area a b c) (area a b d) (area c d a) (area c d b) (areas a b c d) e f cda;
}
  where
    cda : area c d a ≡ pos 0
    cda = go (dec_le a.x b.x)
      where
        up : (pos b.x -ℤ pos a.x) *ℤ area c d a ≡ pos 0
        up = across a b c d ∙ combine (pos c.x -ℤ pos a.x) (pos a.x -ℤ pos d.x) f e

        down : (pos a.x -ℤ pos b.x) *ℤ area c d a ≡ pos 0
        down = solve 3 (λ a b z. (a ⊖ b) ⊗ z ≐ ⊝ ((b ⊖ a) ⊗ z)) tt (pos a.x) (pos b.x) (area c d a) ∙ ap neg_ℤ up

        go : Dec (a.x ≤ b.x) → area c d a ≡ pos 0
        go (yes h) = *-pos-zero (pos b.x -ℤ pos a.x) (area c d a)
            (sub-pos (pos a.x) (pos b.x) (pos-< (omega arith))) up
        go (no h) = *-pos-zero (pos a.x -ℤ pos b.x) (area c d a)
            (sub-pos (pos b.x) (pos a.x) (pos-< (omega arith))) down

-- ---- the ends of the common range

-- one of the two points
abbrev OneOf : Point → Point → Point → Type 0
OneOf a b p = (p ≡ a) ⊎ (p ≡ b)

least : (a b : Point) → (p : Point) × OneOf a b p × (p.x ≡ min a.x b.x)
least a b = go (dec_le a.x b.x)
  where
    go : Dec (a.x ≤ b.x) → (p : Point) × OneOf a b p × (p.x ≡ min a.x b.x)
    go (yes h) = (a, inl refl, omega arith)
    go (no h) = (b, inr refl, omega arith)

greatest : (a b : Point) → (p : Point) × OneOf a b p × (p.x ≡ max a.x b.x)
greatest a b = go (dec_le a.x b.x)
  where
    go : Dec (a.x ≤ b.x) → (p : Point) × OneOf a b p × (p.x ≡ max a.x b.x)
    go (yes h) = (b, inr refl, omega arith)
    go (no h) = (a, inl refl, omega arith)

-- an end of a b, in the range of c d on the same line
on_own : (a b p : Point) → OneOf a b p → OnSeg (spot p) a b
on_own a b p (inl e) = at_first b (subst (At (spot p)) e (at_spot p))
on_own a b p (inr e) = at_last a (subst (At (spot p)) e (at_spot p))

line_at : (z : Point → ℤ) (a b p : Point) → OneOf a b p → z a ≡ pos 0 → z b ≡ pos 0 → z p ≡ pos 0
line_at z a b p (inl k) e f = ap z k ∙ e
line_at z a b p (inr k) e f = ap z k ∙ f

-- two points of both segments
pub record Two (a b c d : Point) : Type 0 where
  pub p : Point
  pub q : Point
  pub p_ab : OnSeg (spot p) a b
  pub p_cd : OnSeg (spot p) c d
  pub q_ab : OnSeg (spot q) a b
  pub q_cd : OnSeg (spot q) c d
  pub differ : p ≢ q

-- a point of both with the abscissa x
record Hit (a b c d : Point) (x : ℕ) : Type 0 where
  p : Point
  at : p.x ≡ x
  ab : OnSeg (spot p) a b
  cd : OnSeg (spot p) c d

-- numbers: the bounds l₁, h₁ and l₂, h₂ of two ranges
bottom : (x l₁ l₂ h₁ h₂ : ℕ) → x ≡ l₁ → l₂ ≤ l₁ → max l₁ l₂ < min h₁ h₂ → (x ≡ max l₁ l₂) × (l₂ ≤ x) × (x < h₁)
    × (x ≤ h₂)
bottom x l₁ l₂ h₁ h₂ e k h = (omega arith, omega arith, omega arith, omega arith)

top : (x l₁ l₂ h₁ h₂ : ℕ) → x ≡ h₁ → h₁ ≤ h₂ → max l₁ l₂ < min h₁ h₂ → (x ≡ min h₁ h₂) × (l₂ ≤ x) × (l₁ < x) × (x ≤ h₂)
top x l₁ l₂ h₁ h₂ e k h = (omega arith, omega arith, omega arith, omega arith)

flipped : (l₁ l₂ h₁ h₂ : ℕ) → max l₁ l₂ < min h₁ h₂ → max l₂ l₁ < min h₂ h₁
flipped l₁ l₂ h₁ h₂ h = omega arith

other : {m n : ℕ} → ¬ (m ≤ n) → n ≤ m
other h = omega arith

max_comm : (m n : ℕ) → max m n ≡ max n m
max_comm m n = omega arith

min_comm : (m n : ℕ) → min m n ≡ min n m
min_comm m n = omega arith

apart : (m n : ℕ) → m < n → m ≡ n → ⊥
apart m n h e = omega arith

wide : (a b l h : ℕ) → max (min a b) l < min (max a b) h → a ≢ b
wide a b l h k e = go a b e (below (min a b) l (max a b) h k)
  where
    below : (l₁ l₂ h₁ h₂ : ℕ) → max l₁ l₂ < min h₁ h₂ → l₁ < h₁
    below l₁ l₂ h₁ h₂ k = omega arith

    go : (a b : ℕ) → a ≡ b → min a b < max a b → ⊥
    go a b e k = omega arith

module _ (a b c d : Point) (l : Line a b c d) (n : a.x ≢ b.x) (n' : c.x ≢ d.x) where
  hit_ab : (p : Point) → OneOf a b p → min c.x d.x ≤ p.x → p.x ≤ max c.x d.x → Hit a b c d p.x
  hit_ab p k lo hi = record {
    p = p;
    at = refl;
    ab = on_own a b p k;
    cd = on_x c d p n' lo hi (line_at (area c d) a b p k l.cda l.cdb);
  }

  hit_cd : (p : Point) → OneOf c d p → min a.x b.x ≤ p.x → p.x ≤ max a.x b.x → Hit a b c d p.x
  hit_cd p k lo hi = record {
    p = p;
    at = refl;
    ab = on_x a b p n lo hi (line_at (area a b) c d p k l.abc l.abd);
    cd = on_own c d p k;
  }

  module _ (h : max (min a.x b.x) (min c.x d.x) < min (max a.x b.x) (max c.x d.x)) where
    lower : Hit a b c d (max (min a.x b.x) (min c.x d.x))
    lower = go (dec_le (min c.x d.x) (min a.x b.x)) (least a b) (least c d)
      where
        go : Dec (min c.x d.x ≤ min a.x b.x) → (p : Point) × OneOf a b p × (p.x ≡ min a.x b.x)
            → (p : Point) × OneOf c d p × (p.x ≡ min c.x d.x)
            → Hit a b c d (max (min a.x b.x) (min c.x d.x))
        go (yes k) u v = let f = bottom u.0.x _ _ _ _ u.2 k h in
            subst (Hit a b c d) f.0 (hit_ab u.0 u.1 f.1 f.3)
        go (no k) u v = let f = bottom v.0.x _ _ _ _ v.2 (other k) (flipped _ _ _ _ h) in
            subst (Hit a b c d) (f.0 ∙ max_comm _ _) (hit_cd v.0 v.1 f.1 f.3)

    upper : Hit a b c d (min (max a.x b.x) (max c.x d.x))
    upper = go (dec_le (max a.x b.x) (max c.x d.x)) (greatest a b) (greatest c d)
      where
        go : Dec (max a.x b.x ≤ max c.x d.x) → (p : Point) × OneOf a b p × (p.x ≡ max a.x b.x)
            → (p : Point) × OneOf c d p × (p.x ≡ max c.x d.x)
            → Hit a b c d (min (max a.x b.x) (max c.x d.x))
        go (yes k) u v = let f = top u.0.x _ _ _ _ u.2 k h in
            subst (Hit a b c d) f.0 (hit_ab u.0 u.1 f.1 f.3)
        go (no k) u v = let f = top v.0.x _ _ _ _ v.2 (other k) (flipped _ _ _ _ h) in
            subst (Hit a b c d) (f.0 ∙ min_comm _ _) (hit_cd v.0 v.1 f.1 f.3)

    two : Two a b c d
    two =
        let u = lower in
        let v = upper in
        record {
          p = u.p;
          q = v.p;
          p_ab = u.ab;
          p_cd = u.cd;
          q_ab = v.ab;
          q_cd = v.cd;
          differ = λ e. apart _ _ h (sym u.at ∙ ap (λ (z : Point). z.x) e ∙ v.at);
        }

two_x : (a b c d : Point) → area a b c ≡ pos 0 → area a b d ≡ pos 0 → overlap_more a.x b.x c.x d.x ≡ true
    → Two a b c d
unfolding overlap_more
two_x a b c d e f g =
    let h : max (min a.x b.x) (min c.x d.x) < min (max a.x b.x) (max c.x d.x) =
    ltb-true _ _ g in
    let n : a.x ≢ b.x = wide a.x b.x _ _ h in
    let n' : c.x ≢ d.x = wide c.x d.x _ _ (flipped _ _ _ _ h) in
    two a b c d (line_of a b c d n e f) n n' h

unmirror : {p a b : Point} → OnSeg (spot (mirror p)) (mirror a) (mirror b) → OnSeg (spot p) a b
unmirror o = record { j = o.j; i = o.i; weight = o.weight; x = o.y; y = o.x }

two_y : (a b c d : Point) → area a b c ≡ pos 0 → area a b d ≡ pos 0 → overlap_more a.y b.y c.y d.y ≡ true
    → Two a b c d
two_y a b c d e f g =
    let t = two_x (mirror a) (mirror b) (mirror c) (mirror d) (area_mirror a b c ∙ ap neg_ℤ e)
    (area_mirror a b d ∙ ap neg_ℤ f) g in
    record {
      p = mirror t.p;
      q = mirror t.q;
      p_ab = unmirror t.p_ab;
      p_cd = unmirror t.p_cd;
      q_ab = unmirror t.q_ab;
      q_cd = unmirror t.q_cd;
      differ = λ k. t.differ (ap mirror k);
    }

pub null_is : (z : ℤ) → is_null (sgn z) ≡ true → z ≡ pos 0
null_is z e = signed null z (go (sgn z) e)
  where
    go : (s : Sign) → is_null s ≡ true → s ≡ null
    go negative k = absurd (false≢true k)
    go null k = refl
    go positive k = absurd (false≢true k)

pub stretch_two : (a b c d : Point) → stretches a b c d ≡ true → Two a b c d
unfolding stretches
stretch_two a b c d e =
    let h = and-true _ _ e in
    let k = and-true _ _ h.1 in
    go (null_is (area a b c) h.0) (null_is (area a b d) k.0)
    (or-true (overlap_more a.x b.x c.x d.x) (overlap_more a.y b.y c.y d.y) k.1)
  where
    go : area a b c ≡ pos 0 → area a b d ≡ pos 0 → (overlap_more a.x b.x c.x d.x ≡ true)
        ⊎ (overlap_more a.y b.y c.y d.y ≡ true) → Two a b c d
    go u v (inl f) = two_x a b c d u v f
    go u v (inr f) = two_y a b c d u v f
