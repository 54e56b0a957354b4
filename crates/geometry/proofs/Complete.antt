-- The sign test says no more than is right: segments that pass it share a point (`complete`). Where the lines cross,
-- the point's weights are the doubled areas. Where all four ends lie on one line, an end of one segment lies on the
-- other. Assumes nothing.
use mathlib.Core.Path.{◌≡◌, sym, ap, ◌∙◌, subst}
use mathlib.Core.Bool.{true, false≢true}
use mathlib.Core.Logic.{◌⊎◌, inl, inr, ◌≢◌}
use Prim.Native.Nat.{ℕ, ◌+◌, ◌*◌, ◌-◌, ◌≤◌, ◌<◌, min, max}
use native.Mathlib.Decide.{ℕ_discrete, dec_le}
use native.Mathlib.Nat.{add_comm}
use native.Mathlib.Omega.{arith}
use borrow.Author.Tests.{leb-true}
use lib.Dec.{leb}
use lib.IntN.{ℤ, pos, neg_ℤ, ◌+ℤ◌, ◌-ℤ◌, ◌*ℤ◌, +ℤ_idr}
use lib.Signed.{◌≤ℤ◌, ◌<ℤ◌}
use Rattle.integers.specs.Solver.{con, ⊝◌, ◌⊕◌, ◌⊖◌, ◌⊗◌, ◌≐◌, solve}
use Rattle.integers.specs.Linear.{linear, ◌≼◌, ◌≺◌, ◌≗◌, ◌⇒◌, pos_injective}
use Rattle.integers.specs.Order.{sgn, sgn_positive, sgn_negative, ≤-or->, ≤-antisym, natural, pos-sub, pos-<-back}
use Rattle.plane.specs.declared.Point.{Point}
use Rattle.plane.specs.Areas.{area, turn_of, turn}
use Rattle.plane.specs.Segments.{overlap, apart, straddle, meets}
use Rattle.plane.proofs.Laws.{area_e, solve₃, solve₄}
use Rattle.geometry.specs.Spots.{spot, OnSeg}
use Rattle.lists.proofs.Bools.{and-true}
use Rattle.geometry.proofs.Segments.{flip, at_first, at_last, at_spot}
use Rattle.geometry.proofs.Sound.{Common, spot_common, swap}

-- ---- a point on a segment

-- the first end's abscissa is below the second's
on_less : (a b p : Point) → a.x < b.x → a.x ≤ p.x → p.x ≤ b.x → area a b p ≡ pos 0 → OnSeg (spot p) a b
unfolding area
on_less a b p h lo hi e =
    record {
      j = b.x - p.x;
      i = p.x - a.x;
      weight = omega arith;
      x = times-one (pos_injective ((λ t. (ej t +ℤ ei t) *ℤ pos p.x)
          ∙ solve 3 (λ ax bx px. ((bx ⊖ px) ⊕ (px ⊖ ax)) ⊗ px ≐ (bx ⊖ px) ⊗ ax ⊕ (px ⊖ ax) ⊗ bx) tt (pos a.x)
          (pos b.x) (pos p.x)
          ∙ sym (λ t. ej t *ℤ pos a.x +ℤ ei t *ℤ pos b.x)));
      y = times-one (pos_injective ((λ t. (ej t +ℤ ei t) *ℤ pos p.y)
          ∙ solve₃ (λ ax ay bx by px py.
          ((bx ⊖ px) ⊕ (px ⊖ ax)) ⊗ py ≐ ((bx ⊖ px) ⊗ ay ⊕ (px ⊖ ax) ⊗ by) ⊕ area_e ax ay bx by px py) tt a b p
          ∙ ap (λ (z : ℤ). ((pos b.x -ℤ pos p.x) *ℤ pos a.y +ℤ (pos p.x -ℤ pos a.x) *ℤ pos b.y) +ℤ z)
          e
          ∙ +ℤ_idr _
          ∙ sym (λ t. ej t *ℤ pos a.y +ℤ ei t *ℤ pos b.y)));
    }
  where
    times-one : {m n : ℕ} → m ≡ n → m ≡ 1 * n
    times-one e = omega arith

    ej : pos (b.x - p.x) ≡ pos b.x -ℤ pos p.x
    ej = pos-sub b.x p.x hi

    ei : pos (p.x - a.x) ≡ pos p.x -ℤ pos a.x
    ei = pos-sub p.x a.x lo

-- areas with two points exchanged, or with the axes exchanged
pub area_swap : (a b c : Point) → area b a c ≡ neg_ℤ (area a b c)
unfolding area
area_swap a b c =
    solve₃ (λ ax ay bx by cx cy. area_e bx by ax ay cx cy ≐ ⊝ area_e ax ay bx by cx cy) tt a b c

abbrev pub mirror : Point → Point
mirror p = record { x = p.y; y = p.x }

pub area_mirror : (a b c : Point) → area (mirror a) (mirror b) (mirror c) ≡ neg_ℤ (area a b c)
unfolding area
area_mirror a b c =
    solve₃ (λ ax ay bx by cx cy. area_e ay ax by bx cy cx ≐ ⊝ area_e ax ay bx by cx cy) tt a b c

-- the ends' abscissas differ, and the point's is between them
pub on_x : (a b p : Point) → a.x ≢ b.x → min a.x b.x ≤ p.x → p.x ≤ max a.x b.x → area a b p ≡ pos 0
    → OnSeg (spot p) a b
on_x a b p ne lo hi e = go (dec_le a.x b.x)
  where
    go : Dec (a.x ≤ b.x) → OnSeg (spot p) a b
    go (yes h) = on_less a b p (omega arith) (omega arith) (omega arith) e
    go (no h) = flip (on_less b a p (omega arith) (omega arith) (omega arith) (area_swap a b p ∙ ap neg_ℤ e))

-- an end of one segment on the other is a common point
common_first : (a b c d : Point) → OnSeg (spot a) c d → Common a b c d
common_first a b c d o = spot_common (at_first b (at_spot a)) o

common_second : (a b c d : Point) → OnSeg (spot b) c d → Common a b c d
common_second a b c d o = spot_common (at_last a (at_spot b)) o

-- ---- all on one line

-- which end lies in the other's range, where two ranges overlap
data Found (a b c d : ℕ) : Type 0 where
  cd_a : c ≢ d → min c d ≤ a → a ≤ max c d → Found a b c d
  cd_b : c ≢ d → min c d ≤ b → b ≤ max c d → Found a b c d
  ab_c : a ≢ b → min a b ≤ c → c ≤ max a b → Found a b c d
  same : a ≡ b → c ≡ d → a ≡ c → Found a b c d

find : (a b c d : ℕ) → min a b ≤ max c d → min c d ≤ max a b → Found a b c d
find a b c d h k = go (ℕ_discrete c d) (ℕ_discrete a b)
  where
    left : c ≢ d → Dec (min c d ≤ b) → Dec (b ≤ max c d) → Dec (min c d ≤ a) → Dec (a ≤ max c d) → Found a b c d
    left n (yes p) (yes q) u v = cd_b n p q
    left n (yes p) (no q) (yes u) (yes v) = cd_a n u v
    left n (yes p) (no q) (yes u) (no v) = absurd (omega arith)
    left n (yes p) (no q) (no u) v = ab_c (omega arith) (omega arith) (omega arith)
    left n (no p) q (yes u) (yes v) = cd_a n u v
    left n (no p) q (yes u) (no v) = ab_c (omega arith) (omega arith) (omega arith)
    left n (no p) q (no u) v = absurd (omega arith)

    go : Dec (c ≡ d) → Dec (a ≡ b) → Found a b c d
    go (yes p) (yes q) = same q p (omega arith)
    go (yes p) (no q) = ab_c q (omega arith) (omega arith)
    go (no p) q = left p (dec_le (min c d) b) (dec_le b (max c d)) (dec_le (min c d) a) (dec_le a (max c d))

-- the four doubled areas are 0
record Line (a b c d : Point) : Type 0 where
  abc : area a b c ≡ pos 0
  cda : area c d a ≡ pos 0
  cdb : area c d b ≡ pos 0

line_mirror : (a b c d : Point) → Line a b c d → Line (mirror a) (mirror b) (mirror c) (mirror d)
line_mirror a b c d s = record {
  abc = area_mirror a b c ∙ ap neg_ℤ s.abc;
  cda = area_mirror c d a ∙ ap neg_ℤ s.cda;
  cdb = area_mirror c d b ∙ ap neg_ℤ s.cdb;
}

common_mirror : (a b c d : Point) → Common (mirror a) (mirror b) (mirror c) (mirror d) → Common a b c d
common_mirror a b c d s =
    record { j = s.j; i = s.i; l = s.l; k = s.k; ab = s.ab; cd = s.cd; same_x = s.same_y; same_y = s.same_x }

-- by the abscissas, or, where those are all equal, by `rest`
by_x : (a b c d : Point) → Line a b c d → Found a.x b.x c.x d.x
    → (a.x ≡ b.x → c.x ≡ d.x → a.x ≡ c.x → Common a b c d) → Common a b c d
by_x a b c d s (cd_a n lo hi) rest = common_first a b c d (on_x c d a n lo hi s.cda)
by_x a b c d s (cd_b n lo hi) rest = common_second a b c d (on_x c d b n lo hi s.cdb)
by_x a b c d s (ab_c n lo hi) rest = swap (common_first c d a b (on_x a b c n lo hi s.abc))
by_x a b c d s (same p q r) rest = rest p q r

collinear : (a b c d : Point) → Line a b c d → Found a.x b.x c.x d.x → Found a.y b.y c.y d.y
    → Common a b c d
collinear a b c d s fx fy =
    by_x a b c d s fx
    (λ p q r. common_mirror a b c d (by_x (mirror a) (mirror b) (mirror c) (mirror d) (line_mirror a b c d s) fy
    (λ p' q' r'. record {
      j = 1;
      i = 0;
      l = 1;
      k = 0;
      ab = omega arith;
      cd = omega arith;
      same_x = omega arith;
      same_y = omega arith;
    })))

-- ---- the lines cross

-- the doubled area of a b c is above that of a b d
pub crossing : (a b c d : Point) → pos 0 ≤ℤ area a b c → area a b d ≤ℤ pos 0 → area c d a ≤ℤ pos 0 → pos 0 ≤ℤ area c d b
    → area a b d <ℤ area a b c → Common a b c d
unfolding area
crossing a b c d h₁ h₂ h₃ h₄ h =
    record {
      j = J.0;
      i = I.0;
      l = L.0;
      k = K.0;
      ab = pos-<-back (subst (λ (z : ℤ). pos 0 <ℤ z) (sym ab_is) (above _ _ h));
      cd = pos-<-back (subst (λ (z : ℤ). pos 0 <ℤ z) (sym cd_is) (above _ _ h));
      same_x = pos_injective ((λ t. (L.1 t +ℤ K.1 t) *ℤ (J.1 t *ℤ pos a.x +ℤ I.1 t *ℤ pos b.x))
          ∙ solve₄ (λ ax ay bx by cx cy dx dy.
          (⊝ area_e ax ay bx by dx dy ⊕ area_e ax ay bx by cx cy)
          ⊗ (area_e cx cy dx dy bx by ⊗ ax ⊕ (⊝ area_e cx cy dx dy ax ay) ⊗ bx)
          ≐ (area_e cx cy dx dy bx by ⊕ ⊝ area_e cx cy dx dy ax ay)
          ⊗ ((⊝ area_e ax ay bx by dx dy) ⊗ cx ⊕ area_e ax ay bx by cx cy ⊗ dx)) tt a b c d
          ∙ sym (λ t. (J.1 t +ℤ I.1 t) *ℤ (L.1 t *ℤ pos c.x +ℤ K.1 t *ℤ pos d.x)));
      same_y = pos_injective ((λ t. (L.1 t +ℤ K.1 t) *ℤ (J.1 t *ℤ pos a.y +ℤ I.1 t *ℤ pos b.y))
          ∙ solve₄ (λ ax ay bx by cx cy dx dy.
          (⊝ area_e ax ay bx by dx dy ⊕ area_e ax ay bx by cx cy)
          ⊗ (area_e cx cy dx dy bx by ⊗ ay ⊕ (⊝ area_e cx cy dx dy ax ay) ⊗ by)
          ≐ (area_e cx cy dx dy bx by ⊕ ⊝ area_e cx cy dx dy ax ay)
          ⊗ ((⊝ area_e ax ay bx by dx dy) ⊗ cy ⊕ area_e ax ay bx by cx cy ⊗ dy)) tt a b c d
          ∙ sym (λ t. (J.1 t +ℤ I.1 t) *ℤ (L.1 t *ℤ pos c.y +ℤ K.1 t *ℤ pos d.y)));
    }
  where
    nonneg : (z : ℤ) → z ≤ℤ pos 0 → pos 0 ≤ℤ neg_ℤ z
    nonneg = linear 1 (λ z. z ≼ con (pos 0) ⇒ con (pos 0) ≼ ⊝ z) (omega arith)

    above : (s t : ℤ) → s <ℤ t → pos 0 <ℤ (t -ℤ s)
    above = linear 2 (λ s t. s ≺ t ⇒ con (pos 0) ≺ t ⊖ s) (omega arith)

    J : (n : ℕ) × (pos n ≡ area c d b)
    J = natural (area c d b) h₄

    I : (n : ℕ) × (pos n ≡ neg_ℤ (area c d a))
    I = natural (neg_ℤ (area c d a)) (nonneg (area c d a) h₃)

    L : (n : ℕ) × (pos n ≡ neg_ℤ (area a b d))
    L = natural (neg_ℤ (area a b d)) (nonneg (area a b d) h₂)

    K : (n : ℕ) × (pos n ≡ area a b c)
    K = natural (area a b c) h₁

    cd_is : pos (L.0 + K.0) ≡ area a b c -ℤ area a b d
    cd_is = (λ t. L.1 t +ℤ K.1 t) ∙ solve 2 (λ s t. ⊝ s ⊕ t ≐ t ⊖ s) tt (area a b d) (area a b c)

    ab_is : pos (J.0 + I.0) ≡ area a b c -ℤ area a b d
    ab_is = (λ t. J.1 t +ℤ I.1 t)
        ∙ solve₄ (λ ax ay bx by cx cy dx dy. area_e cx cy dx dy bx by ⊕ ⊝ area_e cx cy dx dy ax ay
        ≐ area_e ax ay bx by cx cy ⊖ area_e ax ay bx by dx dy) tt a b c d

-- ---- from the test

-- two numbers that are not both positive and not both negative
record Apart (s t : ℤ) : Type 0 where
  up : pos 0 <ℤ s → pos 0 <ℤ t → ⊥
  down : s <ℤ pos 0 → t <ℤ pos 0 → ⊥

apart_is : (s t : ℤ) → apart (turn_of (sgn s)) (turn_of (sgn t)) ≡ true → Apart s t
apart_is s t e =
    record {
      up = λ p q. false≢true (sym (λ i. apart (turn_of (sgn_positive s p i)) (turn_of (sgn_positive t q i))) ∙ e);
      down = λ p q. false≢true (sym (λ i. apart (turn_of (sgn_negative s p i)) (turn_of (sgn_negative t q i))) ∙ e);
    }

apart_sym : {s t : ℤ} → Apart s t → Apart t s
apart_sym h = record { up = λ p q. h.up q p; down = λ p q. h.down q p }

-- 0 lies between them
between : (s t : ℤ) → Apart s t → t <ℤ s → (pos 0 ≤ℤ s) × (t ≤ℤ pos 0)
between s t h lt = (low (≤-or-> (pos 0) s), high (≤-or-> t (pos 0)))
  where
    low : (pos 0 ≤ℤ s) ⊎ (s <ℤ pos 0) → pos 0 ≤ℤ s
    low (inl p) = p
    low (inr p) =
        absurd (h.down p (linear 2 (λ s t. s ≺ con (pos 0) ⇒ t ≺ s ⇒ t ≺ con (pos 0)) (omega arith) s t p lt))

    high : (t ≤ℤ pos 0) ⊎ (pos 0 <ℤ t) → t ≤ℤ pos 0
    high (inl p) = p
    high (inr p) = absurd (h.up (linear 2 (λ s t. con (pos 0) ≺ t ⇒ t ≺ s ⇒ con (pos 0) ≺ s) (omega arith) s t p lt) p)

-- equal numbers that are apart are 0
apart-same : (s t : ℤ) → Apart s t → s ≡ t → s ≡ pos 0
apart-same s t h e = ≤-antisym s (pos 0) (high (≤-or-> s (pos 0))) (low (≤-or-> (pos 0) s))
  where
    low : (pos 0 ≤ℤ s) ⊎ (s <ℤ pos 0) → pos 0 ≤ℤ s
    low (inl p) = p
    low (inr p) = absurd (h.down p (subst (λ (z : ℤ). z <ℤ pos 0) e p))

    high : (s ≤ℤ pos 0) ⊎ (pos 0 <ℤ s) → s ≤ℤ pos 0
    high (inl p) = p
    high (inr p) = absurd (h.up p (subst (λ (z : ℤ). pos 0 <ℤ z) e p))

pub areas : (a b c d : Point) → area c d b -ℤ area c d a ≡ area a b c -ℤ area a b d
unfolding area
areas a b c d =
    solve₄ (λ ax ay bx by cx cy dx dy. area_e cx cy dx dy bx by ⊖ area_e cx cy dx dy ax ay ≐ area_e ax ay bx by cx cy
    ⊖ area_e ax ay bx by dx dy) tt a b c d

-- the second segment's ends exchanged
pub common_turned : (a b c d : Point) → Common a b d c → Common a b c d
common_turned a b c d s =
    record {
      j = s.j;
      i = s.i;
      l = s.k;
      k = s.l;
      ab = s.ab;
      cd = rw (add_comm s.k s.l) s.cd;
      same_x = rw (add_comm s.k s.l, add_comm (s.k * c.x) (s.l * d.x)) s.same_x;
      same_y = rw (add_comm s.k s.l, add_comm (s.k * c.y) (s.l * d.y)) s.same_y;
    }

-- the test's four parts
module _ (a b c d : Point) (fx : Found a.x b.x c.x d.x) (fy : Found a.y b.y c.y d.y)
    (ab : Apart (area a b c) (area a b d)) (cd : Apart (area c d a) (area c d b)) where
  down-case : area a b d <ℤ area a b c → Common a b c d
  down-case h =
      let k : area c d a <ℤ area c d b =
      linear 4 (λ s t u v. v ⊖ u ≗ s ⊖ t ⇒ t ≺ s ⇒ u ≺ v) (omega arith) (area a b c) (area a b d) (area c d a)
      (area c d b) (areas a b c d) h in
      let p = between (area a b c) (area a b d) ab h in
      let q = between (area c d b) (area c d a) (apart_sym cd) k in
      crossing a b c d p.0 p.1 q.1 q.0 h

  up-case : area a b c <ℤ area a b d → Common a b c d
  up-case h =
      let k : area c d b <ℤ area c d a =
      linear 4 (λ s t u v. v ⊖ u ≗ s ⊖ t ⇒ s ≺ t ⇒ v ≺ u) (omega arith) (area a b c) (area a b d) (area c d a)
      (area c d b) (areas a b c d) h in
      let p = between (area a b d) (area a b c) (apart_sym ab) h in
      let q = between (area c d a) (area c d b) cd k in
      common_turned a b c d (crossing a b d c p.0 p.1
      (subst (λ (z : ℤ). z ≤ℤ pos 0) (sym (area_swap c d a))
      (linear 1 (λ z. con (pos 0) ≼ z ⇒ ⊝ z ≼ con (pos 0)) (omega arith) (area c d a) q.0))
      (subst (λ (z : ℤ). pos 0 ≤ℤ z) (sym (area_swap c d b))
      (linear 1 (λ z. z ≼ con (pos 0) ⇒ con (pos 0) ≼ ⊝ z) (omega arith) (area c d b) q.1)) h)

  line-case : area a b c ≡ area a b d → Common a b c d
  line-case e =
      let f : area c d a ≡ area c d b =
      linear 4 (λ s t u v. v ⊖ u ≗ s ⊖ t ⇒ s ≗ t ⇒ u ≗ v) (omega arith) (area a b c) (area a b d) (area c d a)
      (area c d b) (areas a b c d) e in
      let z : area c d a ≡ pos 0 = apart-same (area c d a) (area c d b) cd f in
      collinear a b c d (record { abc = apart-same (area a b c) (area a b d) ab e; cda = z; cdb = sym f ∙ z }) fx fy

  passes_common : Common a b c d
  passes_common = go (≤-or-> (area a b c) (area a b d)) (≤-or-> (area a b d) (area a b c))
    where
      go : (area a b c ≤ℤ area a b d) ⊎ (area a b d <ℤ area a b c)
          → (area a b d ≤ℤ area a b c) ⊎ (area a b c <ℤ area a b d) → Common a b c d
      go (inl p) (inl q) = line-case (≤-antisym _ _ p q)
      go (inl p) (inr q) = up-case q
      go (inr p) q = down-case p

overlap_found : (a b c d : ℕ) → overlap a b c d ≡ true → Found a b c d
unfolding overlap
overlap_found a b c d e =
    let h = and-true (leb (min a b) (max c d)) (leb (min c d) (max a b)) e in
    find a b c d (leb-true (min a b) (max c d) h.0) (leb-true (min c d) (max a b) h.1)

straddle-apart : (a b c d : Point) → straddle a b c d ≡ true → Apart (area a b c) (area a b d)
unfolding straddle turn
straddle-apart a b c d e = apart_is (area a b c) (area a b d) e

pub complete : (a b c d : Point) → meets a b c d ≡ true → Common a b c d
unfolding meets
complete a b c d e =
    let h = and-true _ _ e in
    let k = and-true _ _ h.1 in
    let m = and-true _ _ k.1 in
    passes_common a b c d (overlap_found _ _ _ _ h.0) (overlap_found _ _ _ _ k.0) (straddle-apart a b c d m.0)
    (straddle-apart c d a b m.1)
