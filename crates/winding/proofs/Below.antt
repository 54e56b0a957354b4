-- What a segment passes below: the tests along x, and the signed count as a segment less its reverse. Assumes nothing.
use mathlib.Core.Path.{◌≡◌, refl, sym, ap, ◌∙◌}
use mathlib.Core.Bool.{Bool, true, false, cond, ◌&&◌}
use mathlib.Core.Logic.{◌⊎◌, inl, inr}
use Prim.Native.Nat.{zero, suc, ◌≤◌, ◌<◌}
use native.Mathlib.Decide.{dec_le}
use native.Mathlib.Omega.{arith}
use borrow.Author.Tests.{lt-ltb, le-ltb, le-leb, lt-leb}
use lib.Dec.{leb, ltb}
use lib.IntN.{ℤ, pos, negsuc, neg_ℤ, ◌-ℤ◌}
use lib.Signed.{◌≤ℤ◌, ◌<ℤ◌}
use Rattle.integers.specs.Solver.{con, ⊝◌, ◌⊖◌, ◌≐◌, solve}
use Rattle.integers.specs.Order.{sgn, sgn_positive, sgn_says, ≤-or->, ≤-<-clash}
use Rattle.lists.proofs.Bools.{&&-false, eq2}
use Rattle.plane.specs.declared.Point.{Point}
use Rattle.plane.specs.Areas.{area, is_positive}
use Rattle.plane.specs.Below.{Segment, is_below, ordered, passes_below}
use Rattle.geometry.proofs.Complete.{area_swap}
use Rattle.winding.specs.Winding.{one, signed_below, below_segment}

-- from a to b
abbrev pub seg : Point → Point → Segment
seg a b = record { from = a; to = b }

-- ---- the tests along x

module _ (p a b : Point) where
  pub below_in : a.x ≤ p.x → p.x < b.x → is_below p (seg a b) ≡ is_positive (sgn (area a b p))
  below_in h k = rw (le-leb a.x p.x h, lt-ltb p.x b.x k)

  pub below_left : p.x < a.x → is_below p (seg a b) ≡ false
  below_left h = rw (lt-leb a.x p.x h)

  pub below_right : b.x ≤ p.x → is_below p (seg a b) ≡ false
  below_right h = rw (le-ltb p.x b.x h, &&-false (leb a.x p.x))

module _ (p q v : Point) where
  pub under_in : p.x < v.x → v.x ≤ q.x → below_segment p q v ≡ is_positive (sgn (area q p v))
  unfolding below_segment
  under_in h k = rw (lt-ltb p.x v.x h, le-leb v.x q.x k)

  pub under_left : v.x ≤ p.x → below_segment p q v ≡ false
  unfolding below_segment
  under_left h = rw (le-ltb p.x v.x h)

  pub under_right : q.x < v.x → below_segment p q v ≡ false
  unfolding below_segment
  under_right h = rw (lt-leb v.x q.x h, &&-false (ltb p.x v.x))

-- ---- signed: a segment less its reverse

-- it passes below nothing where it runs back
pub not_back_lem : (p a b : Point) → b.x ≤ a.x → is_below p (seg a b) ≡ false
not_back_lem p a b h =
    elim (dec_le a.x p.x) [ yes k ↦ below_right p a b (omega arith) | no k ↦ below_left p a b (omega arith) ]

forth : (b : Bool) → cond b (pos 1) (pos 0) ≡ one b -ℤ one false
forth true = refl
forth false = refl

back : (b : Bool) → cond b (negsuc 0) (pos 0) ≡ one false -ℤ one b
back true = refl
back false = refl

pub signed_is : (p a b : Point) → signed_below p (seg a b) ≡ one (is_below p (seg a b)) -ℤ one (is_below p (seg b a))
unfolding signed_below passes_below
signed_is p a b = go (dec_le a.x b.x) (dec_le b.x a.x)
  where
    go : Dec (a.x ≤ b.x) → Dec (b.x ≤ a.x)
        → cond (is_below p (ordered (seg a b))) (cond (ltb a.x b.x) (pos 1) (negsuc 0)) (pos 0)
        ≡ one (is_below p (seg a b)) -ℤ one (is_below p (seg b a))
    go (yes h) (yes k) =
        (λ i. cond (is_below p (cond (le-leb a.x b.x h i) (seg a b) (seg b a)))
        (cond (ltb a.x b.x) (pos 1) (negsuc 0)) (pos 0))
        ∙ (λ i. cond (not_back_lem p a b k i) (cond (ltb a.x b.x) (pos 1) (negsuc 0)) (pos 0))
        ∙ sym (λ i. one (not_back_lem p a b k i) -ℤ one (not_back_lem p b a h i))
    go (yes h) (no k) =
        (λ i. cond (is_below p (cond (le-leb a.x b.x h i) (seg a b) (seg b a)))
        (cond (lt-ltb a.x b.x (omega arith) i) (pos 1) (negsuc 0)) (pos 0))
        ∙ forth (is_below p (seg a b))
        ∙ sym (λ i. one (is_below p (seg a b)) -ℤ one (not_back_lem p b a h i))
    go (no h) k =
        (λ i. cond (is_below p (cond (lt-leb a.x b.x (omega arith) i) (seg a b) (seg b a)))
        (cond (le-ltb a.x b.x (omega arith) i) (pos 1) (negsuc 0)) (pos 0))
        ∙ back (is_below p (seg b a))
        ∙ sym (λ i. one (not_back_lem p a b (omega arith) i) -ℤ one (is_below p (seg b a)))

-- the reverse
pub signed-reverse : (p a b : Point) → signed_below p (seg b a) ≡ neg_ℤ (signed_below p (seg a b))
signed-reverse p a b = signed_is p b a ∙ solve 2 (λ s t. s ⊖ t ≐ ⊝ (t ⊖ s)) tt (one (is_below p (seg b a)))
    (one (is_below p (seg a b))) ∙ ap neg_ℤ (sym (signed_is p a b))

pub signed_forth : (p a b : Point) → a.x ≤ b.x → signed_below p (seg a b) ≡ one (is_below p (seg a b))
signed_forth p a b h = signed_is p a b ∙ (λ i. one (is_below p (seg a b)) -ℤ one (not_back_lem p b a h i))
    ∙ solve 1 (λ s. s ⊖ con (pos 0) ≐ s) tt (one (is_below p (seg a b)))

pub signed_back : (p a b : Point) → b.x ≤ a.x → signed_below p (seg a b) ≡ neg_ℤ (one (is_below p (seg b a)))
signed_back p a b h = signed-reverse p b a ∙ ap neg_ℤ (signed_forth p b a h)

-- a difference of tests, by what they are
pub by_tests : {b₁ b₂ b₃ b₄ c₁ c₂ c₃ c₄ : Bool} → b₁ ≡ c₁ → b₂ ≡ c₂ → b₃ ≡ c₃ → b₄ ≡ c₄
    → one c₁ -ℤ one c₂ ≡ one c₃ -ℤ one c₄ → one b₁ -ℤ one b₂ ≡ one b₃ -ℤ one b₄
by_tests e₁ e₂ e₃ e₄ e = (λ i. one (e₁ i) -ℤ one (e₂ i)) ∙ e ∙ sym (λ i. one (e₃ i) -ℤ one (e₄ i))

-- ---- signs that agree

pub not_positive : (z : ℤ) → z ≤ℤ pos 0 → is_positive (sgn z) ≡ false
not_positive (pos zero) h = refl
not_positive (pos (suc n)) h = absurd (≤-<-clash (pos (suc n)) (pos 0) h (sgn_says (pos (suc n))))
not_positive (negsuc n) h = refl

pub is_positive_lem : (z : ℤ) → pos 0 <ℤ z → is_positive (sgn z) ≡ true
is_positive_lem z h = ap is_positive (sgn_positive z h)

pub same_sign : (u v : ℤ) → (pos 0 <ℤ u → v ≤ℤ pos 0 → ⊥) → (u ≤ℤ pos 0 → pos 0 <ℤ v → ⊥)
    → is_positive (sgn u) ≡ is_positive (sgn v)
same_sign u v f g = go (≤-or-> u (pos 0)) (≤-or-> v (pos 0))
  where
    go : (u ≤ℤ pos 0) ⊎ (pos 0 <ℤ u) → (v ≤ℤ pos 0) ⊎ (pos 0 <ℤ v) → is_positive (sgn u) ≡ is_positive (sgn v)
    go (inl h) (inl k) = not_positive u h ∙ sym (not_positive v k)
    go (inl h) (inr k) = absurd (g h k)
    go (inr h) (inl k) = absurd (f h k)
    go (inr h) (inr k) = is_positive_lem u h ∙ sym (is_positive_lem v k)

-- ---- nothing

-- it passes below no point of its line
pub signed_flat : (p a b : Point) → area a b p ≡ pos 0 → signed_below p (seg a b) ≡ pos 0
signed_flat p a b e = signed_is p a b ∙ (λ i. one (flat a b e i) -ℤ one (flat b a (area_swap a b p ∙ ap neg_ℤ e) i))
  where
    flat : (c d : Point) → area c d p ≡ pos 0 → is_below p (seg c d) ≡ false
    flat c d f = ap (λ (z : ℤ). leb c.x p.x && ltb p.x d.x && is_positive (sgn z)) f
        ∙ eq2 (λ s t. s && t && false) (λ s t. false) tt (leb c.x p.x) (ltb p.x d.x)

pub under_flat : (p q v : Point) → area p q v ≡ pos 0 → below_segment p q v ≡ false
unfolding below_segment
under_flat p q v e = ap (λ (z : ℤ). ltb p.x v.x && leb v.x q.x && is_positive (sgn z))
    (area_swap p q v ∙ ap neg_ℤ e) ∙ eq2 (λ s t. s && t && false) (λ s t. false) tt (ltb p.x v.x)
    (leb v.x q.x)

-- nor does one that stands upright
pub signed_upright : (p a b : Point) → a.x ≡ b.x → signed_below p (seg a b) ≡ pos 0
signed_upright p a b e =
    signed_is p a b ∙ (λ i. one (not_back_lem p a b (omega arith) i) -ℤ one (not_back_lem p b a (omega arith) i))
