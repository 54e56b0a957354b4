-- Counterclockwise order is a strict order, total up to `Alike`, which it respects: by class, and within a class by the
-- sign of the cross product. Assumes nothing.
use mathlib.Core.Path.{◌≡◌, refl, sym, ap, ap₂, ◌∙◌, subst}
use mathlib.Core.Logic.{◌⊎◌, inl, inr}
use mathlib.Core.Bool.{Bool, true, cond, not, true≢false, false≢true, and-eq-true_iff}
use Prim.Native.Nat.{ℕ, ◌≤◌, ◌<◌}
use native.Mathlib.Omega.{arith}
use lib.Dec.{T, eqb, ltb, leb, ltb→lt, lt→ltb, nltb→le}
use lib.IntN.{ℤ, pos, neg_ℤ, ◌+ℤ◌, ◌-ℤ◌, ◌*ℤ◌}
use Rattle.lists.specs.Tests.{same}
use Rattle.lists.proofs.Bools.{which, T→≡, ≡→T, same_true, same_eq, or-true, or_right}
use Rattle.integers.specs.Solver.{con, ⊝◌, ◌⊕◌, ◌⊖◌, ◌⊗◌, ◌≐◌, solve}
use Rattle.integers.specs.Linear.{linear, ◌≺◌, ◌≗◌, ◌⇒◌}
use Rattle.integers.specs.Order.{Sign, negative, null, positive, sgn, opposite, product, sgn_neg, signed, sgn_is, sgn-*}
use Rattle.plane.specs.Areas.{is_null, is_positive}
use Rattle.plane.specs.Directions.{Way, classes, class, cross, before, same_way}
use Rattle.rotation.specs.Ways.{Before, Alike, Met, first, alike, last}

-- ---- the test and the fact

positive_is : (s : Sign) → is_positive s ≡ true → s ≡ positive
positive_is negative e = absurd (false≢true e)
positive_is null e = absurd (false≢true e)
positive_is positive e = refl

null_is : (s : Sign) → is_null s ≡ true → s ≡ null
null_is negative e = absurd (false≢true e)
null_is null e = refl
null_is positive e = absurd (false≢true e)

pub before_says : (a b : Way) → before a b ≡ true → Before a b
unfolding before
before_says a b e = elim (or-true (ltb (class a) (class b)) _ e) [
  | inl q ↦ inl (ltb→lt (class a) (class b) (≡→T _ q))
  | inr q ↦ let k = (and-eq-true_iff (same (class a) (class b)) _).0 q in
      inr (same_true (class a) (class b) k.0, positive_is (sgn (cross a b)) k.1)
]

pub before_is : (a b : Way) → Before a b → before a b ≡ true
unfolding before
before_is a b (inl h) = rw (T→≡ (ltb (class a) (class b)) (lt→ltb (class a) (class b) h))
before_is a b (inr h) = or_right (ltb (class a) (class b)) _ (rw (same_eq (class a) (class b) h.0, h.1))

pub alike_says : (a b : Way) → same_way a b ≡ true → Alike a b
unfolding same_way
alike_says a b e = let k = (and-eq-true_iff (same (class a) (class b)) _).0 e in
    record { one_class = same_true (class a) (class b) k.0; one_line = null_is (sgn (cross a b)) k.1 }

pub alike_is : (a b : Way) → Alike a b → same_way a b ≡ true
unfolding same_way
alike_is a b h = rw (same_eq (class a) (class b) h.one_class, h.one_line)

-- ---- signs of sums

data Sum : Sign → Sign → Sign → Type 0 where
  left : {s : Sign} → Sum s null s
  right : {s : Sign} → Sum null s s
  both : {s : Sign} → Sum s s s

sum_both : (s : Sign) (u w : ℤ) → sgn u ≡ s → sgn w ≡ s → sgn (u +ℤ w) ≡ s
sum_both negative u w p q = sgn_is negative (u +ℤ w)
    (linear 2 (λ u w. u ≺ con (pos 0) ⇒ w ≺ con (pos 0) ⇒ u ⊕ w ≺ con (pos 0)) (omega arith) u w (signed negative u p)
    (signed negative w q))
sum_both null u w p q = sgn_is null (u +ℤ w)
    (linear 2 (λ u w. u ≗ con (pos 0) ⇒ w ≗ con (pos 0) ⇒ u ⊕ w ≗ con (pos 0)) (omega arith) u w (signed null u p)
    (signed null w q))
sum_both positive u w p q = sgn_is positive (u +ℤ w)
    (linear 2 (λ u w. con (pos 0) ≺ u ⇒ con (pos 0) ≺ w ⇒ con (pos 0) ≺ u ⊕ w) (omega arith) u w (signed positive u p)
    (signed positive w q))

sum_sign : {a b c : Sign} (u w : ℤ) → Sum a b c → sgn u ≡ a → sgn w ≡ b → sgn (u +ℤ w) ≡ c
sum_sign u w left p q = ap sgn (linear 2 (λ u w. w ≗ con (pos 0) ⇒ u ⊕ w ≗ u) (omega arith) u w (signed null w q)) ∙ p
sum_sign u w right p q = ap sgn (linear 2 (λ u w. u ≗ con (pos 0) ⇒ u ⊕ w ≗ w) (omega arith) u w (signed null u p)) ∙ q
sum_sign {a} u w both p q = sum_both a u w p q

scaled : (s : Sign) {a b c : Sign} → Sum a b c → Sum (product s a) (product s b) (product s c)
scaled negative left = left
scaled negative right = right
scaled negative both = both
scaled null m = both
scaled positive m = m

-- ---- within a class

-- a class tells the sign of dx
side : ℕ → Sign
side n = cond (leb n 1) positive (cond (eqb n 2) null (cond (leb n 5) negative (cond (eqb n 7) positive null)))

side_classes : (s t : Sign) → side (classes s t) ≡ s
unfolding side
side_classes negative negative = refl
side_classes negative null = refl
side_classes negative positive = refl
side_classes null negative = refl
side_classes null null = refl
side_classes null positive = refl
side_classes positive negative = refl
side_classes positive null = refl
side_classes positive positive = refl

one_side : (a b : Way) → class a ≡ class b → sgn a.dx ≡ sgn b.dx
unfolding class
one_side a b e = sym (side_classes _ (sgn a.dy)) ∙ ap side e ∙ side_classes _ (sgn b.dy)

pub cross_swap : (a b : Way) → cross b a ≡ neg_ℤ (cross a b)
unfolding cross
cross_swap a b = solve 4 (λ ax ay bx by. bx ⊗ ay ⊖ by ⊗ ax ≐ ⊝ (ax ⊗ by ⊖ ay ⊗ bx)) tt a.dx a.dy b.dx b.dy

pub cross_self : (a : Way) → cross a a ≡ pos 0
unfolding cross
cross_self a = solve 2 (λ ax ay. ax ⊗ ay ⊖ ay ⊗ ax ≐ con (pos 0)) tt a.dx a.dy

three : (a b c : Way) → b.dx *ℤ cross a c ≡ c.dx *ℤ cross a b +ℤ a.dx *ℤ cross b c
unfolding cross
three a b c = solve 6 (λ ax ay bx by cx cy. bx ⊗ (ax ⊗ cy ⊖ ay ⊗ cx) ≐ cx ⊗ (ax ⊗ by ⊖ ay ⊗ bx) ⊕ ax ⊗
    (bx ⊗ cy ⊖ by ⊗ cx)) tt a.dx a.dy b.dx b.dy c.dx c.dy

upright : (a b : Way) → sgn a.dx ≡ null → sgn b.dx ≡ null → sgn (cross a b) ≡ null
unfolding cross
upright a b p q = ap sgn (ap₂ (λ (x y : ℤ). x *ℤ b.dy -ℤ a.dy *ℤ y) (signed null a.dx p) (signed null b.dx q)
    ∙ solve 2 (λ ay by. con (pos 0) ⊗ by ⊖ ay ⊗ con (pos 0) ≐ con (pos 0)) tt a.dy b.dy)

cancel : (s t u : Sign) → ((s ≡ null) → ⊥) → product s t ≡ product s u → t ≡ u
cancel negative t u n e = opp t ∙ ap opposite e ∙ sym (opp u)
  where
    opp : (t : Sign) → t ≡ opposite (opposite t)
    opp negative = refl
    opp null = refl
    opp positive = refl
cancel null t u n e = absurd (n refl)
cancel positive t u n e = e

null? : (s : Sign) → (s ≡ null) ⊎ ((s ≡ null) → ⊥)
null? negative = inr (λ e. false≢true (ap is_null e))
null? null = inl refl
null? positive = inr (λ e. true≢false (ap is_positive e))

null_sum : (a b c : Sign) → Sum a b c → a ≡ null → b ≡ null → c ≡ null
null_sum a b c left p q = p
null_sum a b c right p q = q
null_sum a b c both p q = p

-- three directions of one side: the turn from the first to the last is the sum of the two
turns : (a b c : Way) {s t u : Sign} → sgn a.dx ≡ sgn b.dx → sgn b.dx ≡ sgn c.dx → Sum s t u
    → sgn (cross a b) ≡ s → sgn (cross b c) ≡ t → sgn (cross a c) ≡ u
turns a b c {s} {t} {u} ab bc m p q = elim (null? (sgn b.dx)) [
  | inl e ↦ upright a c (ab ∙ e) (sym bc ∙ e)
      ∙ sym (null_sum s t u m (sym p ∙ upright a b (ab ∙ e) e) (sym q ∙ upright b c e (sym bc ∙ e)))
  | inr n ↦ cancel (sgn b.dx) (sgn (cross a c)) u n (sym (sgn-* b.dx (cross a c)) ∙ ap sgn (three a b c)
      ∙ sum_sign (c.dx *ℤ cross a b) (a.dx *ℤ cross b c) (scaled (sgn b.dx) m)
      (sgn-* c.dx (cross a b) ∙ ap₂ product (sym bc) p) (sgn-* a.dx (cross b c) ∙ ap₂ product ab q))
]

-- ---- the order

pub before_irrefl : (a : Way) → Before a a → ⊥
before_irrefl a (inl h) = omega arith
before_irrefl a (inr h) = true≢false (ap is_positive (sym h.1 ∙ ap sgn (cross_self a)))

pub before_trans : (a b c : Way) → Before a b → Before b c → Before a c
before_trans a b c (inl h) (inl k) = inl (omega arith)
before_trans a b c (inl h) (inr k) = inl (omega arith)
before_trans a b c (inr h) (inl k) = inl (omega arith)
before_trans a b c (inr h) (inr k) = inr
    (h.0 ∙ k.0, turns a b c (one_side a b h.0) (one_side b c k.0) both h.1 k.1)

-- of two directions one comes first, or they are alike
pub met : (a b : Way) → Met a b
met a b = elim (order (class a) (class b)) [
  | inl h ↦ first (inl h)
  | inr (inl h) ↦ last (inl h)
  | inr (inr e) ↦ go (sgn (cross a b)) refl e
]
  where
    order : (m n : ℕ) → (m < n) ⊎ ((n < m) ⊎ (m ≡ n))
    order m n = elim (which (ltb m n)) [
      | inl p ↦ inl (ltb→lt m n (≡→T _ p))
      | inr p ↦ elim (which (ltb n m)) [
        | inl q ↦ inr (inl (ltb→lt n m (≡→T _ q)))
        | inr q ↦ let h : n ≤ m = nltb→le m n (subst (λ (b : Bool). T (not b)) (sym p) tt) in let k : m ≤ n =
            nltb→le n m (subst (λ (b : Bool). T (not b)) (sym q) tt) in inr (inr (omega arith))
      ]
    ]

    go : (s : Sign) → sgn (cross a b) ≡ s → class a ≡ class b → Met a b
    go negative p e = last (inr (sym e, ap sgn (cross_swap a b) ∙ sgn_neg (cross a b) ∙ ap opposite p))
    go null p e = alike (record { one_class = e; one_line = p })
    go positive p e = first (inr (e, p))

-- alike directions come before and after the same ones
pub alike_sym : (a b : Way) → Alike a b → Alike b a
alike_sym a b h = record {
  one_class = sym h.one_class;
  one_line = ap sgn (cross_swap a b) ∙ sgn_neg (cross a b)
      ∙ ap opposite h.one_line;
}

pub alike_trans : (a b c : Way) → Alike a b → Alike b c → Alike a c
alike_trans a b c h k = record {
  one_class = h.one_class ∙ k.one_class;
  one_line = turns a b c (one_side a b h.one_class) (one_side b c k.one_class) both h.one_line k.one_line;
}

pub alike_before : (a b c : Way) → Alike a b → Before b c → Before a c
alike_before a b c h (inl k) = let e : class a ≡ class b = h.one_class in inl (omega arith)
alike_before a b c h (inr k) = inr (
  h.one_class
      ∙ k.0,
  turns a b c (one_side a b h.one_class) (one_side b c k.0) right h.one_line k.1,
)

pub before_alike : (a b c : Way) → Before a b → Alike b c → Before a c
before_alike a b c (inl k) h = let e : class b ≡ class c = h.one_class in inl (omega arith)
before_alike a b c (inr k) h = inr (
  k.0
      ∙ h.one_class,
  turns a b c (one_side a b k.0) (one_side b c h.one_class) left k.1 h.one_line,
)
