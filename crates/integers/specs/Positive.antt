-- Sums and products of integers by their signs. Assumes nothing.
use Rattle.std.specs.Prelude.{◌≡◌, ℤ, pos, neg_ℤ, ◌+ℤ◌, ◌*ℤ◌, ◌≤ℤ◌, ◌<ℤ◌}
use Rattle.std.proofs.Common.{sym, ap, ◌∙◌, inl, inr, arith}
use Rattle.integers.specs.Solver.{con, ⊝◌, ◌⊕◌}
use Rattle.integers.specs.Linear.{linear, ◌≼◌, ◌≺◌, ◌⇒◌}
use Rattle.integers.specs.Order.{≤-<-clash, ≤-or->, *-pos, Sign, positive, sgn, product, signed, sgn_positive}
use Rattle.integers.specs.Order.{sgn-*}

-- ---- sums

pub add_nonneg : (a b : ℤ) → pos 0 ≤ℤ a → pos 0 ≤ℤ b → pos 0 ≤ℤ (a +ℤ b)
add_nonneg = linear 2 (λ a b. con (pos 0) ≼ a ⇒ con (pos 0) ≼ b ⇒ con (pos 0) ≼ a ⊕ b) (omega arith)

pub add-pos-left : (a b : ℤ) → pos 0 <ℤ a → pos 0 ≤ℤ b → pos 0 <ℤ (a +ℤ b)
add-pos-left = linear 2 (λ a b. con (pos 0) ≺ a ⇒ con (pos 0) ≼ b ⇒ con (pos 0) ≺ a ⊕ b) (omega arith)

pub add_pos_right : (a b : ℤ) → pos 0 ≤ℤ a → pos 0 <ℤ b → pos 0 <ℤ (a +ℤ b)
add_pos_right = linear 2 (λ a b. con (pos 0) ≼ a ⇒ con (pos 0) ≺ b ⇒ con (pos 0) ≺ a ⊕ b) (omega arith)

pub add_neg_left : (a b : ℤ) → a <ℤ pos 0 → b ≤ℤ pos 0 → (a +ℤ b) <ℤ pos 0
add_neg_left = linear 2 (λ a b. a ≺ con (pos 0) ⇒ b ≼ con (pos 0) ⇒ a ⊕ b ≺ con (pos 0)) (omega arith)

pub add_neg_right : (a b : ℤ) → a ≤ℤ pos 0 → b <ℤ pos 0 → (a +ℤ b) <ℤ pos 0
add_neg_right = linear 2 (λ a b. a ≼ con (pos 0) ⇒ b ≺ con (pos 0) ⇒ a ⊕ b ≺ con (pos 0)) (omega arith)

pub add_mono : (a b c d : ℤ) → a ≤ℤ b → c ≤ℤ d → (a +ℤ c) ≤ℤ (b +ℤ d)
add_mono = linear 4 (λ a b c d. a ≼ b ⇒ c ≼ d ⇒ a ⊕ c ≼ b ⊕ d) (omega arith)

-- ---- negated

pub neg_nonneg : (a : ℤ) → a ≤ℤ pos 0 → pos 0 ≤ℤ neg_ℤ a
neg_nonneg = linear 1 (λ a. a ≼ con (pos 0) ⇒ con (pos 0) ≼ ⊝ a) (omega arith)

pub neg_nonpos : (a : ℤ) → pos 0 ≤ℤ a → neg_ℤ a ≤ℤ pos 0
neg_nonpos = linear 1 (λ a. con (pos 0) ≼ a ⇒ ⊝ a ≼ con (pos 0)) (omega arith)

pub nonneg_neg : (a : ℤ) → pos 0 ≤ℤ neg_ℤ a → a ≤ℤ pos 0
nonneg_neg = linear 1 (λ a. con (pos 0) ≼ ⊝ a ⇒ a ≼ con (pos 0)) (omega arith)

pub pos_neg : (a : ℤ) → pos 0 <ℤ a → neg_ℤ a <ℤ pos 0
pos_neg = linear 1 (λ a. con (pos 0) ≺ a ⇒ ⊝ a ≺ con (pos 0)) (omega arith)

-- ---- a product with a positive factor has the other factor's sign

module _ (n a : ℤ) (h : pos 0 <ℤ n) where
  pub sgn_scaled : sgn (n *ℤ a) ≡ sgn a
  sgn_scaled = sgn-* n a ∙ ap (λ (s : Sign). product s (sgn a)) (sgn_positive n h)

  pub *-pos-cancel-< : pos 0 <ℤ (n *ℤ a) → pos 0 <ℤ a
  *-pos-cancel-< k = signed positive a (sym sgn_scaled ∙ sgn_positive (n *ℤ a) k)

  pub *-nonpos-cancel : (n *ℤ a) ≤ℤ pos 0 → a ≤ℤ pos 0
  *-nonpos-cancel k = elim (≤-or-> a (pos 0)) [
    | inl p ↦ p
    | inr p ↦ absurd (≤-<-clash (n *ℤ a) (pos 0) k (*-pos n a h p))
  ]
