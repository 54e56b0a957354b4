-- What the area of a ring loses by a new curve: that it fits a word, and when the sign changes by it. Assumes nothing.
use mathlib.Core.Path.{◌≡◌, ◌∙◌}
use Prim.Native.Nat.{◌*◌, ◌+◌}
use native.Mathlib.Omega.{arith}
use lib.IntN.{ℤ, pos, ◌-ℤ◌}
use lib.Signed.{lt_z}
use mir.Syntax.{w64}
use mir.Val.{SFits}
use Rattle.integers.specs.Order.{sgn, sub-pos}
use Rattle.integers.specs.Solver.{con, ◌⊖◌}
use Rattle.integers.specs.Linear.{linear, ◌≺◌, ◌⇒◌}
use Rattle.lists.proofs.Bools.{agree, T→≡, ≡→T}
use Rattle.plane.specs.Areas.{is_positive}
use Rattle.rings.proofs.Reversed.{Within, within-add, within_neg, within_more, curve_most}
use Rattle.rings.proofs.Sums.{sum_fits, positive_is}

-- the areas of two curves differ by a number that fits
pub lost_fits : {y z : ℤ} → Within curve_most y → Within curve_most z → SFits w64 (y -ℤ z)
lost_fits a b =
    sum_fits 2 (omega arith)
    (within_more (curve_most + curve_most) (curve_most * 2) (omega arith)
    (within-add curve_most curve_most a (within_neg curve_most b)))

-- what is left is positive where less is lost
pub left_positive : (lost area : ℤ) → lt_z lost area ≡ is_positive (sgn (area -ℤ lost))
left_positive l a =
    agree (lt_z l a) (lt_z (pos 0) (a -ℤ l)) (λ e. T→≡ _ (sub-pos l a (record { lt = ≡→T _ e })).lt)
    (λ e. T→≡ _ (linear 2 (λ l a. con (pos 0) ≺ a ⊖ l ⇒ l ≺ a) (omega arith) l a (record { lt = ≡→T _ e })).lt)
    ∙ positive_is (a -ℤ l)
