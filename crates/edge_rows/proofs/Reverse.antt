-- The reverse of an edge as a word. Assumes nothing.
use mathlib.Core.Path.{◌≡◌, refl, sym, ap, ◌∙◌}
use Prim.Native.Nat.{ℕ, ◌≤◌}
use native.Mathlib.Omega.{arith}
use lib.IntN.{ℤ, pos, neg_ℤ, ◌-ℤ◌}
use mir.Syntax.{w64}
use mir.Val.{of_z, to_z, SFits}
use mir.Facts.{to_z-of_z}
use Rattle.darts.proofs.Steps.{negative_is, minus_fits}
use Rattle.outcomes.proofs.Words.{small_fits}

-- as it is written
negative_fits : (n : ℕ) → n ≤ 1000000 → SFits w64 (pos 0 -ℤ pos n)
negative_fits n h = minus_fits (pos n) n refl (small_fits n (omega arith))

pub back_read : {r z : ℤ} (n : ℕ) → r ≡ neg_ℤ z → z ≡ pos n → n ≤ 1000000 → to_z w64 (of_z w64 r) ≡ neg_ℤ (pos n)
back_read n e f h = ap (λ (k : ℤ). to_z w64 (of_z w64 k)) (e ∙ ap neg_ℤ f ∙ sym (negative_is (pos n)))
    ∙ to_z-of_z {w = w64} (negative_fits n h) ∙ negative_is (pos n)
