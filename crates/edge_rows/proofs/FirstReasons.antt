-- The first reason of two lists. Assumes nothing.
use mathlib.Core.Path.{◌≡◌, refl, sym}
use mathlib.Core.List.{◌++◌}
use Prim.Native.Nat.{ℕ, zero, suc}
use native.Mathlib.Omega.{arith}
use Rattle.map.specs.Reasons.{Reasons, first_reason}
use Rattle.map.proofs.Reasons.{first_append}

-- a reason that is not 0 is the first of both
pub first_of : (rs ss : Reasons) (n : ℕ) → n ≡ first_reason rs → (n ≡ 0 → ⊥) → n ≡ first_reason (rs ++ ss)
first_of rs ss zero e d = absurd (d refl)
first_of rs ss (suc n) e d = sym (first_append rs ss (suc n) (omega arith) (sym e))
