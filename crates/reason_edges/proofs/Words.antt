-- The lower of two faces, and whether a variant is New. Assumes nothing.
use denote.Enum.Bare.{sameb}
use mathlib.Core.Path.{◌≡◌, refl}
use mathlib.Core.Bool.{false, not, ◌&&◌}
use Prim.Native.Nat.{ℕ, zero, suc, min}
use native.Mathlib.Nat.{zero-min, min-zero, suc-min-suc}
use native.Mathlib.Omega.{arith}
use Rattle.lists.specs.Tests.{same}
use Rattle.lists.proofs.Bools.{same_refl, same_false, &&-false}
use Rattle.map.specs.contracts.Variant.{the_type as variant}
use Rattle.map.specs.declared.Variant.{Variant}
use Rattle.map.specs.declared.Variant.TheVariants.{New, Mod}
use Rattle.map.specs.Edits.{is_new}

pub new_told : (how : Variant) → sameb variant how New ≡ is_new how
new_told New = refl
new_told Mod = refl

-- neither is 0 where the lower is not
pub lower-zero : (a b : ℕ) → not (same a 0) && not (same b 0) ≡ not (same (min a b) 0)
lower-zero zero b = rw (zero-min b, same_refl 0)
lower-zero (suc a) zero = rw (min-zero (suc a), same_refl 0) (&&-false (not (same (suc a) 0)))
lower-zero (suc a) (suc b) = rw (suc-min-suc a b, some a, some b, some (min a b))
  where
    some : (n : ℕ) → same (suc n) 0 ≡ false
    some n = same_false (suc n) 0 (λ e. omega (arith, e))
