-- The row of a reverse. Assumes nothing.
use mathlib.Core.Path.{◌≡◌}
use mathlib.Core.Logic.{inl, inr}
use Prim.Native.Nat.{ℕ, ◌/◌}
use native.Mathlib.Omega.{arith}
use Rattle.darts.specs.Positions.{reverse_of}
use Rattle.darts.proofs.Positions.{side, reverse_even, reverse-odd}

pub reverse_half : (p : ℕ) → reverse_of p / 2 ≡ p / 2
reverse_half p =
    elim (side p) [
      | inl e ↦ rw (reverse_even e) (let r = e.rest in omega arith)
      | inr e ↦ rw (reverse-odd e)
          (let r = e.rest in omega arith)
    ]
