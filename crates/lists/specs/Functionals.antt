-- Linear functionals over bits: a set of numbers stands for a vector with a bit for each number, and ⊕ adds.
-- Definitions only. Assumes nothing.
use Rattle.std.specs.Prelude.{◌≡◌, Bool, true, false, ◌&&◌, ℕ}
use mathlib.Core.List.{List, Memᴰ}
use Rattle.lists.specs.Tests.{◌⊕◌}

-- a bit for each set of numbers; it is linear: of S and b times R together it is that of S and b times that of R
pub record Functional : Type 0 where
  pub at : (ℕ → Bool) → Bool
  pub linear : (S R : ℕ → Bool) (b : Bool) → at (λ n. S n ⊕ (b && R n)) ≡ at S ⊕ (b && at R)

-- a solution, not empty, of the equations φ = 0 for φ in fs: a set that has one of the unknowns xs, and every φ is 0
-- there
abbrev pub Solution : List ℕ → List Functional → Type 0
Solution xs fs = (S : ℕ → Bool) × ((φ : Functional) → Memᴰ φ fs → φ.at S ≡ false)
    × ((x : ℕ) × Memᴰ x xs × (S x ≡ true))
