-- Tests of numbers, and Booleans as numbers.
use Rattle.std.specs.Prelude.{Bool, true, false, not, ℕ, zero, suc, eqb}

-- the two numbers are one; it stays shut, and proofs/Bools.antt says what it tells
unfoldable pub same : ℕ → ℕ → Bool
same a b = eqb a b

infixl 32 ◌⊕◌
-- either and not both: the sum mod 2
abbrev pub ◌⊕◌ : Bool → Bool → Bool
true ⊕ b = not b
false ⊕ b = b

abbrev pub bit : Bool → ℕ
bit true = 1
bit false = 0

-- f, k times
abbrev pub iterate : {D : Type 0} → ℕ → (D → D) → D → D
iterate zero f d = d
iterate (suc k) f d = f (iterate k f d)
