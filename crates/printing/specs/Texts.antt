-- Numbers and rows of numbers as text.
use Rattle.std.specs.Prelude.{cond, ℕ, zero, suc, ◌+◌, ◌/◌, ◌%◌, ltb, ℤ, pos, negsuc}
use mathlib.Core.List.{List, [], ◌∷◌, ◌++◌, flat_map}

-- the digits of n, none in front that is not needed; k is a bound of their count
abbrev pub digits_of : ℕ → ℕ → List ℕ
digits_of zero n = []
digits_of (suc k) n = cond (ltb n 10) [] (digits_of k (n / 10)) ++ (48 + n % 10) ∷ []

-- 64 bits take 20 digits at most
unfoldable pub natural_text : ℕ → List ℕ
natural_text n = digits_of 20 n

-- a minus before the digits of a number below 0
abbrev pub number_text : ℤ → List ℕ
number_text (pos n) = natural_text n
number_text (negsuc k) = 45 ∷ natural_text (suc k)

-- each number after a blank, and a line end
abbrev pub row_text : List ℤ → List ℕ
row_text row = flat_map (λ z. 32 ∷ number_text z) row ++ 10 ∷ []
