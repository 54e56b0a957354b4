-- What parsing a line answers and leaves in the list.
use Rattle.std.specs.Prelude.{◌≡◌, List, ◌++◌, ℕ, ℤ, Option, Some, None, length, drop}

-- the numbers from the front and the rest of the list as it was; a wrong line leaves the list alone
abbrev pub ParsedAs : Option (List ℤ) → List ℤ → Option ℕ → List ℤ → Type 0
ParsedAs (Some zs) before r after = (r ≡ Some (length zs)) × (after ≡ zs ++ drop (length zs) before)
ParsedAs None before r after = (r ≡ None) × (after ≡ before)
