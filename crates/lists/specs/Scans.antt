-- Scans of lists. What a test may leave out is bound by a `let`, which waits, so that each computes at once on
-- literals.
use Rattle.std.specs.Prelude.{Bool, true, false, cond, ◌&&◌, ◌||◌, List, [], ◌∷◌, ℕ, ◌+◌}
use Rattle.std.proofs.Math.Option.{Option, none, some}
use Rattle.lists.specs.Tests.{◌⊕◌, bit}

module _ {A : Type 0} where
  -- p takes some element
  abbrev pub any_of : (A → Bool) → List A → Bool
  any_of p [] = false
  any_of p (r ∷ rs) = let rest = any_of p rs in p r || rest

  -- p takes every element
  abbrev pub all_of : (A → Bool) → List A → Bool
  all_of p [] = true
  all_of p (r ∷ rs) = let rest = all_of p rs in p r && rest

  -- the elements that p takes
  abbrev pub keep : (A → Bool) → List A → List A
  keep p [] = []
  keep p (r ∷ rs) = let rest = keep p rs in cond (p r) (r ∷ rest) rest

  -- the first element that p takes
  abbrev pub find : (A → Bool) → List A → Option A
  find p [] = none
  find p (r ∷ rs) = let rest = find p rs in cond (p r) (some r) rest

  -- how many elements p takes
  abbrev pub count_of : (A → Bool) → List A → ℕ
  count_of p [] = 0
  count_of p (r ∷ rs) = bit (p r) + count_of p rs

  -- whether p takes an odd number of elements
  abbrev pub odd_count : List A → (A → Bool) → Bool
  odd_count [] p = false
  odd_count (r ∷ rs) p = p r ⊕ odd_count rs p

  -- the fold from the left
  abbrev pub fold : {S : Type 0} → (S → A → S) → S → List A → S
  fold f s [] = s
  fold f s (r ∷ rs) = fold f (f s r) rs

  -- the first and the last element, d where there is none
  abbrev pub first_or : A → List A → A
  first_or d [] = d
  first_or d (r ∷ rs) = r

  abbrev pub last_or : A → List A → A
  last_or d [] = d
  last_or d (r ∷ rs) = last_or r rs

  -- r holds between all neighbours
  abbrev pub linked : (A → A → Bool) → List A → Bool
  linked r [] = true
  linked r (a ∷ []) = true
  linked r (a ∷ b ∷ l) = let rest = linked r (b ∷ l) in r a b && rest

  abbrev pub is_some : Option A → Bool
  is_some none = false
  is_some (some a) = true
