-- Lists read place by place: a loop over rows is a scan of `table f i (n - i)`, the rows that are left from place i on.
use Rattle.std.specs.Prelude.{Bool, cond, List, [], ◌∷◌, ℕ, zero, suc, ◌+◌, Option, Some, None}

-- f a, f (a + 1), .. n of them
abbrev pub table : {A : Type 0} → (ℕ → A) → ℕ → ℕ → List A
table f a zero = []
table f a (suc n) = f a ∷ table f (a + 1) n

-- s after the steps at a, a + 1, .. n of them
abbrev pub sweep : {S : Type 0} → (S → ℕ → S) → S → ℕ → ℕ → S
sweep g s a zero = s
sweep g s a (suc n) = sweep g (g s a) (a + 1) n

-- the place, counted from k, of the first element that p takes
abbrev pub place : {A : Type 0} → (A → Bool) → ℕ → List A → Option ℕ
place p k [] = None
place p k (r ∷ rs) = let rest = place p (k + 1) rs in cond (p r) (Some k) rest
