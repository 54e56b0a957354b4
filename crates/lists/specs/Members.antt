-- What holds of all elements, of all pairs, and what stands once.
use mathlib.Core.List.{List, [], ◌∷◌, Memᴰ}

-- nothing stands twice
abbrev pub Distinct : {A : Type 0} → List A → Type 0
Distinct [] = Unit {0}
Distinct (n ∷ ns) = (Memᴰ n ns → ⊥) × Distinct ns

-- R holds of each element
abbrev pub All : {A : Type 0} → (A → Type 0) → List A → Type 0
All R [] = Unit {0}
All R (x ∷ l) = R x × All R l

-- R holds of each element and each later one
abbrev pub Pairs : {A : Type 0} → (A → A → Type 0) → List A → Type 0
Pairs R [] = Unit {0}
Pairs R (x ∷ l) = All (R x) l × Pairs R l
