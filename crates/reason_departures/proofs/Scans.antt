-- A scan of what is mapped and kept, as a scan of all. Assumes nothing.
use mathlib.Core.Path.{◌≡◌, refl, ap, ap₂}
use mathlib.Core.Bool.{Bool, true, false, cond, ◌&&◌, ◌||◌}
use mathlib.Core.List.{List, [], ◌∷◌, map, Memᴰ}
use Rattle.lists.specs.Scans.{any_of, keep}

module _ {A : Type 0} where
  pub any_map : {B : Type 0} (f : B → Bool) (g : A → B) (l : List A) → any_of f (map g l) ≡ any_of (λ x. f (g x)) l
  any_map f g [] = refl
  any_map f g (x ∷ l) = ap (λ (b : Bool). f (g x) || b) (any_map f g l)

  pub any_keep : (f g : A → Bool) (l : List A) → any_of f (keep g l) ≡ any_of (λ x. g x && f x) l
  any_keep f g [] = refl
  any_keep f g (x ∷ l) = go (g x) (any_keep f g l)
    where
      go : (b : Bool) → any_of f (keep g l) ≡ any_of (λ x. g x && f x) l → any_of f (cond b (x ∷ keep g l) (keep g l))
          ≡ (b && f x) || any_of (λ x. g x && f x) l
      go true ih = ap (λ (b : Bool). f x || b) ih
      go false ih = ih

  pub any_same : (f g : A → Bool) (l : List A) → ((x : A) → Memᴰ x l → f x ≡ g x) → any_of f l ≡ any_of g l
  any_same f g [] h = refl
  any_same f g (x ∷ l) h = ap₂ ◌||◌ (h x (Memᴰ.head refl)) (any_same f g l (λ y m. h y (Memᴰ.tail m)))
