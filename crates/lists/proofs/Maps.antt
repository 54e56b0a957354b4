-- Scans of mapped lists. Assumes nothing.
use mathlib.Core.Path.{◌≡◌, refl, sym, ◌∙◌}
use mathlib.Core.Bool.{Bool}
use mathlib.Core.List.{List, [], ◌∷◌, map, flat_map, Memᴰ, map-map}
use Rattle.lists.specs.Scans.{all_of}
use Rattle.lists.proofs.Members.{map_cong}

module _ {A B : Type 0} where
  pub all_mapped : (p : B → Bool) (f : A → B) (l : List A) → all_of p (map f l) ≡ all_of (λ x. p (f x)) l
  all_mapped p f [] = refl
  all_mapped p f (x ∷ l) = rw (all_mapped p f l)

  -- what gives nothing for each gives nothing for all
  pub flat_map_none : (f : A → List B) (l : List A) → ((x : A) → Memᴰ x l → f x ≡ []) → flat_map f l ≡ []
  unfolding flat_map
  flat_map_none f [] h = refl
  flat_map_none f (x ∷ l) h = rw (h x (Memᴰ.head refl)) (flat_map_none f l (λ y k. h y (Memᴰ.tail k)))

-- ---- a list mapped twice

pub map_twice : {A B C : Type 0} (f : B → C) (g : A → B) (h : A → C) (l : List A)
    → ((x : A) → Memᴰ x l → f (g x) ≡ h x) → map f (map g l) ≡ map h l
map_twice f g h l k = map-map f g l ∙ map_cong (λ x. f (g x)) h l k

-- one way round and the other
pub map_square : {A B C D : Type 0} (f : B → D) (g : A → B) (h : C → D) (k : A → C) (l : List A)
    → ((x : A) → Memᴰ x l → f (g x) ≡ h (k x)) → map f (map g l) ≡ map h (map k l)
map_square f g h k l e = map_twice f g (λ x. h (k x)) l e ∙ sym (map-map h k l)
