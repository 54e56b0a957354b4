-- Members of a list: one by one, none at all, what scans tell of them, and what two functions do to them. Assumes
-- nothing.
use mathlib.Core.Path.{◌≡◌, refl, sym, ap, ap₂, ◌∙◌, subst}
use mathlib.Core.Logic.{◌⊎◌, inl, inr, ◌≢◌}
use mathlib.Core.Bool.{Bool, true, false, cond, true≢false, false≢true}
use mathlib.Core.List.{List, [], ◌∷◌, map, Memᴰ}
use mathlib.Core.List.{map-id, flat_map}
use mathlib.Core.List.{◌++◌}
use mathlib.Core.Option.{some, get_or}
use Rattle.lists.specs.Scans.{any_of, all_of, find, is_some}
use Rattle.lists.specs.Members.{All, Pairs}
use Rattle.lists.specs.Tests.{same}
use Rattle.lists.proofs.Bools.{which, and-true, and_is, or-true, or_left, or_right, or-false, same_false}
use Rattle.lists.proofs.Bools.{same_refl}
use native.Mathlib.Omega.{arith}
use lib.ListN.{length}

pub each-cons : {A : Type 0} {p : A → Type 0} {x : A} {l : List A} → p x → ((y : A) → Memᴰ y l → p y) → (y : A)
    → Memᴰ y (x ∷ l) → p y
each-cons {p = p} px h y m = elim (mathlib.Core.List.Memᴰ.cases_cons m) [ inl e ↦ rw e px | inr k ↦ h y k ]

pub each_two : {A : Type 0} (p : A → Type 0) {x y : A} {l : List A} → p x → p y → ((z : A) → Memᴰ z l → p z)
    → (z : A) → Memᴰ z (x ∷ y ∷ l) → p z
each_two p px py h = each-cons {p = p} px (each-cons {p = p} py h)

-- what stands in a list and is not its first stands behind it
pub each_last : {A : Type 0} {R : A → Type 0} (l : List A) {x : A} → ((y : A) → Memᴰ y l → R y) → R x
    → (y : A) → Memᴰ y (l ++ x ∷ []) → R y
each_last {R = R} l h r y k = elim (mathlib.Core.List.Memᴰ.append_cases l k) [
  | inl i ↦ h y i
  | inr i ↦ subst R (sym (mathlib.Core.List.Memᴰ.eq_of_singleton i)) r
]

pub in_rest : {A : Type 0} {x y : A} {l : List A} → ((x ≡ y) → ⊥) → Memᴰ x (y ∷ l) → Memᴰ x l
in_rest h m = elim (mathlib.Core.List.Memᴰ.cases_cons m) [ inl e ↦ absurd (h e) | inr k ↦ k ]

-- `All` by members, and members of `All`
pub all_of_lem : {A : Type 0} {R : A → Type 0} (l : List A) → ((x : A) → Memᴰ x l → R x) → All R l
all_of_lem [] h = tt
all_of_lem (y ∷ l) h = (h y (mathlib.Core.List.Memᴰ.head refl), all_of_lem l (λ x k. h x (mathlib.Core.List.Memᴰ.tail k)))

pub each_of : {A : Type 0} (R : A → Type 0) (l : List A) → All R l → (x : A) → Memᴰ x l → R x
each_of R [] h x k = absurd (mathlib.Core.List.Memᴰ.not-nil k)
each_of R (y ∷ l) h x k = each-cons {p = R} h.0 (each_of R l h.1) x k

pub map_cong : {A B : Type 0} (f g : A → B) (l : List A) → ((x : A) → Memᴰ x l → f x ≡ g x) → map f l ≡ map g l
map_cong f g [] h = refl
map_cong f g (x ∷ l) h = ap₂ ◌∷◌ (h x (mathlib.Core.List.Memᴰ.head refl)) (map_cong f g l (λ y m. h y (mathlib.Core.List.Memᴰ.tail m)))

pub map_same : {A : Type 0} (f : A → A) (l : List A) → ((x : A) → Memᴰ x l → f x ≡ x) → map f l ≡ l
map_same f l h = map_cong f (λ x. x) l h ∙ map-id l

-- p takes one of them, or none
pub takes? : {A : Type 0} (p : A → Bool) (l : List A)
    → ((x : A) × Memᴰ x l × (p x ≡ true)) ⊎ ((x : A) → Memᴰ x l → p x ≡ false)
takes? p [] = inr (λ x m. absurd (mathlib.Core.List.Memᴰ.not-nil m))
takes? {A} p (y ∷ l) = step (which (p y)) (takes? p l)
  where
    step : (p y ≡ true) ⊎ (p y ≡ false)
        → ((x : A) × Memᴰ x l × (p x ≡ true)) ⊎ ((x : A) → Memᴰ x l → p x ≡ false)
        → ((x : A) × Memᴰ x (y ∷ l) × (p x ≡ true)) ⊎ ((x : A) → Memᴰ x (y ∷ l) → p x ≡ false)
    step (inl e) later = inl (y, mathlib.Core.List.Memᴰ.head refl, e)
    step (inr e) (inl r) = inl (r.0, mathlib.Core.List.Memᴰ.tail r.1, r.2)
    step (inr e) (inr h) = inr (each-cons {p = λ x. p x ≡ false} e h)

pub some? : {A : Type 0} (ds : List A) → ((d : A) × Memᴰ d ds) ⊎ ((d : A) → Memᴰ d ds → ⊥)
some? [] = inr (λ d m. mathlib.Core.List.Memᴰ.not-nil m)
some? (d ∷ ds) = inl (d, mathlib.Core.List.Memᴰ.head refl)

-- where there is an element that p takes, one is found
pub find_has : {A : Type 0} (p : A → Bool) (l : List A) {x : A} → Memᴰ x l → p x ≡ true → is_some (find p l) ≡ true
find_has p [] m e = absurd (mathlib.Core.List.Memᴰ.not-nil m)
find_has {A} p (y ∷ l) {x} m e = go (p y) refl (mathlib.Core.List.Memᴰ.cases_cons m) (λ k. find_has p l k e)
  where
    go : (b : Bool) → p y ≡ b → (x ≡ y) ⊎ Memᴰ x l → (Memᴰ x l → is_some (find p l) ≡ true)
        → is_some (cond b (some y) (find p l)) ≡ true
    go true q k ih = refl
    go false q (inl z) ih = absurd (true≢false (sym e ∙ ap p z ∙ q))
    go false q (inr k) ih = ih k

-- ---- what scans tell

module _ {A : Type 0} (p : A → Bool) where
  -- what takes every element takes each, and the other way round
  pub all_each : (l : List A) → all_of p l ≡ true → (x : A) → Memᴰ x l → p x ≡ true
  all_each [] h x m = absurd (mathlib.Core.List.Memᴰ.not-nil m)
  all_each (y ∷ l) h x m = let k = and-true (p y) (all_of p l) h in
      each-cons {p = λ z. p z ≡ true} k.0 (all_each l k.1) x m

  pub each_all : (l : List A) → ((x : A) → Memᴰ x l → p x ≡ true) → all_of p l ≡ true
  each_all [] h = refl
  each_all (y ∷ l) h = and_is (h y (mathlib.Core.List.Memᴰ.head refl)) (each_all l (λ x k. h x (mathlib.Core.List.Memᴰ.tail k)))

  pub any_some : (l : List A) → any_of p l ≡ true → (x : A) × Memᴰ x l × (p x ≡ true)
  any_some [] h = absurd (true≢false (sym h))
  any_some (y ∷ l) h = step (any_some l) (or-true (p y) (any_of p l) h)
    where
      step : (any_of p l ≡ true → (x : A) × Memᴰ x l × (p x ≡ true)) → (p y ≡ true) ⊎ (any_of p l ≡ true)
          → (x : A) × Memᴰ x (y ∷ l) × (p x ≡ true)
      step ih (inl e) = (y, mathlib.Core.List.Memᴰ.head refl, e)
      step ih (inr j) = ((ih j).0, mathlib.Core.List.Memᴰ.tail (ih j).1, (ih j).2)

  pub some_any : (l : List A) {x : A} → Memᴰ x l → p x ≡ true → any_of p l ≡ true
  some_any [] k e = absurd (mathlib.Core.List.Memᴰ.not-nil k)
  some_any (y ∷ l) {x} k e = step (λ j. some_any l j e) (mathlib.Core.List.Memᴰ.cases_cons k)
    where
      step : (Memᴰ x l → any_of p l ≡ true) → (x ≡ y) ⊎ Memᴰ x l → any_of p (y ∷ l) ≡ true
      step ih (inl q) = or_left (any_of p l) (ap p (sym q) ∙ e)
      step ih (inr j) = or_right (p y) (any_of p l) (ih j)

  -- what none has each has not, and the other way round
  pub none_has : (l : List A) → any_of p l ≡ false → (x : A) → Memᴰ x l → p x ≡ false
  none_has [] h x m = absurd (mathlib.Core.List.Memᴰ.not-nil m)
  none_has (y ∷ l) h x m = let k = or-false (p y) (any_of p l) h in
      each-cons {p = λ z. p z ≡ false} k.0 (none_has l k.1) x m

  pub any_none : (l : List A) → ((x : A) → Memᴰ x l → p x ≡ false) → any_of p l ≡ false
  any_none [] h = refl
  any_none (y ∷ l) h = rw (h y (mathlib.Core.List.Memᴰ.head refl)) (any_none l (λ x m. h x (mathlib.Core.List.Memᴰ.tail m)))

  -- an element found is one that p takes
  pub find_some : (l : List A) → is_some (find p l) ≡ true
      → (x : A) × Memᴰ x l × (p x ≡ true) × (find p l ≡ some x)
  find_some [] h = absurd (false≢true h)
  find_some (y ∷ l) h = go (p y) refl (find_some l)
    where
      go : (b : Bool) → p y ≡ b
          → (is_some (find p l) ≡ true → (x : A) × Memᴰ x l × (p x ≡ true) × (find p l ≡ some x))
          → (x : A) × Memᴰ x (y ∷ l) × (p x ≡ true) × (cond b (some y) (find p l) ≡ some x)
      go true e later = (y, mathlib.Core.List.Memᴰ.head refl, e, refl)
      go false e later = let r = later (rw e at h) in (r.0, mathlib.Core.List.Memᴰ.tail r.1, r.2, r.3)

  pub found : (u : A) (l : List A) → is_some (find p l) ≡ true
      → Memᴰ (get_or (find p l) u) l × (p (get_or (find p l) u) ≡ true)
  found u l h = let r = find_some l h in rw r.3 (r.1, r.2)

-- what stands in one of several lists
pub in_flat_map : {A B : Type 0} (f : A → List B) (l : List A) (y : B) → Memᴰ y (flat_map f l)
    → (x : A) × Memᴰ x l × Memᴰ y (f x)
unfolding flat_map
in_flat_map f [] y m = absurd (mathlib.Core.List.Memᴰ.not-nil m)
in_flat_map f (x ∷ l) y m =
    let later = in_flat_map f l y in
    elim (mathlib.Core.List.Memᴰ.append_cases (f x) m) [
      | inl k ↦ (x, mathlib.Core.List.Memᴰ.head refl, k)
      | inr k ↦ let r = later k in (r.0, mathlib.Core.List.Memᴰ.tail r.1, r.2)
    ]

pub flat_map_has : {A B : Type 0} (f : A → List B) (l : List A) {x : A} {y : B} → Memᴰ x l → Memᴰ y (f x)
    → Memᴰ y (flat_map f l)
unfolding flat_map
flat_map_has f [] m k = absurd (mathlib.Core.List.Memᴰ.not-nil m)
flat_map_has f (a ∷ l) {x} {y} m k =
    let later : Memᴰ x l → Memᴰ y (flat_map f l) = λ j. flat_map_has f l j k in
    elim (mathlib.Core.List.Memᴰ.cases_cons m) [
      | inl e ↦ mathlib.Core.List.Memᴰ.append_left (flat_map f l) (rw e at k)
      | inr j ↦ mathlib.Core.List.Memᴰ.append_right (f a) (later j)
    ]

-- ---- any two of a list, and lists of few

-- what holds of all pairs holds of any two
pub pairs_in : {A B : Type 0} (R : B → B → Type 0) (turn : (a b : B) → R a b → R b a) (f : A → B) (l : List A)
    → Pairs R (map f l) → (x y : A) → Memᴰ x l → Memᴰ y l → x ≢ y → R (f x) (f y)
pairs_in R turn f [] h x y m k ne = absurd (mathlib.Core.List.Memᴰ.not-nil m)
pairs_in R turn f (z ∷ l) h x y m k ne =
    go (pairs_in R turn f l h.1 x y) (mathlib.Core.List.Memᴰ.cases_cons m) (mathlib.Core.List.Memᴰ.cases_cons k)
  where
    go : (Memᴰ x l → Memᴰ y l → x ≢ y → R (f x) (f y)) → (x ≡ z) ⊎ Memᴰ x l
        → (y ≡ z) ⊎ Memᴰ y l → R (f x) (f y)
    go ih (inl p) (inl q) = absurd (ne (p ∙ sym q))
    go ih (inl p) (inr q) = subst (λ w. R (f w) (f y)) (sym p) (each_of (R (f z)) (map f l) h.0 (f y) (mathlib.Core.List.Memᴰ.map f q))
    go ih (inr p) (inl q) = subst (λ w. R (f x) (f w)) (sym q)
        (turn (f z) (f x) (each_of (R (f z)) (map f l) h.0 (f x) (mathlib.Core.List.Memᴰ.map f p)))
    go ih (inr p) (inr q) = ih p q ne

-- with another element in the place of one
pub between_cases : {A : Type 0} {x : A} (xs : List A) (y : A) (ys : List A) → Memᴰ x (xs ++ (y ∷ ys))
    → (x ≡ y) ⊎ Memᴰ x (xs ++ ys)
between_cases xs y ys m = elim (mathlib.Core.List.Memᴰ.append_cases xs m) [
  | inl k ↦ inr (mathlib.Core.List.Memᴰ.append_left ys k)
  | inr k ↦ elim (mathlib.Core.List.Memᴰ.cases_cons k) [ inl e ↦ inl e | inr i ↦ inr (mathlib.Core.List.Memᴰ.append_right xs i) ]
]

pub no_member : {A : Type 0} (l : List A) → length l ≡ 0 → {x : A} → Memᴰ x l → ⊥
no_member [] e k = mathlib.Core.List.Memᴰ.not-nil k
no_member (y ∷ l) e k = omega arith

pub some_member : {A : Type 0} (l : List A) → same (length l) 0 ≡ false → (x : A) × Memᴰ x l
some_member [] h = absurd (true≢false (sym (same_refl 0) ∙ h))
some_member (x ∷ l) h = (x, mathlib.Core.List.Memᴰ.head refl)

pub member_some : {A : Type 0} (l : List A) {x : A} → Memᴰ x l → same (length l) 0 ≡ false
member_some l k = same_false (length l) 0 (λ e. no_member l e k)

pub one_member : {A : Type 0} (l : List A) → length l ≡ 1 → {x y : A} → Memᴰ x l → Memᴰ y l → x ≡ y
one_member [] e i j = absurd (mathlib.Core.List.Memᴰ.not-nil i)
one_member (z ∷ []) e i j = mathlib.Core.List.Memᴰ.eq_of_singleton i ∙ sym (mathlib.Core.List.Memᴰ.eq_of_singleton j)
one_member (z ∷ w ∷ l) e i j = absurd (omega arith)

-- a list of two elements has no third
pub third : {A : Type 0} (l : List A) → length l ≡ 2 → {x y z : A} → x ≢ y → Memᴰ x l → Memᴰ y l
    → Memᴰ z l → (z ≡ x) ⊎ (z ≡ y)
third [] h n i j k = absurd (mathlib.Core.List.Memᴰ.not-nil i)
third (a ∷ []) h n i j k = absurd (n (mathlib.Core.List.Memᴰ.eq_of_singleton i ∙ sym (mathlib.Core.List.Memᴰ.eq_of_singleton j)))
third (a ∷ b ∷ []) h {x} {y} {z} n i j k = go (one i) (one j) (one k)
  where
    one : {w : _} → Memᴰ w (a ∷ b ∷ []) → (w ≡ a) ⊎ (w ≡ b)
    one m = elim (mathlib.Core.List.Memᴰ.cases_cons m) [ inl e ↦ inl e | inr q ↦ inr (mathlib.Core.List.Memᴰ.eq_of_singleton q) ]

    go : (x ≡ a) ⊎ (x ≡ b) → (y ≡ a) ⊎ (y ≡ b) → (z ≡ a) ⊎ (z ≡ b) → (z ≡ x) ⊎ (z ≡ y)
    go (inl p) (inl q) r = absurd (n (p ∙ sym q))
    go (inr p) (inr q) r = absurd (n (p ∙ sym q))
    go (inl p) (inr q) (inl r) = inl (r ∙ sym p)
    go (inl p) (inr q) (inr r) = inr (r ∙ sym q)
    go (inr p) (inl q) (inl r) = inr (r ∙ sym q)
    go (inr p) (inl q) (inr r) = inl (r ∙ sym p)
third (a ∷ b ∷ c ∷ l) h n i j k = absurd (omega arith)
