-- One list after another. Assumes nothing.
use mathlib.Core.Path.{◌≡◌, refl, ◌∙◌}
use mathlib.Core.Bool.{Bool, true, false, cond, ◌||◌}
use mathlib.Core.List.{List, [], ◌∷◌, ◌++◌, Memᴰ}
use mathlib.Core.Option.{some, none-ne-some}
use Prim.Native.Nat.{ℕ, suc, ◌+◌}
use native.Mathlib.Nat.{add-zero, add-suc, suc-add}
use lib.ListN.{length, set}
use lib.Seq.{sets}
use Rattle.lists.specs.Scans.{any_of, all_of, find, fold, linked}
use Rattle.lists.specs.Members.{All}
use Rattle.lists.proofs.Bools.{eq3, and-true, and_is}

module _ {A : Type 0} where
  pub fold-append : {S : Type 0} (g : S → A → S) (s : S) (xs ys : List A) → fold g s (xs ++ ys)
      ≡ fold g (fold g s xs) ys
  fold-append g s [] ys = refl
  fold-append g s (x ∷ xs) ys = fold-append g (g s x) xs ys

  pub all_append : (p : A → Bool) (xs ys : List A) → all_of p xs ≡ true → all_of p ys ≡ true → all_of p (xs ++ ys) ≡ true
  all_append p [] ys h k = k
  all_append p (x ∷ xs) ys h k = let t = and-true (p x) (all_of p xs) h in and_is t.0 (all_append p xs ys t.1 k)

  pub each_append : (R : A → Type 0) (xs ys : List A) → All R xs → All R ys → All R (xs ++ ys)
  each_append R [] ys h k = k
  each_append R (x ∷ xs) ys h k = (h.0, each_append R xs ys h.1 k)

  -- one run of stores and then another
  pub sets_append : (xs ys l : List A) (i : ℕ) → sets l i (xs ++ ys) ≡ sets (sets l i xs) (i + length xs) ys
  sets_append [] ys l i = rw (add-zero i)
  sets_append (x ∷ xs) ys l i = sets_append xs ys (set l i x) (suc i)
      ∙ rw (suc-add i (length xs), add-suc i (length xs))

  pub any_append : (p : A → Bool) (xs ys : List A) → any_of p (xs ++ ys) ≡ any_of p xs || any_of p ys
  any_append p [] ys = refl
  any_append p (x ∷ xs) ys = rw (any_append p xs ys)
      (eq3 (λ a b c. a || (b || c)) (λ a b c. a || b || c) tt (p x) (any_of p xs) (any_of p ys))

  -- what is found is found in a longer list
  pub find-left : (p : A → Bool) (xs ys : List A) (a : A) → find p xs ≡ some a → find p (xs ++ ys) ≡ some a
  find-left p [] ys a e = absurd (none-ne-some a e)
  find-left p (x ∷ xs) ys a e = go (p x) e (find-left p xs ys a)
    where
      go : (b : Bool) → cond b (some x) (find p xs) ≡ some a → (find p xs ≡ some a → find p (xs ++ ys) ≡ some a)
          → cond b (some x) (find p (xs ++ ys)) ≡ some a
      go true q later = q
      go false q later = later q

  -- one element more, to which each is related
  pub linked_last : (r : A → A → Bool) (xs : List A) (c : A) → linked r xs ≡ true
      → ((x : A) → Memᴰ x xs → r x c ≡ true) → linked r (xs ++ c ∷ []) ≡ true
  linked_last r [] c l h = refl
  linked_last r (a ∷ []) c l h = rw (h a (Memᴰ.head refl))
  linked_last r (a ∷ b ∷ xs) c l h =
      let k = and-true (r a b) (linked r (b ∷ xs)) l in
      and_is k.0 (linked_last r (b ∷ xs) c k.1 (λ x m. h x (Memᴰ.tail m)))
