-- Rows that each have something, with numbers that rise: one more, one less, one changed, all mapped. Assumes nothing.
use mathlib.Core.Path.{◌≡◌, sym, ap, ◌∙◌, subst, refl}
use mathlib.Core.Bool.{Bool, true, false, cond, not}
use mathlib.Core.List.Memᴰ
use mathlib.Core.List.{List, [], ◌∷◌, ◌++◌, map, map-append, Memᴰ}
use Prim.Native.Nat.{ℕ, ◌+◌, ◌≤◌}
use Rattle.lists.specs.Tests.{same}
use Rattle.lists.proofs.Members.{each_last}
use Rattle.lists.proofs.Maps.{map_twice}
use Rattle.lists.proofs.Keeps.{keep_in}
use Rattle.lists.proofs.Rising.{Rising, rising_append, rising_keep}
use Rattle.lists.proofs.Lookups.{without, without_numbers, replaced}
use Rattle.lists.proofs.Bools.{cond_has, same_true}

pub record RisingRows {A : Type 0} (number : A → ℕ) (P : A → Type 0) (next : ℕ) (l : List A) : Type 0 where
  pub rising : Rising 1 next (map number l)
  pub each : (x : A) → Memᴰ x l → P x

-- rows made from others of the same numbers
pub rows_of : {A B : Type 0} (number : A → ℕ) (number' : B → ℕ) (P : B → Type 0) (f : A → B) (next : ℕ) (l : List A)
    → Rising 1 next (map number l) → ((x : A) → Memᴰ x l → number' (f x) ≡ number x)
    → ((x : A) → Memᴰ x l → P (f x)) → RisingRows number' P next (map f l)
rows_of number number' P f next l r e h = record {
  rising = subst (Rising 1 next) (sym (map_twice number' f number l e)) r;
  each = λ y k. let x = Memᴰ.of_map f l k in subst P x.2 (h x.0 x.1);
}

module _ {A : Type 0} (number : A → ℕ) (P : A → Type 0) (next : ℕ) (l : List A) (R : RisingRows number P next l) where
  pub rows_more : (x : A) → number x ≡ next → 1 ≤ next → P x → RisingRows number P (next + 1) (l ++ x ∷ [])
  rows_more x e low h = record {
    rising = subst (Rising 1 (next + 1)) (sym (map-append number l (x ∷ []) ∙ ap (λ (n : ℕ). map number l ++ n ∷ []) e))
        (rising_append 1 next (map number l) low R.rising);
    each = each_last l R.each h;
  }

  pub rows_less : (n : ℕ) → RisingRows number P next (without number n l)
  rows_less n = record {
    rising = subst (Rising 1 next) (sym (without_numbers number n l))
        (rising_keep 1 next (λ k. not (same k n)) (map number l) R.rising);
    each = λ y k. R.each y (keep_in (λ r. not (same (number r) n)) l k).0;
  }

  -- the row with the number n changed to one of that number
  pub rows_at : (n : ℕ) (f : A → A) → ((x : A) → number x ≡ n → number (f x) ≡ n) → ((x : A) → P (f x))
      → RisingRows number P next (map (λ r. cond (same (number r) n) (f r) r) l)
  rows_at n f e h = rows_of number number P (λ r. cond (same (number r) n) (f r) r) next l R.rising
      (λ x k. go x (same (number x) n) refl) (λ x k. cond_has P (same (number x) n) (h x) (R.each x k))
    where
      go : (x : A) (b : Bool) → same (number x) n ≡ b → number (cond b (f x) x) ≡ number x
      go x true q = e x (same_true (number x) n q) ∙ sym (same_true (number x) n q)
      go x false q = refl

  pub rows_with : (n : ℕ) (x : A) → number x ≡ n → P x → RisingRows number P next (replaced number n x l)
  rows_with n x e h = rows_at n (λ r. x) (λ r q. e) (λ r. h)

  pub rows_as : (Q : A → Type 0) → ((x : A) → Memᴰ x l → P x → Q x) → RisingRows number Q next l
  rows_as Q f = record { rising = R.rising; each = λ x k. f x k (R.each x k) }
