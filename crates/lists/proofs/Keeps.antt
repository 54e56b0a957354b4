-- What `keep` keeps. Assumes nothing.
use mathlib.Core.Path.{◌≡◌, refl, sym, ap, ◌∙◌}
use mathlib.Core.Logic.{◌⊎◌, inl, inr}
use mathlib.Core.Bool.{Bool, true, false, cond, true≢false, ◌&&◌}
use mathlib.Core.List.Memᴰ
use mathlib.Core.List.{List, [], ◌∷◌, ◌++◌, map, append-nil, Memᴰ}
use Prim.Native.Nat.{suc, ◌≤◌}
use native.Mathlib.Omega.{arith}
use lib.ListN.{length}
use Rattle.lists.specs.Scans.{any_of, keep}
use Rattle.lists.specs.Members.{Distinct, All, Pairs}
use Rattle.lists.proofs.Bools.{which}

pub keep_in : {D : Type 0} (f : D → Bool) (ds : List D) {x : D} → Memᴰ x (keep f ds) → Memᴰ x ds
    × (f x ≡ true)
keep_in f [] m = absurd (Memᴰ.not-nil m)
keep_in {D} f (d ∷ ds) {x} m = go (f d) refl m (λ k. keep_in f ds k)
  where
    go : (b : Bool) → f d ≡ b → Memᴰ x (cond b (d ∷ keep f ds) (keep f ds))
        → (Memᴰ x (keep f ds) → Memᴰ x ds × (f x ≡ true)) → Memᴰ x (d ∷ ds) × (f x ≡ true)
    go true e m ih = elim (Memᴰ.cases_cons m) [
      | inl q ↦ (Memᴰ.head q, ap f q ∙ e)
      | inr k ↦
          (Memᴰ.tail (ih k).0, (ih k).1)
    ]
    go false e m ih = (Memᴰ.tail (ih m).0, (ih m).1)

pub keep_has : {D : Type 0} (f : D → Bool) (ds : List D) {x : D} → Memᴰ x ds → f x ≡ true → Memᴰ x (keep f ds)
keep_has f [] m e = absurd (Memᴰ.not-nil m)
keep_has {D} f (d ∷ ds) {x} m e = go (f d) refl (Memᴰ.cases_cons m) (λ k. keep_has f ds k e)
  where
    go : (b : Bool) → f d ≡ b → (x ≡ d) ⊎ Memᴰ x ds → (Memᴰ x ds → Memᴰ x (keep f ds))
        → Memᴰ x (cond b (d ∷ keep f ds) (keep f ds))
    go true q (inl p) ih = Memᴰ.head p
    go true q (inr k) ih = Memᴰ.tail (ih k)
    go false q (inl p) ih = absurd (true≢false (sym e ∙ ap f p ∙ q))
    go false q (inr k) ih = ih k

pub keep_all : {D : Type 0} (f : D → Bool) (ds : List D) → ((d : D) → Memᴰ d ds → f d ≡ true) → keep f ds ≡ ds
keep_all f [] h = refl
keep_all f (d ∷ ds) h = rw (h d (Memᴰ.head refl))
    (ap (λ (l : List _). d ∷ l) (keep_all f ds (λ c m. h c (Memᴰ.tail m))))

pub keep_cong : {D : Type 0} (p q : D → Bool) (ds : List D) → ((d : D) → Memᴰ d ds → p d ≡ q d)
    → keep p ds ≡ keep q ds
keep_cong p q [] h = refl
keep_cong p q (d ∷ ds) h = rw (h d (Memᴰ.head refl), keep_cong p q ds (λ c k. h c (Memᴰ.tail k)))

pub keep_swap : {D : Type 0} (f g : D → Bool) (ds : List D) → keep f (keep g ds) ≡ keep g (keep f ds)
keep_swap f g [] = refl
keep_swap {D} f g (d ∷ ds) = go (f d) refl (g d) refl (keep_swap f g ds)
  where
    go : (a : Bool) → f d ≡ a → (b : Bool) → g d ≡ b → keep f (keep g ds) ≡ keep g (keep f ds)
        → keep f (cond b (d ∷ keep g ds) (keep g ds)) ≡ keep g (cond a (d ∷ keep f ds) (keep f ds))
    go true p true q ih = rw (p, q) (ap (λ (l : List D). d ∷ l) ih)
    go true p false q ih = rw q ih
    go false p true q ih = rw p ih
    go false p false q ih = ih

pub keep_none : {D : Type 0} (p : D → Bool) (ds : List D) → ((d : D) → Memᴰ d ds → p d ≡ false) → keep p ds ≡ []
keep_none p [] h = refl
keep_none p (d ∷ ds) h = rw (h d (Memᴰ.head refl)) (keep_none p ds (λ c m. h c (Memᴰ.tail m)))

pub keep_append : {D : Type 0} (p : D → Bool) (xs ys : List D) → keep p (xs ++ ys) ≡ keep p xs ++ keep p ys
keep_append p [] ys = refl
keep_append {D} p (x ∷ xs) ys = rw (keep_append p xs ys) (step (p x))
  where
    step : (b : Bool) → cond b (x ∷ (keep p xs ++ keep p ys)) (keep p xs ++ keep p ys)
        ≡ cond b (x ∷ keep p xs) (keep p xs) ++ keep p ys
    step true = refl
    step false = refl

-- all are kept but one, which was put last
pub keep_last : {D : Type 0} (p : D → Bool) (ds : List D) (x : D)
    → ((d : D) → Memᴰ d ds → p d ≡ true) → p x ≡ false → keep p (ds ++ x ∷ []) ≡ ds
keep_last {D} p ds x h e =
    keep_append p ds (x ∷ [])
    ∙ ap (λ (b : Bool). keep p ds ++ cond b (x ∷ []) []) e
    ∙ append-nil (keep p ds)
    ∙ keep_all p ds h

module _ {D E : Type 0} (f : D → E) where
  pub keep-map : (p : D → Bool) (q : E → Bool) (ds : List D) → ((d : D) → Memᴰ d ds → q (f d) ≡ p d)
      → keep q (map f ds) ≡ map f (keep p ds)
  keep-map p q [] h = refl
  keep-map p q (d ∷ ds) h = go (p d) (h d (Memᴰ.head refl)) (keep-map p q ds (λ c m. h c (Memᴰ.tail m)))
    where
      go : (b : Bool) → q (f d) ≡ b → keep q (map f ds) ≡ map f (keep p ds)
          → cond (q (f d)) (f d ∷ keep q (map f ds)) (keep q (map f ds)) ≡ map f (cond b (d ∷ keep p ds) (keep p ds))
      go true e ih = rw e (ap (λ (l : List E). f d ∷ l) ih)
      go false e ih = rw e ih

  -- none of the images stands twice
  pub distinct_map_keep : (p : D → Bool) (ds : List D) → Distinct (map f ds) → Distinct (map f (keep p ds))
  distinct_map_keep p [] h = tt
  distinct_map_keep p (d ∷ ds) h = go (p d) (distinct_map_keep p ds h.1)
    where
      later : Memᴰ (f d) (map f (keep p ds)) → Memᴰ (f d) (map f ds)
      later k = let w = Memᴰ.of_map f (keep p ds) k in Memᴰ.cast (sym w.2) (Memᴰ.map f (keep_in p ds w.1).0)

      go : (b : Bool) → Distinct (map f (keep p ds)) → Distinct (map f (cond b (d ∷ keep p ds) (keep p ds)))
      go true k = ((λ i. h.0 (later i)), k)
      go false k = k

pub distinct_keep : {D : Type 0} (p : D → Bool) (ds : List D) → Distinct ds → Distinct (keep p ds)
distinct_keep p [] dis = tt
distinct_keep p (d ∷ ds) dis = go (p d) (distinct_keep p ds dis.1)
  where
    go : (b : Bool) → Distinct (keep p ds) → Distinct (cond b (d ∷ keep p ds) (keep p ds))
    go true r = (λ m. dis.0 (keep_in p ds m).0, r)
    go false r = r

-- how many are kept
module _ {D : Type 0} (p : D → Bool) where
  pub keep-le : (ds : List D) → length (keep p ds) ≤ length ds
  keep-le [] = omega arith
  keep-le (d ∷ ds) = go (p d) (keep-le ds)
    where
      go : (b : Bool) → length (keep p ds) ≤ length ds → length (cond b (d ∷ keep p ds) (keep p ds)) ≤ suc (length ds)
      go true h = omega arith
      go false h = omega arith

  pub keep-lt : (ds : List D) {x : D} → Memᴰ x ds → p x ≡ false → suc (length (keep p ds)) ≤ length ds
  keep-lt [] k e = absurd (Memᴰ.not-nil k)
  keep-lt (d ∷ ds) {x} k e = go (p d) refl (Memᴰ.cases_cons k) (λ j. keep-lt ds j e)
    where
      go : (b : Bool) → p d ≡ b → (x ≡ d) ⊎ Memᴰ x ds
          → (Memᴰ x ds → suc (length (keep p ds)) ≤ length ds)
          → suc (length (cond b (d ∷ keep p ds) (keep p ds))) ≤ suc (length ds)
      go true q (inl z) ih = absurd (true≢false (sym q ∙ sym (ap p z) ∙ e))
      go true q (inr j) ih = let h = ih j in omega arith
      go false q j ih = let h = keep-le ds in omega arith

-- kept twice
pub keep-both : {A : Type 0} (p q : A → Bool) (l : List A) → keep q (keep p l) ≡ keep (λ x. p x && q x) l
keep-both p q [] = refl
keep-both {A} p q (x ∷ l) = go (p x) (keep-both p q l)
  where
    go : (b : Bool) → keep q (keep p l) ≡ keep (λ x. p x && q x) l → keep q (cond b (x ∷ keep p l) (keep p l))
        ≡ cond (b && q x) (x ∷ keep (λ x. p x && q x) l) (keep (λ x. p x && q x) l)
    go true ih = ap (λ (k : List A). cond (q x) (x ∷ k) k) ih
    go false ih = ih

-- ---- what holds of all elements and pairs, of those that are kept

module _ {A B : Type 0} (f : A → B) (p : A → Bool) where
  pub all_keep : (R : B → Type 0) (l : List A) → All R (map f l) → All R (map f (keep p l))
  all_keep R [] h = tt
  all_keep R (x ∷ l) h = go (p x) (all_keep R l h.1)
    where
      go : (b : Bool) → All R (map f (keep p l)) → All R (map f (cond b (x ∷ keep p l) (keep p l)))
      go true k = (h.0, k)
      go false k = k

  pub pairs_keep : (R : B → B → Type 0) (l : List A) → Pairs R (map f l) → Pairs R (map f (keep p l))
  pairs_keep R [] h = tt
  pairs_keep R (x ∷ l) h = go (p x) (pairs_keep R l h.1)
    where
      go : (b : Bool) → Pairs R (map f (keep p l)) → Pairs R (map f (cond b (x ∷ keep p l) (keep p l)))
      go true k = (all_keep (R (f x)) l h.0, k)
      go false k = k

-- a scan of the images of the elements that are kept
module _ {A B : Type 0} (q : B → Bool) (f : A → B) (k : A → Bool) where
  pub any_kept : (l : List A) → any_of q (map f (keep k l)) ≡ any_of (λ a. k a && q (f a)) l
  any_kept [] = refl
  any_kept (a ∷ l) =
      let later = any_kept l in
      elim (which (k a)) [ inl e ↦ rw (e, later) | inr e ↦ rw e later ]
