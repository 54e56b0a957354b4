-- The first departure met clockwise with one more besides, last in the list; and that it is one of them. Assumes
-- nothing.
use mathlib.Core.Path.{◌≡◌, refl, sym, ap, ◌∙◌, subst}
use mathlib.Core.Logic.{inl, inr}
use mathlib.Core.Bool.{Bool, true, false, cond, ◌&&◌}
use mathlib.Core.List.Memᴰ
use mathlib.Core.List.{List, [], ◌∷◌, ◌++◌, append-nil, Memᴰ}
use Prim.Native.Nat.{ℕ, ◌<◌}
use Rattle.lists.specs.Scans.{keep}
use Rattle.lists.proofs.Bools.{not-true}
use Rattle.lists.proofs.Keeps.{keep_in, keep_has, keep_append}
use Rattle.lists.proofs.Members.{some?}
use Rattle.plane.specs.Directions.{Way, before}
use Rattle.rotation.specs.Law.{greatest, pick, first_clockwise}
use Rattle.rotation.proofs.Node.{first_in, first_none}
use Rattle.reason_corners.specs.Drawing.{first_of}

module _ (way : ℕ → Way) (v : Way) where
  abbrev early : ℕ → Bool
  early d = before (way d) v

  greatest_more : (u x : ℕ) (ds : List ℕ) → greatest way u (ds ++ x ∷ [])
      ≡ cond (before (way (greatest way u ds)) (way x)) x (greatest way u ds)
  greatest_more u x [] = refl
  greatest_more u x (d ∷ ds) = greatest_more (cond (before (way u) (way d)) d u) x ds

  -- what a test says of them all it says of the greatest
  greatest_test : (b : Bool) (u : ℕ) (ds : List ℕ) → ((d : ℕ) → Memᴰ d (u ∷ ds) → early d ≡ b)
      → early (greatest way u ds) ≡ b
  greatest_test b u [] h = h u (Memᴰ.head refl)
  greatest_test b u (d ∷ ds) h = go (before (way u) (way d)) (λ w g. greatest_test b w ds g)
    where
      go : (s : Bool) → ((w : ℕ) → ((c : ℕ) → Memᴰ c (w ∷ ds) → early c ≡ b) → early (greatest way w ds) ≡ b)
          → early (greatest way (cond s d u) ds) ≡ b
      go true ih = ih d (λ c m. h c (Memᴰ.tail m))
      go false ih = ih u (λ c m. elim (Memᴰ.cases_cons m) [
        | inl e ↦ h c (Memᴰ.head e)
        | inr k ↦ h c
            (Memᴰ.tail (Memᴰ.tail k))
      ])

  and-true : (b : Bool) (x y : ℕ) → cond b x y ≡ cond (b && true) x y
  and-true true x y = refl
  and-true false x y = refl

  and-false : (b : Bool) (x y : ℕ) → y ≡ cond (b && false) x y
  and-false true x y = refl
  and-false false x y = refl

  -- one more departure
  pub first_more : (u x d : ℕ) (ds : List ℕ) → first_clockwise way v u ((d ∷ ds) ++ x ∷ [])
      ≡ first_of way v (first_clockwise way v u (d ∷ ds)) x
  unfolding first_clockwise pick
  first_more u x d ds =
      ap (pick way (pick way u (d ∷ (ds ++ x ∷ [])))) (keep_append early (d ∷ ds) (x ∷ []))
      ∙ go (keep early (d ∷ ds)) refl (early x) refl
    where
      none_early : keep early (d ∷ ds) ≡ [] → early (greatest way d ds) ≡ false
      none_early e = greatest_test false d ds
          (λ c m. not-true (early c) (λ h. Memᴰ.not-nil
          (subst (λ (k : List ℕ). Memᴰ c k) e (keep_has early (d ∷ ds) m h))))

      all_early : (k : ℕ) (ks : List ℕ) → keep early (d ∷ ds) ≡ k ∷ ks → early (greatest way k ks) ≡ true
      all_early k ks e = greatest_test true k ks
          (λ c m. (keep_in early (d ∷ ds) (subst (λ (r : List ℕ). Memᴰ c r) (sym e) m)).1)

      go : (k : List ℕ) → keep early (d ∷ ds) ≡ k → (b : Bool) → early x ≡ b
          → pick way (pick way u (d ∷ (ds ++ x ∷ []))) (k ++ cond b (x ∷ []) [])
          ≡ first_of way v (pick way (pick way u (d ∷ ds)) k) x
      go [] e true f = rw (f, none_early e)
      go [] e false f = rw (f, none_early e)
          (greatest_more d x ds ∙ and-true (before (way (greatest way d ds)) (way x)) x (greatest way d ds))
      go (k ∷ ks) e true f = rw (f, all_early k ks e)
          (greatest_more k x ks ∙ and-true (before (way (greatest way k ks)) (way x)) x (greatest way k ks))
      go (k ∷ ks) e false f = rw (f, all_early k ks e)
          (ap (greatest way k) (append-nil ks)
          ∙ and-false (before (way (greatest way k ks)) (way x)) x (greatest way k ks))

  -- it is one of them, or what stands in for none
  pub first_below : (n u : ℕ) (ds : List ℕ) → u < n → ((d : ℕ) → Memᴰ d ds → d < n) → first_clockwise way v u ds < n
  first_below n u ds h below =
      elim (some? ds) [
        | inl q ↦ below (first_clockwise way v u ds) (first_in way v u ds q.1)
        | inr q ↦ rw (first_none way v u ds q) h
      ]
