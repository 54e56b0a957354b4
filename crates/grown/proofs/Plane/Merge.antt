-- Two faces made one: which numbers are left, and how many. Assumes nothing.
use mathlib.Core.Path.{◌≡◌, sym, ap, ◌∙◌}
use mathlib.Core.Logic.{◌⊎◌, inl, inr, ◌≢◌}
use mathlib.Core.Bool.{cond, not, ◌&&◌, ◌||◌}
use mathlib.Core.List.{List, Memᴰ}
use Prim.Native.Nat.{ℕ, suc}
use lib.ListN.{length}
use Rattle.lists.specs.Tests.{same}
use Rattle.lists.specs.Scans.{keep}
use Rattle.lists.specs.Members.{Distinct}
use Rattle.lists.proofs.Bools.{same_refl, same_eq, same_false, equal?, or_right}
use Rattle.lists.proofs.Keeps.{keep_has, keep_all, distinct_keep, keep_cong}
use Rattle.lists.proofs.Lookups.{length_without}
use Rattle.lists.proofs.Keeps.{keep-both}

-- the faces L and R become g
module _ (L R g : ℕ) where
  abbrev pub merged : ℕ → ℕ
  merged h = cond (same h L || same h R) g h

  pub merged_left : merged L ≡ g
  merged_left = ap (λ x. cond (x || same L R) g L) (same_refl L)

  pub merged_right : merged R ≡ g
  merged_right = ap (λ x. cond x g R) (or_right (same R L) (same R R) (same_refl R))

  pub merged_other : (h : ℕ) → h ≢ L → h ≢ R → merged h ≡ h
  merged_other h l r = rw (same_false h L l, same_false h R r)

  -- those that keep their number
  abbrev pub stay : List ℕ → List ℕ
  stay fs = keep (λ h. same h (merged h)) fs

  -- with g one of the two, the other goes
  stays_left : g ≡ L → L ≢ R → (h : ℕ) → same h (merged h) ≡ not (same h R)
  stays_left e ne h = elim (equal? h R) [
    | inl p ↦ ap (λ x. same x (merged x)) p ∙ ap (same R) (merged_right ∙ e) ∙ same_false R L (λ q. ne (sym q))
        ∙ sym (ap not (ap (λ x. same x R) p ∙ same_refl R))
    | inr r ↦ elim (equal? h L) [
      | inl p ↦ same_eq h (merged h)
          (p ∙ sym (ap merged p ∙ merged_left ∙ e))
      | inr l ↦ same_eq h (merged h) (sym (merged_other h l r))
    ] ∙ sym (ap not (same_false h R r))
  ]

  stays_right : g ≡ R → L ≢ R → (h : ℕ) → same h (merged h) ≡ not (same h L)
  stays_right e ne h = elim (equal? h L) [
    | inl p ↦ ap (λ x. same x (merged x)) p ∙ ap (same L) (merged_left ∙ e) ∙ same_false L R ne
        ∙ sym (ap not (ap (λ x. same x L) p ∙ same_refl L))
    | inr l ↦ elim (equal? h R) [
      | inl p ↦ same_eq h (merged h)
          (p ∙ sym (ap merged p ∙ merged_right ∙ e))
      | inr r ↦ same_eq h (merged h) (sym (merged_other h l r))
    ] ∙ sym (ap not (same_false h L l))
  ]

  module _ (fs : List ℕ) (dis : Distinct fs) (in_left : Memᴰ L fs) (in_right : Memᴰ R fs) where
    -- nothing changes
    pub stay_all : L ≡ R → g ≡ L → stay fs ≡ fs
    stay_all e q = keep_all (λ h. same h (merged h)) fs
        (λ h k. elim (equal? h L) [
          | inl p ↦ same_eq h (merged h)
              (p ∙ sym (ap merged p ∙ merged_left ∙ q))
          | inr l ↦ same_eq h (merged h) (sym (merged_other h l (λ p. l (p ∙ sym e))))
        ])

    -- one of the two is left
    pub stay_one : L ≢ R → (g ≡ L) ⊎ (g ≡ R) → length fs ≡ suc (length (stay fs))
    stay_one ne (inl e) = length_without R fs dis in_right
        ∙ ap (λ (l : List ℕ). suc (length l))
        (sym (keep_cong (λ h. same h (merged h)) (λ h. not (same h R)) fs (λ h k. stays_left e ne h)))
    stay_one ne (inr e) = length_without L fs dis in_left
        ∙ ap (λ (l : List ℕ). suc (length l))
        (sym (keep_cong (λ h. same h (merged h)) (λ h. not (same h L)) fs (λ h k. stays_right e ne h)))

    -- neither is left
    pub stay_none : L ≢ R → ((h : ℕ) → Memᴰ h fs → h ≢ g) → length fs ≡ suc (suc (length (stay fs)))
    stay_none ne new = length_without L fs dis in_left
        ∙ ap suc (length_without R (keep (λ h. not (same h L)) fs) (distinct_keep (λ h. not (same h L)) fs dis)
        (keep_has (λ h. not (same h L)) fs in_right (ap not (same_false R L (λ q. ne (sym q)))))
        ∙ ap (λ (l : List ℕ). suc (length l))
        (keep-both (λ h. not (same h L)) (λ h. not (same h R)) fs
        ∙ sym (keep_cong (λ h. same h (merged h)) (λ h. not (same h L) && not (same h R)) fs test)))
      where
        test : (h : ℕ) → Memᴰ h fs → same h (merged h) ≡ not (same h L) && not (same h R)
        test h k = elim (equal? h L) [
          | inl p ↦ same_false h (merged h) (λ q. new h k (q ∙ ap merged p ∙ merged_left))
              ∙ sym (ap (λ x. not x && not (same h R)) (same_eq h L p))
          | inr l ↦ elim (equal? h R) [
            | inl p ↦ same_false h (merged h) (λ q. new h k (q ∙ ap merged p ∙ merged_right))
                ∙ sym (rw (same_false h L l, same_eq h R p))
            | inr r ↦ same_eq h (merged h) (sym (merged_other h l r)) ∙ sym (rw (same_false h L l, same_false h R r))
          ]
        ]
