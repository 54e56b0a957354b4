-- A chain that each node has an even number of times is a cycle: it crosses each cut an even number of times. Assumes
-- nothing.
use mathlib.Core.Path.{◌≡◌, refl, sym, ap, ap₂, ◌∙◌}
use mathlib.Core.Logic.{inl, inr}
use mathlib.Core.Bool.{Bool, true, false, not, ◌&&◌}
use mathlib.Core.List.Memᴰ
use mathlib.Core.List.{List, [], ◌∷◌, Memᴰ}
use Prim.Native.Nat.{ℕ}
use Rattle.lists.specs.Tests.{◌⊕◌, same}
use Rattle.lists.specs.Scans.{odd_count}
use Rattle.lists.proofs.Bools.{eq1, eq2, eq4, ⊕-equal, which, same_refl, same_true}
use Rattle.lists.proofs.Sums.{sum_cong, sum-⊕, sum-zero}
use Rattle.planar_maps.specs.Map.{Arc, across, crossings, Cycle}
use Rattle.planar_maps.specs.Pieces.{Within}

-- X without the node n
less : ℕ → (ℕ → Bool) → ℕ → Bool
less n X m = X m && not (same m n)

clear : List ℕ → (ℕ → Bool) → ℕ → Bool
clear [] X = X
clear (n ∷ ns) X = clear ns (less n X)

at_n : (X : ℕ → Bool) (m n : ℕ) → X m ⊕ less n X m ≡ X n && same m n
unfolding less
at_n X m n = elim (which (same m n)) [
  | inl e ↦ rw (same_true m n e, same_refl n) (eq1 (λ x. x ⊕ (x && false)) (λ x. x && true) tt (X n))
  | inr e ↦ rw e (eq2 (λ x y. x ⊕ (x && true)) (λ x y. y && false) tt (X m) (X n))
]

clear-false : (ns : List ℕ) (X : ℕ → Bool) (m : ℕ) → X m ≡ false → clear ns X m ≡ false
unfolding clear less
clear-false [] X m e = e
clear-false (n ∷ ns) X m e = clear-false ns (less n X) m (rw e)

clear_in : (ns : List ℕ) (X : ℕ → Bool) (m : ℕ) → Memᴰ m ns → clear ns X m ≡ false
unfolding clear less
clear_in [] X m k = absurd (Memᴰ.not-nil k)
clear_in (n ∷ ns) X m k = elim (Memᴰ.cases_cons k) [
  | inl e ↦ clear-false ns (less n X) m (rw (e, same_refl n) (eq1 (λ x. x && false) (λ x. false) tt (X n)))
  | inr k' ↦ clear_in ns (less n X) m k'
]

module _ (es : List Arc) (c : ℕ → Bool) (even : (n : ℕ) → crossings es c (λ m. same m n) ≡ false) where
  less_crossings : (n : ℕ) (X : ℕ → Bool) → crossings es c X ≡ crossings es c (less n X)
  less_crossings n X = ⊕-equal (crossings es c X) (crossings es c (less n X))
      (sym (sum-⊕ es (λ a. c a.num && across X a) (λ a. c a.num && across (less n X) a)) ∙ both)
    where
      term : (a : Arc) → c a.num && across X a ⊕ (c a.num && across (less n X) a) ≡ X n
          && (c a.num && across (λ m. same m n) a)
      term a = eq4 (λ p q r k. k && (p ⊕ q) ⊕ (k && r)) (λ p q r k. k && (p ⊕ q ⊕ r)) tt (X a.from) (X a.to)
          (across (less n X) a) (c a.num)
          ∙ ap (λ x. c a.num && x) (eq4 (λ p q r s. p ⊕ q ⊕ (r ⊕ s)) (λ p q r s. p ⊕ r ⊕ (q ⊕ s)) tt (X a.from)
          (X a.to) (less n X a.from) (less n X a.to) ∙ ap₂ ◌⊕◌ (at_n X a.from n) (at_n X a.to n))
          ∙ eq4 (λ k x p q. k && (x && p ⊕ (x && q))) (λ k x p q. x && (k && (p ⊕ q))) tt (c a.num) (X n)
          (same a.from n) (same a.to n)

      both : odd_count es (λ a. c a.num && across X a ⊕ (c a.num && across (less n X) a)) ≡ false
      both = sum_cong es _ (λ a. X n && (c a.num && across (λ m. same m n) a)) (λ a m. term a) ∙ elim (which (X n)) [
        | inl e ↦ sum_cong es (λ a. X n && (c a.num && across (λ m. same m n) a))
            (λ a. c a.num && across (λ m. same m n) a) (λ a m. rw e) ∙ even n
        | inr e ↦ sum-zero es (λ a. X n && (c a.num && across (λ m. same m n) a)) (λ a m. rw e)
      ]

  clear-crossings : (ns : List ℕ) (X : ℕ → Bool) → crossings es c X ≡ crossings es c (clear ns X)
  unfolding clear
  clear-crossings [] X = refl
  clear-crossings (n ∷ ns) X = less_crossings n X ∙ clear-crossings ns (less n X)

  pub cycle_of_nodes : (nodes : List ℕ) → Within nodes es → Cycle es c
  cycle_of_nodes nodes w X = clear-crossings nodes X ∙ sum-zero es (λ a. c a.num && across (clear nodes X) a) (λ a m.
      rw (clear_in nodes X a.from (w.starts a m), clear_in nodes X a.to (w.ends a m))
      (eq1 (λ x. x && false) (λ x. false) tt (c a.num)))
