-- Linear equations over bits: fewer of them than unknowns have a solution that is not empty (`solution`). Assumes
-- nothing.
use mathlib.Core.Path.{◌≡◌, refl, sym, ap, ◌∙◌}
use mathlib.Core.Logic.{inl, inr}
use mathlib.Core.Bool.{Bool, true, false, ◌&&◌}
use mathlib.Core.List.Memᴰ
use mathlib.Core.List.{List, [], ◌∷◌, map, Memᴰ}
use Prim.Native.Nat.{ℕ, ◌<◌}
use native.Mathlib.Omega.{arith}
use lib.ListN.{length, length-map}
use Rattle.lists.specs.Tests.{◌⊕◌, same}
use Rattle.lists.specs.Scans.{odd_count}
use Rattle.lists.specs.Members.{Distinct}
use Rattle.lists.specs.Functionals.{Functional, Solution}
use Rattle.lists.proofs.Bools.{eq1, eq2, eq4, &&-false, which, same_refl, same_true, same_false}
use Rattle.lists.proofs.Members.{takes?}
use Rattle.lists.proofs.Perms.{extract, perm_in, perm_length}

-- two such sums together
pub sums : (s r p q b : Bool) → s ⊕ (b && r) ⊕ (p ⊕ (b && q)) ≡ s ⊕ p ⊕ (b && (r ⊕ q))
sums s r p q true = eq4 (λ s r p q. s ⊕ r ⊕ (p ⊕ q)) (λ s r p q. s ⊕ p ⊕ (r ⊕ q)) tt s r p q
sums s r p q false = eq2 (λ s p. s ⊕ false ⊕ (p ⊕ false)) (λ s p. s ⊕ p ⊕ false) tt s p

-- ---- functionals: whether n is in the set, k times one, the sum of two and of a list

abbrev pub point : ℕ → Functional
point n = record { at = λ S. S n; linear = λ S R b. refl }

abbrev pub scaled : Bool → Functional → Functional
scaled k φ = record {
  at = λ S. k && φ.at S;
  linear = λ S R b. ap (λ v. k && v) (φ.linear S R b)
      ∙ eq4 (λ k s b r. k && (s ⊕ (b && r))) (λ k s b r. k && s ⊕ (b && (k && r))) tt k (φ.at S) b (φ.at R);
}

abbrev pub plus : Functional → Functional → Functional
plus φ ψ = record {
  at = λ S. φ.at S ⊕ ψ.at S;
  linear = λ S R b. rw (φ.linear S R b, ψ.linear S R b) (sums (φ.at S) (φ.at R) (ψ.at S) (ψ.at R) b);
}

pub plus_all : {A : Type 0} → List A → (A → Functional) → Functional
plus_all [] f = record { at = λ S. false; linear = λ S R b. sym (&&-false b) }
plus_all (a ∷ l) f = plus (f a) (plus_all l f)

pub plus_all_lem : {A : Type 0} (l : List A) (f : A → Functional) (S : ℕ → Bool)
    → (plus_all l f).at S ≡ odd_count l (λ a. (f a).at S)
unfolding plus_all
plus_all_lem [] f S = refl
plus_all_lem (a ∷ l) f S = ap (λ v. (f a).at S ⊕ v) (plus_all_lem l f S)

-- ---- S with T, if b: a functional that is 0 at T does not see it

pub unseen : (φ : Functional) (S T : ℕ → Bool) (b : Bool) → φ.at T ≡ false → φ.at (λ n. S n ⊕ (b && T n)) ≡ φ.at S
unseen φ S T b e = φ.linear S T b ∙ ap (λ v. φ.at S ⊕ (b && v)) e
    ∙ eq2 (λ p q. p ⊕ (q && false)) (λ p q. p) tt (φ.at S) b

-- S without the numbers xs
pub cleared : List ℕ → (ℕ → Bool) → ℕ → Bool
cleared [] S = S
cleared (x ∷ xs) S = cleared xs (λ n. S n ⊕ (S x && same n x))

pub cleared_at : (φ : Functional) (xs : List ℕ) → ((x : ℕ) → Memᴰ x xs → φ.at (λ n. same n x) ≡ false)
    → (S : ℕ → Bool) → φ.at (cleared xs S) ≡ φ.at S
unfolding cleared
cleared_at φ [] h S = refl
cleared_at φ (x ∷ xs) h S = cleared_at φ xs (λ z k. h z (Memᴰ.tail k)) (λ n. S n ⊕ (S x && same n x))
    ∙ unseen φ S (λ n. same n x) (S x) (h x (Memᴰ.head refl))

pub cleared-false : (xs : List ℕ) (S : ℕ → Bool) (n : ℕ) → S n ≡ false → cleared xs S n ≡ false
unfolding cleared
cleared-false [] S n e = e
cleared-false (x ∷ xs) S n e = cleared-false xs (λ n. S n ⊕ (S x && same n x)) n (elim (which (same n x)) [
  | inl q ↦ rw (← same_true n x q, e)
  | inr q ↦ rw (e, q) (&&-false (S x))
])

pub cleared_in : (xs : List ℕ) (S : ℕ → Bool) (n : ℕ) → Memᴰ n xs → cleared xs S n ≡ false
unfolding cleared
cleared_in [] S n m = absurd (Memᴰ.not-nil m)
cleared_in (x ∷ xs) S n m = elim (Memᴰ.cases_cons m) [
  | inl q ↦ cleared-false xs (λ n. S n ⊕ (S x && same n x)) n
      (rw (q, same_refl x) (eq1 (λ s. s ⊕ (s && true)) (λ s. false) tt (S x)))
  | inr k ↦ cleared_in xs (λ n. S n ⊕ (S x && same n x)) n k
]

-- ---- an unknown is eliminated: x is put in or taken out, so that φ is 0

module _ (φ : Functional) (x : ℕ) where
  moved : (ℕ → Bool) → ℕ → Bool
  moved S n = S n ⊕ (φ.at S && same n x)

  moved_linear : (S R : ℕ → Bool) (b : Bool) (n : ℕ) → moved (λ m. S m ⊕ (b && R m)) n ≡ moved S n ⊕ (b && moved R n)
  unfolding moved
  moved_linear S R b n = ap (λ v. S n ⊕ (b && R n) ⊕ (v && same n x)) (φ.linear S R b)
      ∙ ap (λ v. S n ⊕ (b && R n) ⊕ v) (eq4 (λ p b q s. (p ⊕ (b && q)) && s) (λ p b q s. p && s ⊕ (b && (q && s))) tt
      (φ.at S) b (φ.at R) (same n x))
      ∙ sums (S n) (R n) (φ.at S && same n x) (φ.at R && same n x) b

  -- ψ of the set that is made so
  behind : Functional → Functional
  behind ψ =
      record {
        at = λ S. ψ.at (moved S);
        linear = λ S R b. ap ψ.at (λ i n. moved_linear S R b n i) ∙ ψ.linear (moved S) (moved R) b;
      }

  moved_zero : φ.at (λ n. same n x) ≡ true → (S : ℕ → Bool) → φ.at (moved S) ≡ false
  unfolding moved
  moved_zero e S = φ.linear S (λ n. same n x) (φ.at S) ∙ rw e (eq1 (λ a. a ⊕ (a && true)) (λ a. false) tt (φ.at S))

  moved_other : (S : ℕ → Bool) (n : ℕ) → ((n ≡ x) → ⊥) → moved S n ≡ S n
  unfolding moved
  moved_other S n ne = rw (same_false n x ne) (eq2 (λ s p. s ⊕ (p && false)) (λ s p. s) tt (S n) (φ.at S))

-- an equation that sees the first unknown is solved for it and put into the others; where none sees it, it is a
-- solution
pub solution : (xs : List ℕ) → Distinct xs → (fs : List Functional) → length fs < length xs → Solution xs fs
unfolding behind
solution [] dis fs h = absurd (omega arith)
solution (x ∷ xs) dis fs h =
    elim (takes? (λ φ. φ.at (λ n. same n x)) fs) [
      | inr none ↦ ((λ n. same n x), none, (x, Memᴰ.head refl, same_refl x))
      | inl p ↦ step p.0 p.1 p.2 (solution xs dis.1)
    ]
  where
    step : (φ : Functional) → Memᴰ φ fs → φ.at (λ n. same n x) ≡ true
        → ((gs : List Functional) → length gs < length xs → Solution xs gs) → Solution (x ∷ xs) fs
    step φ m e ih = (
      moved φ x S,
      λ ψ k. elim (Memᴰ.cases_cons (perm_in (extract m).1 k)) [
        | inl q ↦ rw q (moved_zero φ x e S)
        | inr n ↦ r.1 (behind φ x ψ) (Memᴰ.map (behind φ x) n)
      ],
      (
        r.2.0,
        Memᴰ.tail r.2.1,
        moved_other φ x S r.2.0 (λ q. dis.0 (Memᴰ.cast (sym q) r.2.1))
            ∙ r.2.2,
      ),
    )
      where
        r : Solution xs (map (behind φ x) (extract m).0)
        r =
            ih (map (behind φ x) (extract m).0) (omega (
              arith,
              length-map (extract m).0 (behind φ x),
              perm_length (extract m).1,
            ))

        S : ℕ → Bool
        S = r.0
