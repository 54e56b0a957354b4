-- Equations of Booleans by their truth tables, and what `same` tells. Assumes nothing.
use mathlib.Core.Path.{◌≡◌, refl, sym, ◌∙◌, subst}
use mathlib.Core.Logic.{◌⊎◌, inl, inr}
use mathlib.Core.Bool.{Bool, true, false, ◌&&◌, ◌||◌, cond, beq, true≢false}
use Prim.Native.Nat.{ℕ}
use lib.Dec.{T, eqb, eqb→eq, eqb_refl}
use Rattle.lists.specs.Tests.{◌⊕◌, same}

beq→≡ : (a b : Bool) → T (beq a b) → a ≡ b
beq→≡ true true t = refl
beq→≡ true false t = absurd t
beq→≡ false true t = absurd t
beq→≡ false false t = refl

abbrev pub both : (Bool → Bool) → Bool
both p = p true && p false

left : (a b : Bool) → T (a && b) → T a
left true b t = tt
left false b t = t

right : (a b : Bool) → T (a && b) → T b
right true b t = t
right false b t = absurd t

pub by : (p : Bool → Bool) → T (both p) → (b : Bool) → T (p b)
by p t true = left (p true) (p false) t
by p t false = right (p true) (p false) t

-- an equation of two Boolean terms, by the table of both: the proof is `tt`
pub eq1 : (f g : Bool → Bool) → T (both λ a. beq (f a) (g a)) → (a : Bool) → f a ≡ g a
eq1 f g t a = beq→≡ (f a) (g a) (by (λ a. beq (f a) (g a)) t a)

pub eq2 : (f g : Bool → Bool → Bool) → T (both λ a. both λ b. beq (f a b) (g a b)) → (a b : Bool) → f a b ≡ g a b
eq2 f g t a b = eq1 (f a) (g a) (by (λ a. both λ b. beq (f a b) (g a b)) t a) b

pub eq3 : (f g : Bool → Bool → Bool → Bool) → T (both λ a. both λ b. both λ c. beq (f a b c) (g a b c))
    → (a b c : Bool) → f a b c ≡ g a b c
eq3 f g t a b c = eq2 (f a) (g a) (by (λ a. both λ b. both λ c. beq (f a b c) (g a b c)) t a) b c

pub eq4 : (f g : Bool → Bool → Bool → Bool → Bool)
    → T (both λ a. both λ b. both λ c. both λ d. beq (f a b c d) (g a b c d)) → (a b c d : Bool) → f a b c d
    ≡ g a b c d
eq4 f g t a b c d = eq3 (f a) (g a) (by (λ a. both λ b. both λ c. both λ d. beq (f a b c d) (g a b c d)) t a) b c d

pub ⊕-self : (a : Bool) → a ⊕ a ≡ false
⊕-self = eq1 (λ a. a ⊕ a) (λ a. false) tt

pub ⊕-false : (a : Bool) → a ⊕ false ≡ a
⊕-false = eq1 (λ a. a ⊕ false) (λ a. a) tt

pub &&-false : (a : Bool) → a && false ≡ false
&&-false = eq1 (λ a. a && false) (λ a. false) tt

pub ⊕-equal : (a b : Bool) → a ⊕ b ≡ false → a ≡ b
⊕-equal true true e = refl
⊕-equal true false e = absurd (true≢false e)
⊕-equal false true e = absurd (true≢false e)
⊕-equal false false e = refl

pub not-true : (b : Bool) → ((b ≡ true) → ⊥) → b ≡ false
not-true true h = absurd (h refl)
not-true false h = refl

pub T→≡ : (b : Bool) → T b → b ≡ true
T→≡ true t = refl
T→≡ false t = absurd t

pub ≡→T : (b : Bool) → b ≡ true → T b
≡→T b e = subst T (sym e) tt

pub beq_true : (a b : Bool) → beq a b ≡ true → a ≡ b
beq_true a b e = beq→≡ a b (≡→T (beq a b) e)

pub beq_refl : (b : Bool) → beq b b ≡ true
beq_refl true = refl
beq_refl false = refl

pub same_refl : (n : ℕ) → same n n ≡ true
unfolding same
same_refl n = T→≡ (eqb n n) (eqb_refl n)

pub same_true : (a b : ℕ) → same a b ≡ true → a ≡ b
unfolding same
same_true a b e = eqb→eq a b (≡→T (eqb a b) e)

pub same_eq : (a b : ℕ) → a ≡ b → same a b ≡ true
same_eq a b e = subst (λ (x : ℕ). same a x ≡ true) e (same_refl a)

pub same_false : (a b : ℕ) → ((a ≡ b) → ⊥) → same a b ≡ false
same_false a b h = not-true (same a b) (λ e. h (same_true a b e))

pub differ : (a b : ℕ) → same a b ≡ false → (a ≡ b) → ⊥
differ a b e p = true≢false (sym (same_eq a b p) ∙ e)

-- a Boolean with the case it is in
pub which : (b : Bool) → (b ≡ true) ⊎ (b ≡ false)
which true = inl refl
which false = inr refl

pub same_sym : (a b : ℕ) → same a b ≡ same b a
same_sym a b = elim (which (same a b)) [
  | inl e ↦ e ∙ sym (same_eq b a (sym (same_true a b e)))
  | inr e ↦ e
      ∙ sym (same_false b a (λ q. differ a b e (sym q)))
]

pub equal? : (a b : ℕ) → (a ≡ b) ⊎ ((a ≡ b) → ⊥)
equal? a b = elim (which (same a b)) [ inl e ↦ inl (same_true a b e) | inr e ↦ inr (differ a b e) ]

pub either : {A : Type 0} (b : Bool) (v : A) → cond b v v ≡ v
either true v = refl
either false v = refl

-- what two have, the one of them that is taken has
pub cond_has : {A : Type 0} (P : A → Type 0) (b : Bool) {x y : A} → P x → P y → P (cond b x y)
cond_has P true h k = h
cond_has P false h k = k

pub or-true : (a b : Bool) → a || b ≡ true → (a ≡ true) ⊎ (b ≡ true)
or-true true b e = inl refl
or-true false b e = inr e

pub or-false : (a b : Bool) → a || b ≡ false → (a ≡ false) × (b ≡ false)
or-false true b e = absurd (true≢false e)
or-false false b e = (refl, e)

pub or_right : (a b : Bool) → b ≡ true → a || b ≡ true
or_right true b e = refl
or_right false b e = e

pub or_left : {a : Bool} (b : Bool) → a ≡ true → a || b ≡ true
or_left b e = λ i. e i || b

pub or_no : {a b : Bool} → a ≡ false → b ≡ false → a || b ≡ false
or_no e f = λ i. e i || f i

pub and-true : (a b : Bool) → a && b ≡ true → (a ≡ true) × (b ≡ true)
and-true true b e = (refl, e)
and-true false b e = absurd (true≢false (sym e))

pub and_left : (a b : Bool) → a && b ≡ true → a ≡ true
and_left a b e = (and-true a b e).0

pub and_right : (a b : Bool) → a && b ≡ true → b ≡ true
and_right a b e = (and-true a b e).1

pub and_is : {a b : Bool} → a ≡ true → b ≡ true → a && b ≡ true
and_is e f = λ i. e i && f i

pub ⊕-differ : (a b : Bool) → ((a ≡ b) → ⊥) → a ⊕ b ≡ true
⊕-differ a b h = elim (which (a ⊕ b)) [ inl e ↦ e | inr e ↦ absurd (h (⊕-equal a b e)) ]

pub agree : (a b : Bool) → (a ≡ true → b ≡ true) → (b ≡ true → a ≡ true) → a ≡ b
agree true b p q = sym (p refl)
agree false true p q = q refl
agree false false p q = refl
