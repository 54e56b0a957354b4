-- A chain meets the earlier positions of its slot, and a departure that joins it lengthens it by one. Assumes nothing.
use mathlib.Core.Path.{◌≡◌, refl, sym, ap, ◌∙◌}
use mathlib.Core.Bool.{Bool, true, false, ◌&&◌, false≢true}
use mathlib.Core.Logic.{inl, inr}
use mathlib.Core.List.{List}
use Prim.Native.Nat.{ℕ, zero, suc, ◌+◌, ◌-◌, ◌<◌, ◌≤◌}
use native.Mathlib.Numerals.{add-one}
use native.Mathlib.Omega.{arith}
use lib.ListN.{length, get_or, set}
use lib.Seq.{get_or-set_same, get_or-set_other}
use Rattle.lists.specs.Tests.{same}
use Rattle.lists.proofs.Bools.{which, equal?, &&-false, same_true, same_eq, same_false}
use Rattle.form_links.specs.Chains.{latest, some_below, LeadsBack, Chained}

-- ---- the latest that is taken

module _ (p : ℕ → Bool) where
  pub latest-le : (k : ℕ) → latest p k ≤ k
  latest-le zero = omega arith
  latest-le (suc k) = let later = latest-le k in
      elim (which (p k)) [ inl e ↦ rw e (omega arith) | inr e ↦ rw e (omega arith) ]

  latest_on : (k : ℕ) → p k ≡ true → latest p (k + 1) ≡ k + 1
  latest_on k e = rw (add-one k, e)

  latest_off : (k : ℕ) → p k ≡ false → latest p (k + 1) ≡ latest p k
  latest_off k e = rw (add-one k, e)

  -- the latest below it is itself
  pub latest_again : (k : ℕ) → latest p (latest p k) ≡ latest p k
  latest_again zero = refl
  latest_again (suc k) = let later = latest_again k in elim (which (p k)) [ inl e ↦ rw (e, e) | inr e ↦ rw e later ]

  -- and it is taken
  pub latest-taken : (c : ℕ) → (c ≡ 0 → ⊥) → c ≡ latest p c → p (c - 1) ≡ true
  latest-taken zero some e = absurd (some refl)
  latest-taken (suc k) some e =
      let le = latest-le k in
      let last : suc k - 1 ≡ k = omega arith in
      rw last (elim (which (p k)) [
        | inl f ↦ f
        | inr f ↦ let g : suc k ≡ latest p k = rw f at e in
            absurd (omega arith)
      ])

  -- what q takes besides lies below it
  pub below_latest : (q : ℕ → Bool) (k : ℕ) → some_below (λ i. p i && q i) (latest p k) ≡ some_below (λ i. p i && q i) k
  below_latest q zero = refl
  below_latest q (suc k) = let later = below_latest q k in elim (which (p k)) [ inl e ↦ rw (e, e) | inr e ↦ rw e later ]

-- a chain walked: link c is met, or what is before it is left
module _ (f q : ℕ → Bool) where
  pub chain_met : (c : ℕ) → (c ≡ 0 → ⊥) → c ≡ latest f c → q (c - 1) ≡ true → some_below (λ i. f i && q i) c ≡ true
  chain_met zero some e met = absurd (some refl)
  chain_met (suc k) some e met =
      let last : suc k - 1 ≡ k = omega arith in
      let taken = latest-taken f (suc k) some e in
      rw (rw last at taken, rw last at met)

  pub chain_on : (c : ℕ) → (c ≡ 0 → ⊥) → q (c - 1) ≡ false → (b : ℕ) → b ≡ latest f (c - 1)
      → some_below (λ i. f i && q i) b ≡ some_below (λ i. f i && q i) c
  chain_on zero some other b e = absurd (some refl)
  chain_on (suc k) some other b e =
      let last : suc k - 1 ≡ k = omega arith in
      let missed : f k && q k ≡ false = ap (λ (x : Bool). f k && x) (rw last at other) ∙ &&-false (f k) in
      rw (missed, e, last) (below_latest f q k)

pub below_some : (p : ℕ → Bool) (k : ℕ) → some_below p k ≡ true → (i : ℕ) × (i < k) × (p i ≡ true)
below_some p zero e = absurd (false≢true e)
below_some p (suc k) e =
    let later = below_some p k in
    elim (which (p k)) [
      | inl f ↦ (k, omega arith, f)
      | inr f ↦ let r = later (rw f at e) in let h = r.1 in
          (r.0, omega arith, r.2)
    ]

pub below_none : (p : ℕ → Bool) (k : ℕ) → some_below p k ≡ false → (i : ℕ) → i < k → p i ≡ false
below_none p zero e i h = absurd (omega arith)
below_none p (suc k) e i h =
    let later = below_none p k in
    elim (which (p k)) [
      | inl f ↦ absurd (false≢true (sym e ∙ rw f))
      | inr f ↦ elim (equal? i k) [ inl g ↦ rw g f | inr g ↦ later (rw f at e) i (omega arith) ]
    ]

-- ---- the chains

module _ {f : ℕ → ℕ} {p : ℕ} {last back : List ℕ} (w : Chained f p last back) where
  pub chained_leads : LeadsBack p last back
  chained_leads =
      record {
        lasts = λ j. rw (w.lasts j) (latest-le (λ q. same (f q) j) p);
        backs = λ q h. rw (w.backs q h) (latest-le (λ r. same (f r) (f q)) q);
      }

  -- the links of the slot of p
  pub last_is : {j : ℕ} → f p ≡ j → get_or last j 0 ≡ latest (λ q. same (f q) (f p)) p
  last_is {j} e = w.lasts j ∙ ap (λ (x : ℕ). latest (λ q. same (f q) x) p) (sym e)

  pub back_is : (q : ℕ) → q < p → same (f q) (f p) ≡ true → get_or back q 0 ≡ latest (λ r. same (f r) (f p)) q
  back_is q h e = w.backs q h ∙ ap (λ (x : ℕ). latest (λ r. same (f r) x) q) (same_true (f q) (f p) e)

  -- p joins its chain
  pub chained_on : {j : ℕ} → f p ≡ j → j < length last → (links : List ℕ) → get_or links p 0 ≡ get_or last j 0
      → ((q : ℕ) → (q ≡ p → ⊥) → get_or links q 0 ≡ get_or back q 0) → Chained f (p + 1) (set last j (p + 1)) links
  chained_on {j} e room links here others =
      record {
        lasts = λ i. elim (equal? i j) [
          | inl g ↦ ap (λ (x : ℕ). get_or (set last j (p + 1)) x 0) g ∙ get_or-set_same last j (p + 1) 0 room
              ∙ sym (latest_on (λ q. same (f q) i) p (same_eq (f p) i (e ∙ sym g)))
          | inr g ↦ get_or-set_other last j i (p + 1) 0 g ∙ w.lasts i
              ∙ sym (latest_off (λ q. same (f q) i) p (same_false (f p) i (λ d. g (sym d ∙ e))))
        ];
        backs = λ q h. elim (equal? q p) [
          | inl g ↦ ap (λ (x : ℕ). get_or links x 0) g ∙ here ∙ last_is e
              ∙ ap (λ (x : ℕ). latest (λ r. same (f r) (f x)) x) (sym g)
          | inr g ↦ others q g ∙ w.backs q (omega arith)
        ];
        clear = λ q h. others q (λ g. omega arith) ∙ w.clear q (omega arith);
      }

-- no position is passed
pub none_chained : (f : ℕ → ℕ) {last back : List ℕ} → ((i : ℕ) → get_or last i 0 ≡ 0) → ((i : ℕ) → get_or back i 0 ≡ 0)
    → Chained f 0 last back
none_chained f clear none = record { lasts = clear; backs = λ q h. absurd (omega arith); clear = λ q h. none q }
