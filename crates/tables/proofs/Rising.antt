-- Numbers that rise from the least one allowed and stay below the next: one after the other. Assumes nothing.
use mathlib.Core.Path.{◌≡◌, refl, sym, ap, ◌∙◌}
use mathlib.Core.Bool.{Bool, true, false, ◌&&◌}
use mathlib.Core.Logic.{inl, inr}
use mathlib.Core.List.{List, [], ◌∷◌}
use Prim.Native.Nat.{ℕ, ◌+◌, ◌-◌, ◌<◌, ◌≤◌}
use native.Mathlib.Omega.{arith}
use lib.Dec.{leb, ltb}
use Rattle.std.proofs.Common.{is_le, is_lt, nat_cmp}
use Rattle.std.proofs.lemmas.Grind.{common_steps}
use borrow.Author.Tests.{leb-true, ltb-true, ltb-false, le-leb, lt-leb, lt-ltb}
use Rattle.lists.specs.Scans.{all_of, linked}
use Rattle.lists.specs.Tables.{table}
use Rattle.lists.proofs.Bools.{which, eq3, &&-false, and_left, and_right}
use Rattle.lists.proofs.Scans.{table_step, table-end}
use Rattle.tables.specs.Tables.{numbered}

-- ---- tests of all elements

module _ {A : Type 0} where
  pub all_weaker : (p q : A → Bool) → ((r : A) → p r ≡ true → q r ≡ true) → (l : List A) → all_of p l ≡ true → all_of q l
      ≡ true
  all_weaker p q h [] e = refl
  all_weaker p q h (r ∷ l) e = rw (h r (and_left (p r) (all_of p l) e))
      (all_weaker p q h l (and_right (p r) (all_of p l) e))

  pub all_same : (p q : A → Bool) → ((r : A) → p r ≡ q r) → (l : List A) → all_of p l ≡ all_of q l
  all_same p q h [] = refl
  all_same p q h (r ∷ l) = rw (h r, all_same p q h l)

-- ---- numbers in order

ltb-suc : (a b : ℕ) → ltb a b ≡ leb (a + 1) b
ltb-suc a b = elim (which (ltb a b)) [
  | inl e ↦ e
      ∙ sym (le-leb (a + 1) b (let h = ltb-true a b e in omega arith))
  | inr e ↦ e ∙ sym (lt-leb (a + 1) b (let h = ltb-false a b e in omega arith))
]

-- after a, numbers that rise are from a + 1 on
rise_after : (low next a : ℕ) (l : List ℕ) → low ≤ a + 1 → linked ltb (a ∷ l) && all_of (λ n. leb low n && ltb n next) l
    ≡ numbered (a + 1) next l
rise_after low next a [] h = refl
rise_after low next a (b ∷ l) h = elim (which (ltb a b)) [
  | inl e ↦ above e
      (λ k. rise_after k next b l)
  | inr e ↦ below e
]
  where
    below : ltb a b ≡ false → linked ltb (a ∷ b ∷ l) && all_of (λ n. leb low n && ltb n next) (b ∷ l)
        ≡ numbered (a + 1) next (b ∷ l)
    below e = rw (e, sym (ltb-suc a b) ∙ e) (sym (&&-false (linked ltb (b ∷ l))))

    above : ltb a b ≡ true → ((k : ℕ) → k ≤ b + 1 → linked ltb (b ∷ l) && all_of (λ n. leb k n && ltb n next) l
        ≡ numbered (b + 1) next l) → linked ltb (a ∷ b ∷ l) && all_of (λ n. leb low n && ltb n next) (b ∷ l)
        ≡ numbered (a + 1) next (b ∷ l)
    above e later =
        let g : a < b = ltb-true a b e in
        let s = later low (omega arith) in
        let t = later (a + 1) (omega arith) in
        let swap : (x y z : Bool) → x && (y && z) ≡ y && (x && z) =
        eq3 (λ x y z. x && (y && z)) (λ x y z. y && (x && z)) tt in
        rw (e, le-leb low b (omega arith), le-leb (a + 1) b (omega arith))
        (swap (linked ltb (b ∷ l)) (ltb b next) (all_of (λ n. leb low n && ltb n next) l)
        ∙ ap (λ (x : Bool). ltb b next && x) (s ∙ sym t)
        ∙ sym (swap (linked ltb (b ∷ l)) (ltb b next) (all_of (λ n. leb (a + 1) n && ltb n next) l)))

-- what a range tells of a number
pub in_range_is : (low n next : ℕ) → is_le (nat_cmp low n) && is_lt (nat_cmp n next) ≡ leb low n && ltb n next
in_range_is low n next = grind (arith, common_steps)

-- the first number is in range, and those after it rise from it
pub numbered-cons : (low next a : ℕ) (l : List ℕ) → numbered low next (a ∷ l) ≡ (leb low a && ltb a next)
    && numbered (a + 1) next l
numbered-cons low next a l = elim (which (leb low a)) [
  | inl e ↦ within e
  | inr e ↦ rw e
      (&&-false (linked ltb (a ∷ l)))
]
  where
    within : leb low a ≡ true → numbered low next (a ∷ l) ≡ (leb low a && ltb a next) && numbered (a + 1) next l
    within e =
        let g : low ≤ a = leb-true low a e in
        let swap : (x y z : Bool) → x && (y && z) ≡ y && (x && z) =
        eq3 (λ x y z. x && (y && z)) (λ x y z. y && (x && z)) tt in
        rw e (swap (linked ltb (a ∷ l)) (ltb a next) (all_of (λ n. leb low n && ltb n next) l)
        ∙ ap (λ (x : Bool). ltb a next && x) (rise_after low next a l (omega arith)))

-- a next number further on
pub numbered_wider : (least next top : ℕ) (l : List ℕ) → next ≤ top → numbered least next l ≡ true
    → numbered least top l ≡ true
numbered_wider least next top l h e =
    let s : linked ltb l ≡ true = and_left (linked ltb l) (all_of (λ n. leb least n && ltb n next) l) e in
    let t = and_right (linked ltb l) (all_of (λ n. leb least n && ltb n next) l) e in
    rw s (all_weaker (λ n. leb least n && ltb n next) (λ n. leb least n && ltb n top) wider l t)
  where
    wider : (n : ℕ) → leb least n && ltb n next ≡ true → leb least n && ltb n top ≡ true
    wider n q =
        let g : n < next = ltb-true n next (and_right (leb least n) (ltb n next) q) in
        rw (and_left (leb least n) (ltb n next) q, lt-ltb n top (omega arith))

module _ (g : ℕ → ℕ) (low next i n : ℕ) (h : i < n) where
  numbered_step : numbered low next (table g i (n - i)) ≡ (leb low (g i) && ltb (g i) next)
      && numbered (g i + 1) next (table g (i + 1) (n - (i + 1)))
  numbered_step = ap (numbered low next) (table_step g i n h)
      ∙ numbered-cons low next (g i) (table g (i + 1) (n - (i + 1)))

  -- b is the answer of a test whether the number m of row i is from low on and below the next one
  pub numbered_turn : {m : ℕ} {b : Bool} → m ≡ g i → b ≡ is_le (nat_cmp low m) && is_lt (nat_cmp m next)
      → numbered low next (table g i (n - i)) ≡ b && numbered (m + 1) next (table g (i + 1) (n - (i + 1)))
  numbered_turn {m} {b} e t = rw (t, e, in_range_is low (g i) next) numbered_step

pub numbered-end : (g : ℕ → ℕ) (low next i n : ℕ) → n ≤ i → numbered low next (table g i (n - i)) ≡ true
numbered-end g low next i n h = ap (numbered low next) (table-end g i n h)
