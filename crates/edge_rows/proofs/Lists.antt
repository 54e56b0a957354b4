-- Lists of rows with one more at the end. Assumes nothing.
use mathlib.Core.Path.{◌≡◌, refl}
use mathlib.Core.Bool.{Bool, true, false, ◌&&◌}
use mathlib.Core.Logic.{inl, inr}
use mathlib.Core.List.{List, [], ◌∷◌, ◌++◌}
use Prim.Native.Nat.{ℕ, ◌≤◌, ◌<◌}
use native.Mathlib.Omega.{arith}
use lib.Dec.{leb, ltb}
use borrow.Author.Tests.{ltb-true, lt-ltb, le-leb}
use Rattle.lists.specs.Scans.{all_of, find, is_some, linked}
use Rattle.lists.proofs.Appends.{all_append}
use Rattle.lists.proofs.Bools.{which}
use Rattle.curves.proofs.Runs.{and_left, and_right}
use Rattle.tables.specs.Tables.{numbered}
use Rattle.tables.proofs.Rising.{all_weaker}

module _ {A : Type 0} (p : A → Bool) where
  -- a row found among fewer, and the last one
  pub find_more : (xs ys : List A) → is_some (find p xs) ≡ true → is_some (find p (xs ++ ys)) ≡ true
  find_more [] ys h = let z : false ≡ true = h in let k : ◌≡◌ {A = ℕ} 0 1 = cc in absurd (omega arith)
  find_more (x ∷ xs) ys h = let later = find_more xs ys in
      elim (which (p x)) [ inl e ↦ rw e | inr e ↦ rw e (later (rw e at h)) ]

  pub find_last : (xs : List A) (y : A) → p y ≡ true → is_some (find p (xs ++ y ∷ [])) ≡ true
  find_last [] y h = rw h
  find_last (x ∷ xs) y h = let later = find_last xs y h in elim (which (p x)) [ inl e ↦ rw e | inr e ↦ rw e later ]

-- ---- numbers in rising order

linked_push : (k : ℕ) (ns : List ℕ) → linked ltb ns ≡ true → all_of (λ n. ltb n k) ns ≡ true → linked ltb (ns ++ k ∷ [])
    ≡ true
linked_push k [] h b = refl
linked_push k (a ∷ []) h b = rw (and_left (ltb a k) true b)
linked_push k (a ∷ c ∷ ns) h b = rw (and_left (ltb a c) (linked ltb (c ∷ ns)) h)
    (linked_push k (c ∷ ns) (and_right (ltb a c) (linked ltb (c ∷ ns)) h)
    (and_right (ltb a k) (all_of (λ n. ltb n k) (c ∷ ns)) b))

-- the next number given
pub numbered_push : (least k top : ℕ) (ns : List ℕ) → numbered least k ns ≡ true → least ≤ k → k < top
    → numbered least top (ns ++ k ∷ []) ≡ true
numbered_push least k top ns h from to =
    let rise = and_left (linked ltb ns) (all_of (λ n. leb least n && ltb n k) ns) h in
    let each = and_right (linked ltb ns) (all_of (λ n. leb least n && ltb n k) ns) h in
    let ends : all_of (λ n. leb least n && ltb n top) (k ∷ []) ≡ true = rw (le-leb least k from, lt-ltb k top to) in
    rw (linked_push k ns rise (all_weaker (λ n. leb least n && ltb n k) (λ n. ltb n k)
    (λ n. and_right (leb least n) (ltb n k)) ns each))
    (all_append (λ n. leb least n && ltb n top) ns (k ∷ [])
    (all_weaker (λ n. leb least n && ltb n k) (λ n. leb least n && ltb n top) below ns each) ends)
  where
    below : (n : ℕ) → leb least n && ltb n k ≡ true → leb least n && ltb n top ≡ true
    below n e =
        let t = ltb-true n k (and_right (leb least n) (ltb n k) e) in
        rw (and_left (leb least n) (ltb n k) e, lt-ltb n top (omega arith))
