-- Numbers that rise from a least to a next. Assumes nothing.
use mathlib.Core.Path.{◌≡◌, refl}
use mathlib.Core.Bool.{Bool, true, false, cond, ◌&&◌}
use mathlib.Core.List.{List, [], ◌∷◌, ◌++◌, Memᴰ}
use Prim.Native.Nat.{ℕ, ◌+◌, ◌≤◌, ◌<◌}
use native.Mathlib.Omega.{arith}
use borrow.Author.Tests.{ltb-true, leb-true, lt-ltb, le-leb}
use lib.Dec.{leb, ltb}
use Rattle.lists.specs.Scans.{all_of, keep, linked}
use Rattle.lists.specs.Members.{All, Pairs, Distinct}
use Rattle.lists.proofs.Bools.{and-true, and_is}
use Rattle.lists.proofs.Keeps.{keep_in}
use Rattle.lists.proofs.Appends.{each_append}
use Rattle.lists.proofs.Members.{each_last, all_of_lem, each_of, all_each, each_all}

-- they rise from `least` on and stay below `next`
pub record Rising (least next : ℕ) (ns : List ℕ) : Type 0 where
  pub rises : Pairs ◌<◌ ns
  pub bounds : (n : ℕ) → Memᴰ n ns → (least ≤ n) × (n < next)

below_all : (a b : ℕ) (l : List ℕ) → a < b → All (λ n. b < n) l → All (λ n. a < n) l
below_all a b [] h k = tt
below_all a b (n ∷ l) h k = let j = k.0 in (omega arith, below_all a b l h k.1)

linked_pairs : (ns : List ℕ) → linked ltb ns ≡ true → Pairs ◌<◌ ns
linked_pairs [] h = tt
linked_pairs (a ∷ []) h = (tt, tt)
linked_pairs (a ∷ b ∷ l) h =
    let k = and-true (ltb a b) (linked ltb (b ∷ l)) h in
    let rest = linked_pairs (b ∷ l) k.1 in
    let less = ltb-true a b k.0 in
    ((less, below_all a b l less rest.0), rest)

pairs_linked : (ns : List ℕ) → Pairs ◌<◌ ns → linked ltb ns ≡ true
pairs_linked [] h = refl
pairs_linked (a ∷ []) h = refl
pairs_linked (a ∷ b ∷ l) h = and_is (lt-ltb a b h.0.0) (pairs_linked (b ∷ l) h.1)

-- as a test
abbrev rises_within : ℕ → ℕ → List ℕ → Bool
rises_within least next ns = linked ltb ns && all_of (λ n. leb least n && ltb n next) ns

pub rising : (least next : ℕ) (ns : List ℕ) → rises_within least next ns ≡ true → Rising least next ns
rising least next ns h =
    let k = and-true (linked ltb ns) (all_of (λ n. leb least n && ltb n next) ns) h in
    record {
      rises = linked_pairs ns k.0;
      bounds = λ n j.
          let b = and-true (leb least n) (ltb n next) (all_each (λ n. leb least n && ltb n next) ns k.1 n j) in
          (leb-true least n b.0, ltb-true n next b.1);
    }

pub rising_numbered : (least next : ℕ) (ns : List ℕ) → Rising least next ns → rises_within least next ns ≡ true
rising_numbered least next ns r =
    and_is (pairs_linked ns r.rises) (each_all (λ n. leb least n && ltb n next) ns
    (λ n k. and_is (le-leb least n (r.bounds n k).0) (lt-ltb n next (r.bounds n k).1)))

-- none stands twice
pub rising_distinct : (ns : List ℕ) → Pairs ◌<◌ ns → Distinct ns
rising_distinct [] h = tt
rising_distinct (a ∷ l) h = (λ k. let j = each_of (λ n. a < n) l h.0 a k in omega arith, rising_distinct l h.1)

-- the next number is given
pub rising_append : (least next : ℕ) (ns : List ℕ) → least ≤ next → Rising least next ns
    → Rising least (next + 1) (ns ++ next ∷ [])
rising_append least next ns low r = record {
  rises = pairs ns r.rises (λ n k. (r.bounds n k).1);
  bounds = each_last ns (λ n k. let b = r.bounds n k in (b.0, omega (arith, b.1))) (low, omega arith);
}
  where
    pairs : (l : List ℕ) → Pairs ◌<◌ l → ((n : ℕ) → Memᴰ n l → n < next) → Pairs ◌<◌ (l ++ next ∷ [])
    pairs [] h b = (tt, tt)
    pairs (a ∷ l) h b = (
      each_append (λ n. a < n) l (next ∷ []) h.0 (b a (Memᴰ.head refl), tt),
      pairs l h.1 (λ n k. b n (Memᴰ.tail k)),
    )

-- numbers are left out
pub rising_keep : (least next : ℕ) (p : ℕ → Bool) (ns : List ℕ) → Rising least next ns → Rising least next (keep p ns)
rising_keep least next p ns r = record { rises = pairs ns r.rises; bounds = λ n k. r.bounds n (keep_in p ns k).0 }
  where
    pairs : (l : List ℕ) → Pairs ◌<◌ l → Pairs ◌<◌ (keep p l)
    pairs [] h = tt
    pairs (a ∷ l) h = step (p a) (pairs l h.1)
      where
        step : (b : Bool) → Pairs ◌<◌ (keep p l) → Pairs ◌<◌ (cond b (a ∷ keep p l) (keep p l))
        step true ih = (all_of_lem (keep p l) (λ n k. each_of (λ n. a < n) l h.0 n (keep_in p l k).0), ih)
        step false ih = ih
