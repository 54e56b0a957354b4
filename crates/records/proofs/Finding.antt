-- The search for a node from a row on: a row is asked, there is none left; and a row that is found is there. Assumes
-- nothing.
use Rattle.std.specs.Prelude.{Option, Some, None}
use mathlib.Core.Path.{◌≡◌, refl}
use mathlib.Core.Bool.{Bool, true, false, cond, ◌&&◌}
use mathlib.Core.Logic.{inl, inr}
use mathlib.Core.List.{List, [], ◌∷◌, map}
use Prim.Native.Nat.{ℕ, suc, ◌+◌, ◌<◌, ◌≤◌, min}
use native.Mathlib.Omega.{arith}
use native.Mathlib.Numerals.{add-one}
use lib.IntN.{ℤ}
use lib.Dec.{ltb}
use lib.ListN.{length, get_or, take, drop, length-take, length-map, drop_of_length-le}
use lib.Seq.{drop-cons, get_or-take}
use borrow.Author.Tests.{ltb-true, ltb-false}
use Rattle.lists.specs.Tables.{place}
use Rattle.lists.proofs.Bools.{which}
use Rattle.tables.specs.Tables.{same_z}
use Rattle.records.specs.declared.Node.{Node}
use Rattle.records.specs.Records.{node_row}
pub use Rattle.records.proofs.Packing.{no_node, place-fits}

-- the answer of a search from row i on
abbrev pub searched : List Node → ℕ → ℤ → ℕ → Option ℕ
searched ys n v i = place (same_z v) i (map (λ r. r.number) (drop i (take n ys)))

next_row : (ys : List Node) (n i : ℕ) → i < length ys → i < n → drop i (take n ys) ≡ get_or ys i no_node
    ∷ drop (suc i) (take n ys)
next_row ys n i h k = let e : length (take n ys) ≡ min n (length ys) = length-take n ys in let s =
    drop-cons (take n ys) i no_node (omega arith) in rw (get_or-take n ys i no_node k) at s

-- past the last row nothing is found
pub ended : (ys : List Node) (n : ℕ) (v : ℤ) (i : ℕ) → min n (length ys) ≤ i → searched ys n v i ≡ None
ended ys n v i h = let e : length (take n ys) ≡ min n (length ys) = length-take n ys in
    rw (drop_of_length-le (take n ys) {i = i} (omega (arith, e)))

-- row i is asked, and what the rows after it gave
pub asked : (ys : List Node) (n : ℕ) (v : ℤ) (i : ℕ) → i < length ys
    → cond (ltb i n && same_z v (get_or ys i no_node).number) (Some i) (searched ys n v (i + 1)) ≡ searched ys n v i
asked ys n v i h = elim (which (ltb i n)) [
  | inl q ↦ rw (q, next_row ys n i h (ltb-true i n q), add-one i)
  | inr q ↦ (let k = ltb-false i n q in
      rw (q, ended ys n v i (omega arith), ended ys n v (i + 1) (omega arith)))
]

-- a row that is found is there
place_below : {A : Type 0} (p : A → Bool) (k : ℕ) (l : List A) (i : ℕ) → place p k l ≡ Some i → i < k + length l
place_below p k [] i e = let z : ◌≡◌ {A = ℕ} 0 1 = cc in absurd (omega arith)
place_below p k (r ∷ l) i e = pick (p r) refl (place_below p (k + 1) l i)
  where
    pick : (b : Bool) → p r ≡ b → (place p (k + 1) l ≡ Some i → i < k + 1 + length l) → i < k + length (r ∷ l)
    pick true q rest =
        let s : Some k ≡ Some i = rw q at e in
        let j : k ≡ i = cc in
        omega arith
    pick false q rest = let h = rest (rw q at e) in omega arith

pub found_below : (ys : List Node) (n : ℕ) (v : ℤ) (i : ℕ) → node_row ys n v ≡ Some i → i < length ys
found_below ys n v i e =
    let h = place_below (same_z v) 0 (map (λ r. r.number) (take n ys)) i e in
    let s : length (map (λ (r : Node). r.number) (take n ys)) ≡ length (take n ys) =
    length-map (take n ys) (λ (r : Node). r.number) in
    let t : length (take n ys) ≡ min n (length ys) = length-take n ys in
    omega arith
