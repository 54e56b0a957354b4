-- Departures chained, each to the one before it in its slot: its node and the signs of its direction. A link of a chain
-- is one more than a position, and 0 ends the chain.
use Rattle.std.specs.Prelude.{◌≡◌, Bool, false, cond, ◌&&◌, ◌||◌, List, ℕ, zero, suc, ◌+◌, ◌*◌, ◌<◌, ◌≤◌, ℤ, get_or}
use Rattle.lists.specs.Tests.{same}
use Rattle.plane.specs.Directions.{signs, same_way}
use Rattle.darts.specs.Positions.{way_at}

-- one more than the greatest number below k that p takes, 0 where there is none
abbrev pub latest : (ℕ → Bool) → ℕ → ℕ
latest p zero = 0
latest p (suc k) = cond (p k) (suc k) (latest p k)

-- p takes some number below k
abbrev pub some_below : (ℕ → Bool) → ℕ → Bool
some_below p zero = false
some_below p (suc k) = p k || some_below p k

-- some of the first k directed edges starts in node row i
abbrev pub starts_in : List ℕ → ℕ → ℕ → Bool
starts_in starts k i = some_below (λ p. same (get_or starts p 0) i) k

-- the slot of position q: its node row and the signs of its direction
abbrev pub slot : List ℤ → List ℕ → ℕ → ℕ
slot l starts q = get_or starts q 0 * 9 + signs (way_at l q)

-- an earlier position of the slot of p has its direction
abbrev pub repeats : List ℤ → (ℕ → ℕ) → ℕ → Bool
repeats l f p = some_below (λ q. same (f q) (f p) && same_way (way_at l q) (way_at l p)) p

-- links that lead to what is before them
pub record LeadsBack (p : ℕ) (last back : List ℕ) : Type 0 where
  pub lasts : (j : ℕ) → get_or last j 0 ≤ p
  pub backs : (q : ℕ) → q < p → get_or back q 0 ≤ q

-- the chains after p positions
pub record Chained (f : ℕ → ℕ) (p : ℕ) (last back : List ℕ) : Type 0 where
  pub lasts : (j : ℕ) → get_or last j 0 ≡ latest (λ q. same (f q) j) p
  pub backs : (q : ℕ) → q < p → get_or back q 0 ≡ latest (λ r. same (f r) (f q)) q
  pub clear : (q : ℕ) → p ≤ q → get_or back q 0 ≡ 0
