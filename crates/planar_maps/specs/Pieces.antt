-- Chains of edges from node to node, and the pieces of a map. Definitions only. Assumes nothing.
use Rattle.std.specs.Prelude.{◌≡◌, cond, ◌||◌, ℕ, ◌+◌, min, length}
use mathlib.Core.List.{List, [], ◌∷◌, map, Memᴰ}
use Rattle.lists.specs.Tests.{same}
use Rattle.lists.specs.Scans.{count_of}
use Rattle.planar_maps.specs.Map.{Arc}

-- a chain of edges leads from a node to another, each edge taken either way
pub data Chain (es : List Arc) : ℕ → ℕ → Type 0 where
  stay : {n : ℕ} → Chain es n n
  along : {n : ℕ} (a : Arc) → Memᴰ a es → Chain es a.to n → Chain es a.from n
  against : {n : ℕ} (a : Arc) → Memᴰ a es → Chain es a.from n → Chain es a.to n

-- the labels s and t become the lower of the two
abbrev pub merge : ℕ → ℕ → ℕ → ℕ
merge s t x = cond (same x s || same x t) (min s t) x

-- the lowest node that a chain leads to from n (`label_chain`, `label-least`)
unfoldable pub label : List Arc → ℕ → ℕ
label [] n = n
label (a ∷ es) n = merge (label es a.from) (label es a.to) (label es n)

-- the number of the nodes from which no chain leads to a node of lower number (`root_least`)
unfoldable pub pieces : List ℕ → List Arc → ℕ
pieces nodes es = count_of (λ n. same (label es n) n) nodes

-- each edge starts and ends at a node of the list
pub record Within (nodes : List ℕ) (es : List Arc) : Type 0 where
  pub starts : (a : Arc) → Memᴰ a es → Memᴰ a.from nodes
  pub ends : (a : Arc) → Memᴰ a es → Memᴰ a.to nodes

-- the numbers of the edges
abbrev pub nums : List Arc → List ℕ
nums es = map (λ a. a.num) es

-- no edge starts or ends at n
pub record Isolated (n : ℕ) (es : List Arc) : Type 0 where
  pub starts : (a : Arc) → Memᴰ a es → (a.from ≡ n) → ⊥
  pub ends : (a : Arc) → Memᴰ a es → (a.to ≡ n) → ⊥

-- Euler's sum
abbrev pub Euler : List ℕ → List Arc → ℕ → Type 0
Euler nodes es faces = length nodes + faces ≡ length es + pieces nodes es + 1
