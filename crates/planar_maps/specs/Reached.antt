-- Faces reached across edges. Definitions only. Assumes nothing.
use Rattle.std.specs.Prelude.{◌≡◌, Bool, ℕ}
use mathlib.Core.List.{List, Memᴰ}
use Rattle.planar_maps.specs.Map.{Arc, Dart, fwd, bwd}

-- a set of faces that has both or no side of each edge
abbrev pub Even : List Arc → (Dart → ℕ) → (ℕ → Bool) → Type 0
Even es face S = (a : Arc) → Memᴰ a es → S (face (fwd a.num)) ≡ S (face (bwd a.num))

-- has all faces or none: each is reached from f across edges
abbrev pub Reached : List Arc → (Dart → ℕ) → List ℕ → ℕ → Type 0
Reached es face faces f = (S : ℕ → Bool) → Even es face S → (g : ℕ) → Memᴰ g faces → S g ≡ S f
