-- L8: Euler's sum is kept. Each lemma goes both ways: an edge or node added, or removed. Assumes nothing.
use mathlib.Core.Path.{◌≡◌, refl}
use mathlib.Core.Logic.{◌↔◌}
use mathlib.Core.List.{List, [], ◌∷◌}
use Prim.Native.Nat.{ℕ, suc}
use native.Mathlib.Omega.{arith}
use Rattle.lists.specs.Members.{Distinct}
use Rattle.planar_maps.specs.Map.{Arc, Dart, fwd, bwd, Colouring, Linked}
use Rattle.planar_maps.specs.Pieces.{Chain, pieces, Within, Isolated, Euler, nums}
use Rattle.planar_maps.proofs.Chains.{pieces-isolated, pieces_loop, pieces_bridge}
use Rattle.planar_maps.proofs.Bridges.{sides_connect, one_face-apart}
use Rattle.planar_maps.proofs.Subdivide.{whole, halves, subdivide_pieces}

pub euler_empty : Euler [] [] 1
unfolding pieces
euler_empty = refl

pub euler_node : (n : ℕ) (nodes : List ℕ) (es : List Arc) (faces : ℕ) → Isolated n es
    → Euler nodes es faces ↔ Euler (n ∷ nodes) es faces
euler_node n nodes es faces i = omega (arith, pieces-isolated n nodes es i)

-- the edge divides two faces
pub euler_split : (nodes : List ℕ) (a : Arc) (es : List Arc)
    (faces : ℕ) {tail : Dart → ℕ} {next : Dart → Dart} {face : Dart → ℕ} → Linked (a ∷ es) tail next face
    → ((face (fwd a.num) ≡ face (bwd a.num)) → ⊥) → Euler nodes es faces ↔ Euler nodes (a ∷ es) (suc faces)
euler_split nodes a es faces l apart = omega (arith, pieces_loop nodes a es (sides_connect l apart))

-- the edge joins two pieces
pub euler_bridge : (nodes : List ℕ) (a : Arc) (es : List Arc) (faces : ℕ) → Distinct nodes → Within nodes (a ∷ es)
    → (Chain es a.from a.to → ⊥) → Euler nodes es faces ↔ Euler nodes (a ∷ es) faces
euler_bridge nodes a es faces dis w apart = omega (arith, pieces_bridge nodes a es dis w apart)

-- the edge has one face on both sides
pub euler_one_face : (nodes : List ℕ) (a : Arc) (es : List Arc) (faces : ℕ) (face : Dart → ℕ) → Distinct nodes
    → Within nodes (a ∷ es) → Distinct (nums (a ∷ es)) → Colouring (a ∷ es) face
    → face (fwd a.num) ≡ face (bwd a.num) → Euler nodes es faces ↔ Euler nodes (a ∷ es) faces
euler_one_face nodes a es faces face dis w dis' P one =
    euler_bridge nodes a es faces dis w (one_face-apart a es face dis' P one)

-- an edge is split at a node, or healed
pub euler_subdivide : (e e' s n t : ℕ) (es : List Arc) (nodes : List ℕ) (faces : ℕ) → Isolated n es → ((s ≡ n) → ⊥)
    → ((t ≡ n) → ⊥) → Distinct (n ∷ nodes) → Within nodes (whole e e' s n t es)
    → Euler nodes (whole e e' s n t es) faces ↔ Euler (n ∷ nodes) (halves e e' s n t es) faces
euler_subdivide e e' s n t es nodes faces i p q dis w = omega (arith, subdivide_pieces e e' s n t es i p q nodes dis w)
