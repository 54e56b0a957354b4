-- What holds of a map in the plane, whatever has been done to it. Assumes nothing.
use Rattle.std.specs.Prelude.{List, ℕ}
use Rattle.lists.specs.Members.{Distinct}
use Rattle.planar_maps.specs.Map.{Arc, Dart, Linked, Colouring}
use Rattle.planar_maps.specs.Pieces.{Within, Euler, nums}
use Rattle.planar_maps.specs.Rings.{OneTurn}

pub record Planar (nodes : List ℕ) (es : List Arc) (tail : Dart → ℕ) (next : Dart → Dart) (face : Dart → ℕ)
    (faces : ℕ) : Type 0 where
  pub nodes_once : Distinct nodes
  pub edges_once : Distinct (nums es)
  pub within : Within nodes es
  pub linked : Linked es tail next face
  pub one-turn : OneTurn es tail next
  pub colouring : Colouring es face
  pub euler : Euler nodes es faces
