-- No test follows from the others: for each of the five a small map in form that fails it and passes all others. By
-- computation. Assumes nothing.
use mathlib.Core.Path.{◌≡◌, refl}
use mathlib.Core.Bool.{Bool, true, false, ◌&&◌}
use mathlib.Core.List.{List, [], ◌∷◌, map}
use mathlib.Core.Option.{none, some}
use Prim.Native.Nat.{ℕ}
use Rattle.plane.specs.declared.Point.{Point}
use Rattle.curves.specs.Curves.{through}
use Rattle.planar_maps.specs.Map.{Dart, fwd, bwd}
use Rattle.map.specs.Rows.{Node, Edge, Map, counts}
use Rattle.map.specs.Form.{formed}
use Rattle.map.specs.Links.{obeys_law}
use Rattle.map.proofs.Opened.{opened}
use Rattle.certified.specs.Certified.{nexts_in_range, curves_clear, places_differ, sum_holds, faces_reached}

abbrev at : ℕ → ℕ → Point
at x y = record { x = x; y = y }

-- a node where edges end, and one in face 0
abbrev joined : ℕ → Point → Node
joined n p = record { number = n; at = p; face = none }

abbrev lone : ℕ → Point → Node
lone n p = record { number = n; at = p; face = some 0 }

-- an edge with face 0 on both sides
abbrev drawn : ℕ → ℕ → ℕ → Dart → Dart → List Point → Edge
drawn e u v left right ps = record {
  number = e;
  start = u;
  end = v;
  next_left = left;
  next_right = right;
  left = 0;
  right = 0;
  curve = through ps;
}

abbrev of : List Node → List Edge → List ℕ → Map
of ns es fs = record { nodes = ns; edges = es; faces = fs; next = counts 9 9 9 }

-- three edges from one node, linked against the clock
abbrev turned : Map
turned = of
    (joined 1 (at 5 5) ∷ joined 2 (at 5 9) ∷ joined 3 (at 9 5) ∷ joined 4 (at 5 1) ∷ [])
    (drawn 1 1 2 (bwd 1) (fwd 3) (at 5 5 ∷ at 5 9 ∷ [])
    ∷ drawn 2 1 3 (bwd 2) (fwd 1) (at 5 5 ∷ at 9 5 ∷ [])
    ∷ drawn 3 1 4 (bwd 3) (fwd 2) (at 5 5 ∷ at 5 1 ∷ []) ∷ [])
    (0 ∷ [])

-- two edges that cross
abbrev crossed : Map
crossed = of
    (joined 1 (at 0 0) ∷ joined 2 (at 4 4) ∷ joined 3 (at 0 4) ∷ joined 4 (at 4 0) ∷ [])
    (drawn 1 1 2 (bwd 1) (fwd 1) (at 0 0 ∷ at 4 4 ∷ []) ∷ drawn 2 3 4 (bwd 2) (fwd 2) (at 0 4 ∷ at 4 0 ∷ []) ∷ [])
    (0 ∷ [])

-- two nodes on one place
abbrev doubled : Map
doubled = of (lone 1 (at 3 3) ∷ lone 2 (at 3 3) ∷ []) [] (0 ∷ [])

-- a closed curve with one face on both sides
abbrev pierced : Map
pierced = of
    (joined 1 (at 0 0) ∷ [])
    (drawn 1 1 1 (fwd 1) (bwd 1) (at 0 0 ∷ at 4 0 ∷ at 4 4 ∷ at 0 0 ∷ []) ∷ [])
    (0 ∷ [])

-- the same with a face more, which no edge bears
abbrev unborne : Map
unborne = of pierced.nodes pierced.edges (0 ∷ 1 ∷ [])

-- in form; links, curves, places, sum, faces
abbrev told : Map → List Bool
told m = (formed m && nexts_in_range m) ∷ obeys_law m ∷ curves_clear m ∷ places_differ m ∷ sum_holds m ∷ faces_reached m ∷ []

pub each_needed : map told (turned ∷ crossed ∷ doubled ∷ pierced ∷ unborne ∷ [])
    ≡ (true ∷ false ∷ true ∷ true ∷ true ∷ true ∷ [])
    ∷ (true ∷ true ∷ false ∷ true ∷ true ∷ true ∷ [])
    ∷ (true ∷ true ∷ true ∷ false ∷ true ∷ true ∷ [])
    ∷ (true ∷ true ∷ true ∷ true ∷ false ∷ true ∷ [])
    ∷ (true ∷ true ∷ true ∷ true ∷ true ∷ false ∷ [])
    ∷ []
unfolding opened nexts_in_range curves_clear places_differ sum_holds faces_reached
each_needed = refl
