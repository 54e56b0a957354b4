-- Worked examples, by computation: grown sheets, their links spoiled, and mended; and each reason against it.
use mathlib.Core.Path.{◌≡◌, refl}
use mathlib.Core.Bool.{true}
use mathlib.Core.List.{List, [], ◌∷◌, ◌++◌, map}
use mathlib.Core.Option.{none}
use Prim.Native.Nat.{ℕ}
use lib.IntN.{ℤ, pos, negsuc}
use lib.ListN.{replicate}
use Rattle.curves.specs.Curves.{through}
use Rattle.planar_maps.specs.Map.{Dart, fwd, bwd}
use Rattle.map.specs.Limits.{TwelvePoints}
use Rattle.map.specs.Rows.{Node, Edge, Map, Sizes, dart_cell, box_of, lent_with, lent_of, counts}
use Rattle.map.specs.Form.{in_form}
use Rattle.map.specs.Grow.{grow}
use Rattle.mending.specs.Mend.{mend}
use Rattle.mending.proofs.Opened.{opened}

-- ---- how sheets and results are written

abbrev small : Sizes
small = record { nodes = 4; edges = 4; faces = 2; limit = TwelvePoints }

abbrev node : ℕ → ℕ → ℕ → Node
node n x y = record { number = n; at = record { x = x; y = y }; face = none }

-- number, start and end, next left and right, left and right face, points
abbrev edge : ℕ → ℕ → ℕ → Dart → Dart → ℕ → ℕ → List (ℕ × ℕ) → Edge
edge e u v nl nr l r ps =
    record {
      number = e;
      start = u;
      end = v;
      next_left = nl;
      next_right = nr;
      left = l;
      right = r;
      curve = through (map (λ p. record { x = p.0; y = p.1 }) ps);
    }

-- the sheet before and after, the list before and after, and the value
abbrev MendsTo : Map → List ℤ → Map → List ℤ → ℕ → Type 0
MendsTo before list after list' n =
    mend (lent_of small before) list
    ≡ record { lent = lent_of small after; list = list'; answer = record { refusal = 0; value = pos n } }

-- nothing differs
abbrev Refuses : ℕ → Map → List ℤ → Type 0
Refuses r m list =
    mend (lent_of small m) list
    ≡ record { lent = lent_of small m; list = list; answer = record { refusal = r; value = pos 0 } }

-- number, old next left and right, new next left and right
abbrev changed : ℕ → Dart → Dart → Dart → Dart → List ℤ
changed e l r l' r' = pos e ∷ dart_cell l ∷ dart_cell r ∷ dart_cell l' ∷ dart_cell r' ∷ []

abbrev sevens : ℕ → List ℤ
sevens n = replicate n (pos 7)

-- ---- the loop of document 01, cut at (10,4)

-- its four links, and the left face of edge 2
abbrev loop : Dart → Dart → Dart → Dart → ℕ → Map
loop a b c d f =
    record {
      nodes = node 1 0 0 ∷ node 2 10 4 ∷ [];
      edges =
          edge 1 1 2 a b 1 0 ((0, 0) ∷ (10, 0) ∷ (10, 4) ∷ [])
          ∷ edge 2 2 1 c d f 0 ((10, 4) ∷ (10, 10) ∷ (0, 10) ∷ (0, 0) ∷ [])
          ∷ [];
      faces = 0 ∷ 1 ∷ [];
      next = counts 3 3 2;
    }

abbrev loop_grown : Map
loop_grown = loop (fwd 2) (bwd 2) (fwd 1) (bwd 1) 1

pub loop_grows :
    (grow small
    ((pos 1 ∷ negsuc 0 ∷ pos 0 ∷ pos 0 ∷ [])
    ∷ (pos 12 ∷ pos 1 ∷ pos 1 ∷ pos 0 ∷ pos 0 ∷ pos 10 ∷ pos 0 ∷ pos 10 ∷ pos 10 ∷ pos 0 ∷ pos 10 ∷ pos 0 ∷ pos 0 ∷ [])
    ∷ (pos 8 ∷ pos 1 ∷ pos 10 ∷ pos 4 ∷ [])
    ∷ [])).lent
    ≡ lent_of small loop_grown
unfolding opened
loop_grows = refl

-- lawful: no room is needed
pub loop_lawful : MendsTo loop_grown [] loop_grown [] 0
unfolding opened
loop_lawful = refl

-- 0 stands in a link
pub no_link : MendsTo (loop (fwd 0) (bwd 2) (fwd 1) (bwd 1) 1) (sevens 5) loop_grown
    (changed 1 (fwd 0) (bwd 2) (fwd 2) (bwd 2)) 5
unfolding opened
no_link = refl

-- the least number of 64 bits; the list's remainder is untouched
pub unknown_link :
    MendsTo (loop (fwd 2) (bwd 2) (fwd 1) (bwd 9223372036854775808) 1) (sevens 6)
    loop_grown (pos 2 ∷ pos 1 ∷ negsuc 9223372036854775807 ∷ pos 1 ∷ negsuc 0 ∷ pos 7 ∷ []) 5
unfolding opened
unknown_link = refl

-- links of both edges, by rising number
pub links_of_both :
    MendsTo (loop (fwd 1) (fwd 1) (bwd 2) (fwd 9) 1) (sevens 10)
    loop_grown (changed 1 (fwd 1) (fwd 1) (fwd 2) (bwd 2) ++ changed 2 (bwd 2) (fwd 9) (fwd 1) (bwd 1)) 10
unfolding opened
links_of_both = refl

-- the list is one number short
pub no_room : Refuses 20 (loop (fwd 0) (bwd 2) (fwd 1) (bwd 1) 1) (sevens 4)
unfolding opened
no_room = refl

-- the ring inside would bear 1 and 0; so with a spoiled link and no room
pub two_faces : Refuses 31 (loop (fwd 2) (bwd 2) (fwd 1) (bwd 1) 0) []
    × Refuses 31 (loop (fwd 0) (bwd 2) (fwd 1) (bwd 1) 0) []
unfolding opened
two_faces = (refl, refl)

-- face 9 is missing
pub no_face_lem : Refuses 2 (loop (fwd 2) (bwd 2) (fwd 1) (bwd 1) 9) []
unfolding opened
no_face_lem = refl

-- a rectangle that the edges do not give
pub other_rectangle : (mend (lent_with (λ f. box_of []) small loop_grown) []).answer.refusal ≡ 2
unfolding opened
other_rectangle = refl

-- ---- two ditches in a row, the first cut by kind 7

-- with the next right link of edge 2
abbrev row : Dart → Map
row d =
    record {
      nodes = node 1 0 0 ∷ node 2 10 0 ∷ node 3 20 0 ∷ node 4 5 0 ∷ [];
      edges =
          edge 2 2 3 (bwd 2) d 0 0 ((10, 0) ∷ (20, 0) ∷ [])
          ∷ edge 3 1 4 (fwd 4) (fwd 3) 0 0 ((0, 0) ∷ (5, 0) ∷ [])
          ∷ edge 4 4 2 (fwd 2) (bwd 3) 0 0 ((5, 0) ∷ (10, 0) ∷ [])
          ∷ [];
      faces = 0 ∷ [];
      next = counts 5 5 1;
    }

pub row_grows :
    (grow small
    ((pos 1 ∷ negsuc 0 ∷ pos 0 ∷ pos 0 ∷ [])
    ∷ (pos 1 ∷ negsuc 0 ∷ pos 10 ∷ pos 0 ∷ [])
    ∷ (pos 1 ∷ negsuc 0 ∷ pos 20 ∷ pos 0 ∷ [])
    ∷ (pos 4 ∷ pos 1 ∷ pos 2 ∷ pos 0 ∷ pos 0 ∷ pos 10 ∷ pos 0 ∷ [])
    ∷ (pos 12 ∷ pos 2 ∷ pos 3 ∷ pos 10 ∷ pos 0 ∷ pos 20 ∷ pos 0 ∷ [])
    ∷ (pos 7 ∷ pos 1 ∷ pos 5 ∷ pos 0 ∷ [])
    ∷ [])).lent
    ≡ lent_of small (row (bwd 4))
unfolding opened
row_grows = refl

-- the wrong half, as NewEdgesSplit of PostGIS writes it
pub wrong_half : MendsTo (row (bwd 3)) (sevens 5) (row (bwd 4)) (changed 2 (bwd 2) (bwd 3) (bwd 2) (bwd 4)) 5
unfolding opened
wrong_half = refl

-- ---- three ditches from one node: east, north and south west

abbrev star : Dart → Dart → Dart → Map
star a b c =
    record {
      nodes = node 1 5 5 ∷ node 2 10 5 ∷ node 3 5 10 ∷ node 4 0 0 ∷ [];
      edges =
          edge 1 1 2 (bwd 1) a 0 0 ((5, 5) ∷ (10, 5) ∷ [])
          ∷ edge 2 1 3 (bwd 2) b 0 0 ((5, 5) ∷ (5, 10) ∷ [])
          ∷ edge 3 1 4 (bwd 3) c 0 0 ((5, 5) ∷ (0, 0) ∷ [])
          ∷ [];
      faces = 0 ∷ [];
      next = counts 5 4 1;
    }

-- counterclockwise links are in form, and are mended
pub counterclockwise_in_form : in_form (lent_of small (star (fwd 2) (fwd 3) (fwd 1))) ≡ true
unfolding opened
counterclockwise_in_form = refl

pub counterclockwise :
    MendsTo (star (fwd 2) (fwd 3) (fwd 1)) (sevens 15) (star (fwd 3) (fwd 1) (fwd 2))
    (changed 1 (bwd 1) (fwd 2) (bwd 1) (fwd 3)
    ++ changed 2 (bwd 2) (fwd 3) (bwd 2) (fwd 1)
    ++ changed 3 (bwd 3) (fwd 1) (bwd 3) (fwd 2)) 15
unfolding opened
counterclockwise = refl

-- ---- a loop whose two ends depart in one direction

abbrev pinched : Map
pinched =
    record {
      nodes = node 1 0 0 ∷ [];
      edges = edge 1 1 1 (fwd 1) (bwd 1) 1 0 ((0, 0) ∷ (10, 0) ∷ (10, 10) ∷ (5, 0) ∷ (0, 0) ∷ []) ∷ [];
      faces = 0 ∷ 1 ∷ [];
      next = counts 2 2 2;
    }

pub one_direction : Refuses 11 pinched []
unfolding opened
one_direction = refl
