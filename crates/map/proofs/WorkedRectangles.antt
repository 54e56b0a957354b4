-- Worked examples of rectangles: the face rows of maps as numbers, and what tickets make of them. What is expected was
-- worked out apart from the definitions.
use mathlib.Core.Path.{◌≡◌, refl}
use mathlib.Core.List.{List, [], ◌∷◌, ◌++◌, map}
use Prim.Native.Nat.{ℕ}
use lib.IntN.{ℤ, pos}
use lib.ListN.{length, take}
use Rattle.planar_maps.specs.Map.{fwd, bwd}
use Rattle.map.specs.Rows.{Map, empty_map, lent_of}
use Rattle.map.specs.Grow.{after}
use Rattle.map.proofs.Opened.{opened}
use Rattle.map.proofs.Sheet.{at, node_row, edge_row}
use Rattle.map.proofs.Worked.{room, rows, add, draw, base}

-- tickets on a map, and the first numbers of the face table after them
pub record Boxes : Type 0 where
  pub start : Map
  pub tickets : List (List ℤ)
  pub faces : List ℕ

abbrev boxes : Map → List (List ℤ) → List ℕ → Boxes
boxes m ts fs = record { start = m; tickets = ts; faces = fs }

abbrev zeros : List ℕ
zeros = 0 ∷ 0 ∷ 0 ∷ 0 ∷ 0 ∷ []

-- kinds 6, 8 and 13
abbrev redraw : ℕ → List ℕ → List ℤ
redraw e c = pos 6 ∷ pos e ∷ map pos c

abbrev cut : ℕ → ℕ → ℕ → List ℤ
cut e x y = pos 8 ∷ pos e ∷ pos x ∷ pos y ∷ []

abbrev remove : ℕ → List ℤ
remove e = pos 13 ∷ pos e ∷ []

-- ---- the square sheet

abbrev square : List (List ℤ)
square = add 0 0 ∷ draw 12 1 1 (at 0 0 ∷ at 10 0 ∷ at 10 10 ∷ at 0 10 ∷ at 0 0 ∷ []) ∷ []

-- P8: both plots have the corners of the square
abbrev two_plots : Boxes
two_plots = boxes empty_map (square ++ cut 1 10 10 ∷ draw 12 1 2 (at 0 0 ∷ at 10 10 ∷ []) ∷ [])
    (zeros ++ 1 ∷ 0 ∷ 0 ∷ 10 ∷ 10 ∷ 2 ∷ 0 ∷ 0 ∷ 10 ∷ 10 ∷ zeros)

-- P10: one plot again, and its row
abbrev one_plot : Boxes
one_plot = boxes empty_map (square ++ cut 1 10 10 ∷ draw 12 1 2 (at 0 0 ∷ at 10 10 ∷ []) ∷ remove 3 ∷ [])
    (zeros ++ 3 ∷ 0 ∷ 0 ∷ 10 ∷ 10 ∷ zeros)

-- P3: a plot on the right of its only edge
abbrev on_the_right : Boxes
on_the_right = boxes empty_map
    (add 0 0 ∷ draw 12 1 1 (at 0 0 ∷ at 0 10 ∷ at 10 10 ∷ at 10 0 ∷ at 0 0 ∷ []) ∷ [])
    (zeros ++ 1 ∷ 0 ∷ 0 ∷ 10 ∷ 10 ∷ zeros)

-- ---- points that count

-- two plots that differ in an inner point, an island, and face 0 with the most edges
abbrev of_the_base : Boxes
of_the_base = boxes base []
    (zeros ++ 1 ∷ 0 ∷ 0 ∷ 10 ∷ 10 ∷ 2 ∷ 0 ∷ 0 ∷ 10 ∷ 11 ∷ 3 ∷ 40 ∷ 40 ∷ 45 ∷ 45 ∷ zeros)

-- a face without an edge, before and after a ticket
abbrev no_edge : Boxes
no_edge = boxes (rows [] [] (0 ∷ 1 ∷ []) 1 1 2) (add 3 4 ∷ []) (zeros ++ 1 ∷ 0 ∷ 0 ∷ 0 ∷ 0 ∷ zeros)

-- a corner pulled in
abbrev pulled_in : Boxes
pulled_in = boxes empty_map
    (add 0 0 ∷ draw 12 1 1 (at 0 0 ∷ at 8 2 ∷ at 5 9 ∷ at 0 0 ∷ [])
    ∷ redraw 1 (0 ∷ 0 ∷ 6 ∷ 2 ∷ 5 ∷ 4 ∷ 0 ∷ 0 ∷ []) ∷ [])
    (zeros ++ 1 ∷ 0 ∷ 0 ∷ 6 ∷ 4 ∷ zeros)

-- face 0 is left
abbrev gone : Boxes
gone = boxes empty_map (square ++ remove 1 ∷ []) (zeros ++ zeros)

-- a plot with an island split by 11: the island's edge belongs to the new plot around it
abbrev with_an_island : Boxes
with_an_island = boxes empty_map
    (add 0 0 ∷ draw 12 1 1 (at 0 0 ∷ at 20 0 ∷ at 20 20 ∷ at 0 20 ∷ at 0 0 ∷ [])
    ∷ add 12 4 ∷ draw 12 2 2 (at 12 4 ∷ at 16 4 ∷ at 16 8 ∷ at 12 4 ∷ [])
    ∷ cut 1 20 20 ∷ draw 11 1 3 (at 0 0 ∷ at 2 9 ∷ at 20 20 ∷ []) ∷ [])
    (zeros ++ 2 ∷ 12 ∷ 4 ∷ 16 ∷ 8 ∷ 3 ∷ 0 ∷ 0 ∷ 20 ∷ 20 ∷ 4 ∷ 0 ∷ 0 ∷ 20 ∷ 20 ∷ zeros)

-- on tables that no list grows: a lone edge that reaches out of its plot, removed
abbrev reaching_out : Boxes
reaching_out = boxes
    (rows (node_row 1 (at 0 0) ∷ node_row 2 (at 3 3) ∷ node_row 3 (at 6 3) ∷ [])
    (edge_row 1 1 1 (fwd 1) (bwd 1) 1 0 (at 0 0 ∷ at 10 0 ∷ at 10 10 ∷ at 0 0 ∷ [])
    ∷ edge_row 2 2 3 (bwd 2) (fwd 2) 1 1 (at 3 3 ∷ at 5 30 ∷ at 6 3 ∷ []) ∷ [])
    (0 ∷ 1 ∷ []) 4 3 2) [] (zeros ++ 1 ∷ 0 ∷ 0 ∷ 10 ∷ 30 ∷ zeros)

abbrev pulled_back : Boxes
pulled_back = boxes reaching_out.start ((pos 5 ∷ pos 2 ∷ []) ∷ []) (zeros ++ 1 ∷ 0 ∷ 0 ∷ 10 ∷ 10 ∷ zeros)

-- ---- the theorem

abbrev pub boxed : List Boxes
boxed =
    two_plots ∷ one_plot ∷ on_the_right ∷ of_the_base ∷ no_edge ∷ pulled_in ∷ gone ∷ with_an_island ∷ reaching_out
    ∷ pulled_back ∷ []

-- all of them, by computation
pub WorkedRectangles : map (λ c. take (length c.faces) (after (lent_of room c.start) c.tickets).lent.faces)
    boxed ≡ map (λ c. map pos c.faces) boxed
unfolding opened
WorkedRectangles = refl
