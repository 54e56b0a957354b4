-- Worked examples of 22: what a redrawn edge may pass over and what not, and the area on either side of it. What is
-- expected was worked out apart from the definitions.
use mathlib.Core.Path.{◌≡◌, refl}
use mathlib.Core.List.{List, [], ◌∷◌, map}
use Prim.Native.Nat.{ℕ}
use lib.IntN.{ℤ, pos}
use Rattle.plane.specs.declared.Point.{Point}
use Rattle.curves.specs.Curves.{coordinates}
use Rattle.planar_maps.specs.Map.{fwd, bwd}
use Rattle.map.specs.Rows.{Map, lent_of}
use Rattle.map.specs.Grow.{after}
use Rattle.map.proofs.Opened.{opened}
use Rattle.map.proofs.Sheet.{at, ok, no_to, node_row, edge_row}
use Rattle.map.proofs.Worked.{Case, room, case, lone, rows, square, diamond}

-- kind 6
abbrev pub redraw : ℕ → List Point → List ℤ
redraw e c = pos 6 ∷ pos e ∷ coordinates c

-- a boundary that would pass over one well, over both, or turn inside out; short of them it may move
abbrev over_a_well : Case
over_a_well =
    case square
    (redraw 1 (at 0 0 ∷ at 20 0 ∷ at 20 20 ∷ at 5 7 ∷ at 0 0 ∷ [])
    ∷ redraw 1 (at 0 0 ∷ at 20 0 ∷ at 20 20 ∷ at 8 6 ∷ at 0 0 ∷ [])
    ∷ redraw 1 (at 0 0 ∷ at 0 20 ∷ at 20 20 ∷ at 20 0 ∷ at 0 0 ∷ [])
    ∷ redraw 1 (at 0 0 ∷ at 20 0 ∷ at 20 20 ∷ at 4 12 ∷ at 0 0 ∷ []) ∷ [])
    (no_to 22 ∷ no_to 22 ∷ no_to 22 ∷ ok (pos 0) ∷ [])
    (rows (node_row 1 (at 0 0) ∷ lone 2 (at 5 5) 1 ∷ lone 3 (at 5 9) 1 ∷ [])
    (edge_row 1 1 1 (fwd 1) (bwd 1) 1 0 (at 0 0 ∷ at 20 0 ∷ at 20 20 ∷ at 4 12 ∷ at 0 0 ∷ []) ∷ [])
    (0 ∷ 1 ∷ []) 4 2 2)

-- with nothing in it the area alone tells
abbrev inside_out : Case
inside_out =
    case diamond
    (redraw 1 (at 0 10 ∷ at 10 20 ∷ at 20 10 ∷ at 10 0 ∷ at 0 10 ∷ [])
    ∷ redraw 1 (at 0 10 ∷ at 10 9 ∷ at 20 10 ∷ at 0 10 ∷ []) ∷ [])
    (no_to 22 ∷ ok (pos 0) ∷ [])
    (rows (node_row 1 (at 0 10) ∷ [])
    (edge_row 1 1 1 (fwd 1) (bwd 1) 1 0 (at 0 10 ∷ at 10 9 ∷ at 20 10 ∷ at 0 10 ∷ []) ∷ [])
    (0 ∷ 1 ∷ []) 2 2 2)

-- a square around an island of two edges
abbrev island : Map
island =
    rows (node_row 1 (at 0 0) ∷ node_row 2 (at 4 4) ∷ node_row 3 (at 8 8) ∷ [])
    (edge_row 1 1 1 (fwd 1) (bwd 1) 1 0 (at 0 0 ∷ at 20 0 ∷ at 20 20 ∷ at 0 20 ∷ at 0 0 ∷ [])
    ∷ edge_row 2 2 3 (fwd 3) (bwd 3) 2 1 (at 4 4 ∷ at 8 4 ∷ at 8 8 ∷ [])
    ∷ edge_row 3 3 2 (fwd 2) (bwd 2) 2 1 (at 8 8 ∷ at 4 8 ∷ at 4 4 ∷ []) ∷ [])
    (0 ∷ 1 ∷ 2 ∷ []) 4 4 3

-- past the island it may not go, around it it may
abbrev over_an_island : Case
over_an_island =
    case island
    (redraw 1 (at 0 0 ∷ at 20 0 ∷ at 20 20 ∷ at 15 3 ∷ at 0 0 ∷ [])
    ∷ redraw 1 (at 0 0 ∷ at 20 0 ∷ at 20 20 ∷ at 1 19 ∷ at 0 0 ∷ []) ∷ [])
    (no_to 22 ∷ ok (pos 0) ∷ [])
    (rows (node_row 1 (at 0 0) ∷ node_row 2 (at 4 4) ∷ node_row 3 (at 8 8) ∷ [])
    (edge_row 1 1 1 (fwd 1) (bwd 1) 1 0 (at 0 0 ∷ at 20 0 ∷ at 20 20 ∷ at 1 19 ∷ at 0 0 ∷ [])
    ∷ edge_row 2 2 3 (fwd 3) (bwd 3) 2 1 (at 4 4 ∷ at 8 4 ∷ at 8 8 ∷ [])
    ∷ edge_row 3 3 2 (fwd 2) (bwd 2) 2 1 (at 8 8 ∷ at 4 8 ∷ at 4 4 ∷ []) ∷ [])
    (0 ∷ 1 ∷ 2 ∷ []) 4 4 3)

-- a ditch with the same plot on both banks, and a well
abbrev ditch : Map
ditch =
    rows (node_row 1 (at 0 0) ∷ node_row 2 (at 10 0) ∷ lone 3 (at 5 2) 0 ∷ [])
    (edge_row 1 1 2 (bwd 1) (fwd 1) 0 0 (at 0 0 ∷ at 10 0 ∷ []) ∷ [])
    (0 ∷ []) 4 2 1

-- e and -e on one ring: the ditch may pass over the well
abbrev one_plot_on_both_banks : Case
one_plot_on_both_banks =
    case ditch
    (redraw 1 (at 0 0 ∷ at 5 5 ∷ at 10 0 ∷ []) ∷ [])
    (ok (pos 0) ∷ [])
    (rows (node_row 1 (at 0 0) ∷ node_row 2 (at 10 0) ∷ lone 3 (at 5 2) 0 ∷ [])
    (edge_row 1 1 2 (bwd 1) (fwd 1) 0 0 (at 0 0 ∷ at 5 5 ∷ at 10 0 ∷ []) ∷ [])
    (0 ∷ []) 4 2 1)

-- in form, but not drawn by tickets: the well lies in the square and its row names face 0
abbrev outside_by_its_row : Map
outside_by_its_row =
    rows (node_row 1 (at 0 0) ∷ lone 2 (at 5 5) 0 ∷ [])
    (edge_row 1 1 1 (fwd 1) (bwd 1) 1 0 (at 0 0 ∷ at 20 0 ∷ at 20 20 ∷ at 0 20 ∷ at 0 0 ∷ []) ∷ [])
    (0 ∷ 1 ∷ []) 3 2 2

-- each isolated node counts, whatever face its row names
abbrev whatever_face : Case
whatever_face =
    case outside_by_its_row
    (redraw 1 (at 0 0 ∷ at 20 0 ∷ at 20 20 ∷ at 8 6 ∷ at 0 0 ∷ []) ∷ [])
    (no_to 22 ∷ [])
    (rows (node_row 1 (at 0 0) ∷ lone 2 (at 5 5) 0 ∷ [])
    (edge_row 1 1 1 (fwd 1) (bwd 1) 1 0 (at 0 0 ∷ at 20 0 ∷ at 20 20 ∷ at 0 20 ∷ at 0 0 ∷ []) ∷ [])
    (0 ∷ 1 ∷ []) 3 2 2)

-- two plots side by side, between edges 1, 3 and 3, 2
abbrev two_plots : Map
two_plots =
    rows (node_row 1 (at 10 5) ∷ node_row 2 (at 20 15) ∷ [])
    (edge_row 1 1 2 (bwd 3) (bwd 2) 1 0 (at 10 5 ∷ at 25 5 ∷ at 20 15 ∷ [])
    ∷ edge_row 2 2 1 (fwd 3) (bwd 1) 2 0 (at 20 15 ∷ at 5 15 ∷ at 10 5 ∷ [])
    ∷ edge_row 3 1 2 (fwd 2) (fwd 1) 2 1 (at 10 5 ∷ at 20 15 ∷ []) ∷ [])
    (0 ∷ 1 ∷ 2 ∷ []) 3 4 3

-- edge 1 moves off the ground below node 2, where edge 2 of its own piece starts: that ring does not count
abbrev own_piece : Case
own_piece =
    case two_plots
    (redraw 1 (at 10 5 ∷ at 16 10 ∷ at 20 15 ∷ []) ∷ [])
    (ok (pos 0) ∷ [])
    (rows (node_row 1 (at 10 5) ∷ node_row 2 (at 20 15) ∷ [])
    (edge_row 1 1 2 (bwd 3) (bwd 2) 1 0 (at 10 5 ∷ at 16 10 ∷ at 20 15 ∷ [])
    ∷ edge_row 2 2 1 (fwd 3) (bwd 1) 2 0 (at 20 15 ∷ at 5 15 ∷ at 10 5 ∷ [])
    ∷ edge_row 3 1 2 (fwd 2) (fwd 1) 2 1 (at 10 5 ∷ at 20 15 ∷ []) ∷ [])
    (0 ∷ 1 ∷ 2 ∷ []) 3 4 3)

-- 19 comes first where edge 1 would lie between the others; all the way round them the order at its nodes stays
abbrev across_the_other_plot : Case
across_the_other_plot =
    case two_plots
    (redraw 1 (at 10 5 ∷ at 12 12 ∷ at 20 15 ∷ [])
    ∷ redraw 1 (at 10 5 ∷ at 1 5 ∷ at 1 25 ∷ at 20 15 ∷ []) ∷ [])
    (no_to 19 ∷ no_to 22 ∷ [])
    (rows (node_row 1 (at 10 5) ∷ node_row 2 (at 20 15) ∷ [])
    (edge_row 1 1 2 (bwd 3) (bwd 2) 1 0 (at 10 5 ∷ at 25 5 ∷ at 20 15 ∷ [])
    ∷ edge_row 2 2 1 (fwd 3) (bwd 1) 2 0 (at 20 15 ∷ at 5 15 ∷ at 10 5 ∷ [])
    ∷ edge_row 3 1 2 (fwd 2) (fwd 1) 2 1 (at 10 5 ∷ at 20 15 ∷ []) ∷ [])
    (0 ∷ 1 ∷ 2 ∷ []) 3 4 3)

-- in form, but with links off the law: -1 and 2 make one ring, of doubled area 100, and 1 one by itself
abbrev right_ring : Map
right_ring =
    rows (node_row 1 (at 50 50) ∷ [])
    (edge_row 1 1 1 (fwd 1) (fwd 2) 1 0 (at 50 50 ∷ at 60 45 ∷ at 60 55 ∷ at 50 50 ∷ [])
    ∷ edge_row 2 1 1 (bwd 1) (bwd 2) 0 2 (at 50 50 ∷ at 40 60 ∷ at 40 40 ∷ at 50 50 ∷ []) ∷ [])
    (0 ∷ 1 ∷ 2 ∷ []) 2 3 3

-- only the ring on the right of edge 1 would change
abbrev right_alone : Case
right_alone =
    case right_ring
    (redraw 1 (at 50 50 ∷ at 80 40 ∷ at 80 60 ∷ at 50 50 ∷ [])
    ∷ redraw 1 (at 50 50 ∷ at 65 42 ∷ at 65 54 ∷ at 50 50 ∷ []) ∷ [])
    (no_to 22 ∷ ok (pos 0) ∷ [])
    (rows (node_row 1 (at 50 50) ∷ [])
    (edge_row 1 1 1 (fwd 1) (fwd 2) 1 0 (at 50 50 ∷ at 65 42 ∷ at 65 54 ∷ at 50 50 ∷ [])
    ∷ edge_row 2 1 1 (bwd 1) (bwd 2) 0 2 (at 50 50 ∷ at 40 60 ∷ at 40 40 ∷ at 50 50 ∷ []) ∷ [])
    (0 ∷ 1 ∷ 2 ∷ []) 2 3 3)

-- the same with 1 and 2 on one ring, of area 0
abbrev left-ring : Map
left-ring =
    rows (node_row 1 (at 50 50) ∷ [])
    (edge_row 1 1 1 (fwd 2) (bwd 1) 0 1 (at 50 50 ∷ at 60 60 ∷ at 60 40 ∷ at 50 50 ∷ [])
    ∷ edge_row 2 1 1 (fwd 1) (bwd 2) 0 2 (at 50 50 ∷ at 40 60 ∷ at 40 40 ∷ at 50 50 ∷ []) ∷ [])
    (0 ∷ 1 ∷ 2 ∷ []) 2 3 3

-- 0 is not positive: from there the area may become negative, but not positive; only the ring on the left would change
abbrev left_alone : Case
left_alone =
    case left-ring
    (redraw 1 (at 50 50 ∷ at 60 52 ∷ at 60 48 ∷ at 50 50 ∷ [])
    ∷ redraw 1 (at 50 50 ∷ at 70 60 ∷ at 70 40 ∷ at 50 50 ∷ [])
    ∷ redraw 1 (at 50 50 ∷ at 60 52 ∷ at 60 48 ∷ at 50 50 ∷ []) ∷ [])
    (no_to 22 ∷ ok (pos 0) ∷ no_to 22 ∷ [])
    (rows (node_row 1 (at 50 50) ∷ [])
    (edge_row 1 1 1 (fwd 2) (bwd 1) 0 1 (at 50 50 ∷ at 70 60 ∷ at 70 40 ∷ at 50 50 ∷ [])
    ∷ edge_row 2 1 1 (fwd 1) (bwd 2) 0 2 (at 50 50 ∷ at 40 60 ∷ at 40 40 ∷ at 50 50 ∷ []) ∷ [])
    (0 ∷ 1 ∷ 2 ∷ []) 2 3 3)

-- in form, but not drawn by tickets: edge 1 passes between the nodes of an island, of which it encloses node 2
abbrev through_an_island : Map
through_an_island =
    rows (node_row 1 (at 0 0) ∷ node_row 2 (at 5 5) ∷ node_row 3 (at 15 15) ∷ [])
    (edge_row 1 1 1 (fwd 1) (bwd 1) 1 0 (at 0 0 ∷ at 20 0 ∷ at 9 9 ∷ at 0 20 ∷ at 0 0 ∷ [])
    ∷ edge_row 2 2 3 (fwd 3) (bwd 3) 2 1 (at 5 5 ∷ at 15 5 ∷ at 15 15 ∷ [])
    ∷ edge_row 3 3 2 (fwd 2) (bwd 2) 2 1 (at 15 15 ∷ at 5 15 ∷ at 5 5 ∷ []) ∷ [])
    (0 ∷ 1 ∷ 2 ∷ []) 4 4 3

-- the start of the lowest edge of its rings counts, which is node 2; node 3 does not
abbrev lowest_edge_start : Case
lowest_edge_start =
    case through_an_island
    (redraw 1 (at 0 0 ∷ at 20 0 ∷ at 3 3 ∷ at 0 20 ∷ at 0 0 ∷ [])
    ∷ redraw 1 (at 0 0 ∷ at 30 0 ∷ at 30 30 ∷ at 0 30 ∷ at 0 0 ∷ []) ∷ [])
    (no_to 22 ∷ ok (pos 0) ∷ [])
    (rows (node_row 1 (at 0 0) ∷ node_row 2 (at 5 5) ∷ node_row 3 (at 15 15) ∷ [])
    (edge_row 1 1 1 (fwd 1) (bwd 1) 1 0 (at 0 0 ∷ at 30 0 ∷ at 30 30 ∷ at 0 30 ∷ at 0 0 ∷ [])
    ∷ edge_row 2 2 3 (fwd 3) (bwd 3) 2 1 (at 5 5 ∷ at 15 5 ∷ at 15 15 ∷ [])
    ∷ edge_row 3 3 2 (fwd 2) (bwd 2) 2 1 (at 15 15 ∷ at 5 15 ∷ at 5 5 ∷ []) ∷ [])
    (0 ∷ 1 ∷ 2 ∷ []) 4 4 3)

-- ---- the theorem

abbrev pub redrawn : List Case
redrawn =
    over_a_well ∷ inside_out ∷ over_an_island ∷ one_plot_on_both_banks ∷ whatever_face ∷ own_piece
    ∷ across_the_other_plot ∷ right_alone ∷ left_alone ∷ lowest_edge_start ∷ []

-- all of them, by computation
pub WorkedSides : map (λ c. after (lent_of room c.start) c.tickets) redrawn
    ≡ map (λ c. record { lent = lent_of room c.left; answers = c.answers }) redrawn
unfolding opened
WorkedSides = refl
