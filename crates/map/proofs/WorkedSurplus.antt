-- Worked examples of surplus points: what is dropped, what is not, and what the reasons look at. What is expected was
-- worked out apart from the definitions. Assumes nothing.
use mathlib.Core.Path.{◌≡◌, refl}
use mathlib.Core.List.{List, [], ◌∷◌, ◌++◌, map}
use Prim.Native.Nat.{ℕ}
use lib.IntN.{pos}
use Rattle.plane.specs.declared.Point.{Point}
use Rattle.planar_maps.specs.Map.{fwd, bwd}
use Rattle.map.specs.Rows.{Map, lent_of}
use Rattle.map.specs.Grow.{after}
use Rattle.map.proofs.Opened.{opened}
use Rattle.map.proofs.Sheet.{at, ok, no_to, node_row, edge_row}
use Rattle.map.proofs.WorkedSides.{redraw}
use Rattle.map.proofs.WorkedMeetings.{ditch, refused}
use Rattle.map.proofs.Worked.{Case, room, case, draw, lone, rows}

-- ---- dropped

abbrev two_nodes : Point → Point → Map
two_nodes p q = rows (lone 1 p 0 ∷ lone 2 q 0 ∷ []) [] (0 ∷ []) 3 1 1

abbrev one_ditch : Point → Point → List Point → Map
one_ditch p q c = rows (node_row 1 p ∷ node_row 2 q ∷ []) (ditch 1 1 2 (p ∷ c ++ q ∷ []) ∷ []) (0 ∷ []) 3 2 1

-- along a straight run, and then redrawn with points along two: kinds 4, 11 and 12, and 6
abbrev by_kind : ℕ → Case
by_kind k =
    case (two_nodes (at 0 0) (at 8 0))
    (draw k 1 2 (at 0 0 ∷ at 2 0 ∷ at 5 0 ∷ at 8 0 ∷ [])
    ∷ redraw 1 (at 0 0 ∷ at 1 1 ∷ at 2 2 ∷ at 4 4 ∷ at 6 2 ∷ at 8 0 ∷ []) ∷ [])
    (ok (pos 1) ∷ ok (pos 0) ∷ [])
    (one_ditch (at 0 0) (at 8 0) (at 4 4 ∷ []))

-- twelve points of which five are surplus, and ten
abbrev five_of_twelve : Case
five_of_twelve =
    case (two_nodes (at 0 0) (at 12 12))
    (draw 4 1 2 (at 0 0 ∷ at 2 0 ∷ at 4 0 ∷ at 4 2 ∷ at 4 4 ∷ at 6 4 ∷ at 8 4 ∷ at 8 6 ∷ at 8 8 ∷ at 10 8 ∷ at 12 8
    ∷ at 12 12 ∷ []) ∷ [])
    (ok (pos 1) ∷ [])
    (one_ditch (at 0 0) (at 12 12) (at 4 0 ∷ at 4 4 ∷ at 8 4 ∷ at 8 8 ∷ at 12 8 ∷ []))

abbrev ten_of_twelve : Case
ten_of_twelve =
    case (two_nodes (at 0 0) (at 12 12))
    (draw 4 1 2 (at 0 0 ∷ at 1 1 ∷ at 2 2 ∷ at 3 3 ∷ at 4 4 ∷ at 5 5 ∷ at 6 6 ∷ at 7 7 ∷ at 8 8 ∷ at 9 9 ∷ at 10 10
    ∷ at 12 12 ∷ []) ∷ [])
    (ok (pos 1) ∷ [])
    (one_ditch (at 0 0) (at 12 12) [])

-- a closed curve: its end is no inner point, though it lies on a straight side
abbrev end_stays : ℕ → Case
end_stays k =
    case (rows (lone 1 (at 5 0) 0 ∷ []) [] (0 ∷ []) 2 1 1)
    (draw k 1 1 (at 5 0 ∷ at 8 0 ∷ at 10 0 ∷ at 10 10 ∷ at 5 10 ∷ at 0 10 ∷ at 0 0 ∷ at 2 0 ∷ at 5 0 ∷ []) ∷ [])
    (ok (pos 1) ∷ [])
    (rows (node_row 1 (at 5 0) ∷ [])
    (edge_row 1 1 1 (fwd 1) (bwd 1) 1 0 (at 5 0 ∷ at 10 0 ∷ at 10 10 ∷ at 0 10 ∷ at 0 0 ∷ at 5 0 ∷ []) ∷ [])
    (0 ∷ 1 ∷ []) 2 2 2)

-- cut where a point was dropped, and healed: two points again
abbrev cut_and_healed : Case
cut_and_healed =
    case (two_nodes (at 0 0) (at 8 0))
    (draw 4 1 2 (at 0 0 ∷ at 3 0 ∷ at 6 0 ∷ at 8 0 ∷ [])
    ∷ (pos 8 ∷ pos 1 ∷ pos 3 ∷ pos 0 ∷ [])
    ∷ (pos 10 ∷ pos 1 ∷ pos 2 ∷ []) ∷ [])
    (ok (pos 1) ∷ ok (pos 3) ∷ ok (pos 0) ∷ [])
    (rows (node_row 1 (at 0 0) ∷ node_row 2 (at 8 0) ∷ []) (ditch 1 1 2 (at 0 0 ∷ at 8 0 ∷ []) ∷ []) (0 ∷ []) 4 3 1)

-- ---- still turned down

abbrev still : Case
still =
    refused (two_nodes (at 0 0) (at 12 12))
    (map (draw 4 1 2)
    -- thirteen points, of which eleven are surplus, and one; a point out of range
    ((at 0 0 ∷ at 1 1 ∷ at 2 2 ∷ at 3 3 ∷ at 4 4 ∷ at 5 5 ∷ at 6 6 ∷ at 7 7 ∷ at 8 8 ∷ at 9 9 ∷ at 10 10 ∷ at 11 11
    ∷ at 12 12 ∷ [])
    ∷ (at 0 0 ∷ at 0 1 ∷ at 1 1 ∷ at 1 2 ∷ at 2 2 ∷ at 2 3 ∷ at 3 3 ∷ at 3 4 ∷ at 4 4 ∷ at 4 5 ∷ at 5 5 ∷ at 5 8
    ∷ at 5 12 ∷ [])
    ∷ (at 0 0 ∷ at 1048576 0 ∷ at 12 12 ∷ [])
    -- two equal neighbours: on a straight run, at the start, at the end, at a corner, and on a line that doubles back
    ∷ (at 0 0 ∷ at 3 3 ∷ at 3 3 ∷ at 12 12 ∷ [])
    ∷ (at 0 0 ∷ at 0 0 ∷ at 12 12 ∷ [])
    ∷ (at 0 0 ∷ at 5 5 ∷ at 12 12 ∷ at 12 12 ∷ [])
    ∷ (at 0 0 ∷ at 6 0 ∷ at 6 0 ∷ at 12 12 ∷ [])
    ∷ (at 0 0 ∷ at 3 3 ∷ at 3 3 ∷ at 6 6 ∷ at 2 2 ∷ at 12 12 ∷ [])
    -- doubled back: inside the run, after a surplus point, over its end
    ∷ (at 0 0 ∷ at 6 6 ∷ at 3 3 ∷ at 12 12 ∷ [])
    ∷ (at 0 0 ∷ at 3 3 ∷ at 6 6 ∷ at 2 2 ∷ at 12 12 ∷ [])
    ∷ (at 0 0 ∷ at 14 14 ∷ at 12 12 ∷ [])
    -- ends off their nodes
    ∷ (at 1 1 ∷ at 3 3 ∷ at 12 12 ∷ [])
    ∷ (at 0 0 ∷ at 3 3 ∷ at 11 11 ∷ []) ∷ [])
    -- out and back, as it is and with surplus points; a missing row comes first
    ++ draw 12 1 1 (at 0 0 ∷ at 5 0 ∷ at 0 0 ∷ [])
    ∷ draw 12 1 1 (at 0 0 ∷ at 2 0 ∷ at 5 0 ∷ at 2 0 ∷ at 0 0 ∷ [])
    ∷ draw 4 1 9 (at 0 0 ∷ at 3 3 ∷ at 3 3 ∷ at 12 12 ∷ []) ∷ [])
    (5 ∷ 5 ∷ 5 ∷ 6 ∷ 6 ∷ 6 ∷ 6 ∷ 6 ∷ 7 ∷ 7 ∷ 7 ∷ 8 ∷ 8 ∷ 7 ∷ 7 ∷ 4 ∷ [])

-- ---- what is left decides

abbrev bank : Map
bank =
    rows (node_row 1 (at 0 5) ∷ node_row 2 (at 10 5) ∷ lone 3 (at 5 0) 0 ∷ lone 4 (at 5 12) 0 ∷ lone 5 (at 2 2) 0 ∷ [])
    (ditch 1 1 2 (at 0 5 ∷ at 10 5 ∷ []) ∷ []) (0 ∷ []) 6 2 1

-- a point on the bank that is dropped leaves a crossing, and at a corner it is a touch; along the bank; a node on a
-- point that is dropped
abbrev across : ℕ → Case
across k =
    refused bank
    (map (draw k 3 4)
    ((at 5 0 ∷ at 5 5 ∷ at 5 12 ∷ [])
    ∷ (at 5 0 ∷ at 5 5 ∷ at 6 8 ∷ at 5 12 ∷ [])
    ∷ (at 5 0 ∷ at 3 5 ∷ at 4 5 ∷ at 7 5 ∷ at 5 12 ∷ [])
    ∷ (at 5 0 ∷ at 4 0 ∷ at 2 0 ∷ at 2 2 ∷ at 2 4 ∷ at 5 12 ∷ []) ∷ []))
    (15 ∷ 24 ∷ 23 ∷ 14 ∷ [])

-- a plot whose side is led over a well, with a surplus point beside it, and one with surplus points that is carried out
abbrev past_a_well : Case
past_a_well =
    case
    (rows (node_row 1 (at 0 0) ∷ lone 2 (at 15 2) 1 ∷ [])
    (edge_row 1 1 1 (fwd 1) (bwd 1) 1 0 (at 0 0 ∷ at 20 0 ∷ at 20 20 ∷ at 0 20 ∷ at 0 0 ∷ []) ∷ [])
    (0 ∷ 1 ∷ []) 3 2 2)
    (redraw 1 (at 0 0 ∷ at 10 4 ∷ at 20 8 ∷ at 20 20 ∷ at 0 20 ∷ at 0 0 ∷ [])
    ∷ redraw 1 (at 0 0 ∷ at 10 0 ∷ at 20 0 ∷ at 20 10 ∷ at 20 20 ∷ at 0 0 ∷ []) ∷ [])
    (no_to 22 ∷ ok (pos 0) ∷ [])
    (rows (node_row 1 (at 0 0) ∷ lone 2 (at 15 2) 1 ∷ [])
    (edge_row 1 1 1 (fwd 1) (bwd 1) 1 0 (at 0 0 ∷ at 20 0 ∷ at 20 20 ∷ at 0 0 ∷ []) ∷ [])
    (0 ∷ 1 ∷ []) 3 2 2)

-- ---- the theorem

abbrev pub sent : List Case
sent =
    by_kind 4 ∷ by_kind 11 ∷ by_kind 12 ∷ five_of_twelve ∷ ten_of_twelve ∷ end_stays 11 ∷ end_stays 12 ∷ cut_and_healed
    ∷ still ∷ across 4 ∷ across 11 ∷ across 12 ∷ past_a_well ∷ []

-- all of them, by computation
pub WorkedSurplus : map (λ c. after (lent_of room c.start) c.tickets) sent
    ≡ map (λ c. record { lent = lent_of room c.left; answers = c.answers }) sent
unfolding opened
WorkedSurplus = refl
