-- Worked examples of 23, 15 and 24: how a line meets an edge, and which of several meetings is told. What is expected
-- was worked out apart from the definitions. Assumes nothing.
use mathlib.Core.Path.{◌≡◌, refl}
use mathlib.Core.List.{List, [], ◌∷◌, ◌++◌, map}
use Prim.Native.Nat.{ℕ}
use lib.IntN.{ℤ, pos}
use Rattle.plane.specs.declared.Point.{Point}
use Rattle.planar_maps.specs.Map.{fwd, bwd}
use Rattle.map.specs.Rows.{Edge, Map, lent_of}
use Rattle.map.specs.Grow.{after}
use Rattle.map.proofs.Opened.{opened}
use Rattle.map.proofs.Sheet.{at, ok, no_to, node_row, edge_row}
use Rattle.map.proofs.WorkedSides.{redraw}
use Rattle.map.proofs.Worked.{Case, room, case, draw, lone, rows}

-- an edge in face 0 that ends where no other edge ends
abbrev pub ditch : ℕ → ℕ → ℕ → List Point → Edge
ditch e u v c = edge_row e u v (bwd e) (fwd e) 0 0 c

-- turned down one by one, and all is as before
abbrev pub refused : Map → List (List ℤ) → List ℕ → Case
refused m ts rs = case m ts (map no_to rs) m

-- ---- each number, each kind

-- a bent ditch, and two isolated nodes
abbrev bent : Map
bent =
    rows (node_row 1 (at 2 6) ∷ node_row 2 (at 14 10) ∷ lone 3 (at 4 2) 0 ∷ lone 4 (at 8 10) 0 ∷ [])
    (ditch 1 1 2 (at 2 6 ∷ at 10 6 ∷ at 14 10 ∷ []) ∷ [])
    (0 ∷ []) 5 2 1

-- from node 3 to node 4: along the ditch, across it, and with a point on it
abbrev three_ways : List (List Point)
three_ways =
    (at 4 2 ∷ at 5 6 ∷ at 7 6 ∷ at 8 10 ∷ [])
    ∷ (at 4 2 ∷ at 8 10 ∷ [])
    ∷ (at 4 2 ∷ at 5 6 ∷ at 8 10 ∷ []) ∷ []

abbrev round : List Point
round = at 4 2 ∷ at 16 2 ∷ at 16 12 ∷ at 8 10 ∷ []

-- kinds 4, 11 and 12, and then 6; round the ditch they are carried out
abbrev of_kind : ℕ → Case
of_kind k =
    case bent
    (map (draw k 3 4) (three_ways ++ round ∷ [])
    ++ map (redraw 2) (three_ways ++ (at 4 2 ∷ at 16 4 ∷ at 16 14 ∷ at 8 10 ∷ []) ∷ []))
    (no_to 23 ∷ no_to 15 ∷ no_to 24 ∷ ok (pos 2) ∷ no_to 23 ∷ no_to 15 ∷ no_to 24 ∷ ok (pos 0) ∷ [])
    (rows (node_row 1 (at 2 6) ∷ node_row 2 (at 14 10) ∷ node_row 3 (at 4 2) ∷ node_row 4 (at 8 10) ∷ [])
    (ditch 1 1 2 (at 2 6 ∷ at 10 6 ∷ at 14 10 ∷ [])
    ∷ ditch 2 3 4 (at 4 2 ∷ at 16 4 ∷ at 16 14 ∷ at 8 10 ∷ []) ∷ [])
    (0 ∷ []) 5 3 1)

-- ---- which it is

-- across through the ditch's corner, across with a corner on its corner, a corner on it from one side: no crossing;
-- across at a point that is not whole
abbrev at_corners : Case
at_corners =
    refused bent
    (map (draw 4 3 4)
    ((at 4 2 ∷ at 12 2 ∷ at 8 10 ∷ [])
    ∷ (at 4 2 ∷ at 10 6 ∷ at 8 10 ∷ [])
    ∷ (at 4 2 ∷ at 6 6 ∷ at 8 2 ∷ at 16 2 ∷ at 16 12 ∷ at 8 10 ∷ [])
    ∷ (at 4 2 ∷ at 9 9 ∷ at 8 10 ∷ []) ∷ []))
    (24 ∷ 24 ∷ 24 ∷ 15 ∷ [])

-- a ditch with segments that rise, lie level and stand upright
abbrev stair : Map
stair =
    rows (node_row 1 (at 0 2) ∷ node_row 2 (at 14 18) ∷ lone 3 (at 2 10) 0 ∷ lone 4 (at 12 4) 0 ∷ [])
    (ditch 1 1 2 (at 0 2 ∷ at 4 6 ∷ at 8 6 ∷ at 8 12 ∷ at 14 18 ∷ []) ∷ [])
    (0 ∷ []) 5 2 1

-- a segment around one of the ditch, within it, the same, over its end, against its direction; upright, rising; then
-- beyond its end, level and upright: one common point is no stretch
abbrev on_one_line : Case
on_one_line =
    refused stair
    (map (λ c. draw 4 3 4 (at 2 10 ∷ c ++ at 12 4 ∷ []))
    ((at 2 6 ∷ at 10 6 ∷ [])
    ∷ (at 5 6 ∷ at 7 6 ∷ [])
    ∷ (at 4 6 ∷ at 8 6 ∷ [])
    ∷ (at 6 6 ∷ at 10 6 ∷ [])
    ∷ (at 7 6 ∷ at 5 6 ∷ [])
    ∷ (at 8 10 ∷ at 8 8 ∷ [])
    ∷ (at 1 3 ∷ at 3 5 ∷ [])
    ∷ (at 6 8 ∷ at 8 6 ∷ at 10 6 ∷ [])
    ∷ (at 8 6 ∷ at 8 3 ∷ []) ∷ []))
    (23 ∷ 23 ∷ 23 ∷ 23 ∷ 23 ∷ 23 ∷ 23 ∷ 24 ∷ 24 ∷ [])

-- ---- which of several

-- over two level banks, y 4 and y 8; at each a list of corners: none is across, one a touch, two along
abbrev over-both : List Point → List Point → List ℤ
over-both p q = draw 4 5 6 (at 2 0 ∷ p ++ at 6 6 ∷ q ++ at 2 12 ∷ [])

-- the graver comes last, and first
abbrev by_rank : Map → Case
by_rank m =
    refused m
    (over-both (at 3 4 ∷ []) []
    ∷ over-both [] (at 6 8 ∷ [])
    ∷ over-both (at 3 4 ∷ []) (at 6 8 ∷ at 8 8 ∷ [])
    ∷ over-both (at 3 4 ∷ at 5 4 ∷ []) (at 6 8 ∷ [])
    ∷ over-both [] (at 6 8 ∷ at 8 8 ∷ [])
    ∷ over-both (at 3 4 ∷ at 5 4 ∷ []) []
    ∷ over-both (at 3 4 ∷ []) (at 6 8 ∷ []) ∷ [])
    (15 ∷ 15 ∷ 23 ∷ 23 ∷ 23 ∷ 23 ∷ 24 ∷ [])

-- the banks as two edges, with y of the first row and of the second
abbrev two_edges : ℕ → ℕ → Map
two_edges y z =
    rows (node_row 1 (at 0 y) ∷ node_row 2 (at 12 y) ∷ node_row 3 (at 0 z) ∷ node_row 4 (at 12 z) ∷ lone 5 (at 2 0) 0
    ∷ lone 6 (at 2 12) 0 ∷ [])
    (ditch 1 1 2 (at 0 y ∷ at 12 y ∷ []) ∷ ditch 2 3 4 (at 0 z ∷ at 12 z ∷ []) ∷ [])
    (0 ∷ []) 7 3 1

-- the banks as segments of one edge
abbrev one-edge : Edge → Map
one-edge e =
    rows (node_row 1 (at 0 4) ∷ node_row 2 (at 0 8) ∷ lone 5 (at 2 0) 0 ∷ lone 6 (at 2 12) 0 ∷ [])
    (e ∷ []) (0 ∷ []) 7 2 1

abbrev upward : Case
upward = by_rank (one-edge (ditch 1 1 2 (at 0 4 ∷ at 12 4 ∷ at 12 8 ∷ at 0 8 ∷ [])))

abbrev downward : Case
downward = by_rank (one-edge (ditch 1 2 1 (at 0 8 ∷ at 12 8 ∷ at 12 4 ∷ at 0 4 ∷ [])))

-- one upright segment meets several: a corner at y 5; a segment at y 7 too; and at last y 9 to 10 lies along it
abbrev of_one_segment : Edge → Case
of_one_segment e =
    refused
    (rows (node_row 1 (at 2 4) ∷ node_row 2 (at 2 11) ∷ lone 3 (at 6 0) 0 ∷ lone 4 (at 12 6) 0 ∷ lone 5 (at 0 8) 0
    ∷ lone 6 (at 6 12) 0 ∷ [])
    (e ∷ []) (0 ∷ []) 7 2 1)
    (draw 4 3 4 (at 6 0 ∷ at 6 6 ∷ at 12 6 ∷ [])
    ∷ draw 4 3 5 (at 6 0 ∷ at 6 8 ∷ at 0 8 ∷ [])
    ∷ draw 4 3 6 (at 6 0 ∷ at 6 12 ∷ []) ∷ [])
    (24 ∷ 15 ∷ 23 ∷ [])

abbrev gravest_last : Case
gravest_last =
    of_one_segment (ditch 1 1 2 (at 2 4 ∷ at 6 5 ∷ at 2 6 ∷ at 10 8 ∷ at 6 9 ∷ at 6 10 ∷ at 2 11 ∷ []))

abbrev gravest_first : Case
gravest_first =
    of_one_segment (ditch 1 2 1 (at 2 11 ∷ at 6 10 ∷ at 6 9 ∷ at 10 8 ∷ at 2 6 ∷ at 6 5 ∷ at 2 4 ∷ []))

-- ---- at nodes

abbrev elbow : Map
elbow =
    rows (node_row 1 (at 4 4) ∷ node_row 2 (at 12 8) ∷ lone 3 (at 2 2) 0 ∷ lone 4 (at 14 6) 0 ∷ lone 5 (at 3 6) 0
    ∷ lone 6 (at 14 10) 0 ∷ [])
    (ditch 1 1 2 (at 4 4 ∷ at 8 4 ∷ at 8 8 ∷ at 12 8 ∷ []) ∷ [])
    (0 ∷ []) 7 2 1

abbrev beside_nodes : Case
beside_nodes =
    refused elbow
    -- a stretch over a node, a crossing and a node, a touch at a node: 14
    (draw 4 3 4 (at 2 2 ∷ at 2 4 ∷ at 6 4 ∷ at 10 2 ∷ at 14 6 ∷ [])
    ∷ draw 4 3 4 (at 2 2 ∷ at 3 6 ∷ at 14 6 ∷ [])
    ∷ draw 4 3 4 (at 2 2 ∷ at 2 12 ∷ at 8 12 ∷ at 14 6 ∷ [])
    -- a stretch from a common node on, and up to one: 11; one that leaves before the node: 23
    ∷ draw 11 1 3 (at 4 4 ∷ at 6 4 ∷ at 2 2 ∷ [])
    ∷ draw 12 1 3 (at 4 4 ∷ at 6 4 ∷ at 2 2 ∷ [])
    ∷ draw 12 3 2 (at 2 2 ∷ at 2 10 ∷ at 10 8 ∷ at 12 8 ∷ [])
    ∷ draw 12 3 2 (at 2 2 ∷ at 2 10 ∷ at 9 8 ∷ at 11 8 ∷ at 12 10 ∷ at 12 8 ∷ [])
    -- from a common node, and then along the ditch, across it, with a point on it
    ∷ draw 12 1 4 (at 4 4 ∷ at 6 8 ∷ at 8 7 ∷ at 8 5 ∷ at 14 6 ∷ [])
    ∷ draw 12 1 4 (at 4 4 ∷ at 6 6 ∷ at 14 6 ∷ [])
    ∷ draw 12 1 4 (at 4 4 ∷ at 5 7 ∷ at 8 6 ∷ at 14 6 ∷ [])
    -- doubled back, clear of the ditch and on it
    ∷ draw 12 3 4 (at 2 2 ∷ at 8 2 ∷ at 5 2 ∷ at 14 6 ∷ [])
    ∷ draw 12 3 4 (at 2 2 ∷ at 5 4 ∷ at 7 4 ∷ at 6 4 ∷ at 14 6 ∷ []) ∷ [])
    (14 ∷ 14 ∷ 14 ∷ 11 ∷ 11 ∷ 11 ∷ 23 ∷ 23 ∷ 15 ∷ 24 ∷ 7 ∷ 7 ∷ [])

-- a common end alone is no meeting: start at start, start at end, end at start, end at end; redrawn from one on along
-- edge 1, 11; 24 comes before 19
abbrev common_ends_lem : Case
common_ends_lem =
    case elbow
    (draw 12 1 3 (at 4 4 ∷ at 2 2 ∷ [])
    ∷ draw 12 2 4 (at 12 8 ∷ at 14 6 ∷ [])
    ∷ draw 12 5 1 (at 3 6 ∷ at 4 4 ∷ [])
    ∷ draw 12 6 2 (at 14 10 ∷ at 12 8 ∷ [])
    ∷ redraw 2 (at 4 4 ∷ at 6 4 ∷ at 2 2 ∷ [])
    ∷ redraw 2 (at 4 4 ∷ at 8 6 ∷ at 3 8 ∷ at 1 6 ∷ at 2 2 ∷ [])
    ∷ redraw 2 (at 4 4 ∷ at 5 6 ∷ at 3 8 ∷ at 1 6 ∷ at 2 2 ∷ []) ∷ [])
    (ok (pos 2) ∷ ok (pos 3) ∷ ok (pos 4) ∷ ok (pos 5) ∷ no_to 11 ∷ no_to 24 ∷ no_to 19 ∷ [])
    (rows (node_row 1 (at 4 4) ∷ node_row 2 (at 12 8) ∷ node_row 3 (at 2 2) ∷ node_row 4 (at 14 6) ∷ node_row 5 (at 3 6)
    ∷ node_row 6 (at 14 10) ∷ [])
    (edge_row 1 1 2 (bwd 5) (fwd 2) 0 0 (at 4 4 ∷ at 8 4 ∷ at 8 8 ∷ at 12 8 ∷ [])
    ∷ edge_row 2 1 3 (bwd 2) (bwd 4) 0 0 (at 4 4 ∷ at 2 2 ∷ [])
    ∷ edge_row 3 2 4 (bwd 3) (bwd 1) 0 0 (at 12 8 ∷ at 14 6 ∷ [])
    ∷ edge_row 4 5 1 (fwd 1) (fwd 4) 0 0 (at 3 6 ∷ at 4 4 ∷ [])
    ∷ edge_row 5 6 2 (fwd 3) (fwd 5) 0 0 (at 14 10 ∷ at 12 8 ∷ []) ∷ [])
    (0 ∷ []) 7 6 1)

-- the own edge does not count: redrawn as it was, along it, across it
abbrev own_edge : Case
own_edge =
    case bent
    (redraw 1 (at 2 6 ∷ at 10 6 ∷ at 14 10 ∷ [])
    ∷ redraw 1 (at 2 6 ∷ at 6 6 ∷ at 14 10 ∷ [])
    ∷ redraw 1 (at 2 6 ∷ at 9 9 ∷ at 9 5 ∷ at 14 10 ∷ []) ∷ [])
    (ok (pos 0) ∷ ok (pos 0) ∷ ok (pos 0) ∷ [])
    (rows (node_row 1 (at 2 6) ∷ node_row 2 (at 14 10) ∷ lone 3 (at 4 2) 0 ∷ lone 4 (at 8 10) 0 ∷ [])
    (ditch 1 1 2 (at 2 6 ∷ at 9 9 ∷ at 9 5 ∷ at 14 10 ∷ []) ∷ [])
    (0 ∷ []) 5 2 1)

-- in form, but not drawn by tickets: node 3 lies on node 1, and node 5 on the ditch
abbrev same_place_lem : Map
same_place_lem =
    rows (node_row 1 (at 0 0) ∷ node_row 2 (at 6 0) ∷ lone 3 (at 0 0) 0 ∷ lone 4 (at 3 3) 0 ∷ lone 5 (at 5 0) 0 ∷ [])
    (ditch 1 1 2 (at 0 0 ∷ at 6 0 ∷ []) ∷ [])
    (0 ∷ []) 6 2 1

-- along the ditch from its end on; from a point of the ditch that is no end of it; away from its end
abbrev by_place : Case
by_place =
    case same_place_lem
    (draw 4 3 4 (at 0 0 ∷ at 4 0 ∷ at 3 3 ∷ []) ∷ draw 4 5 4 (at 5 0 ∷ at 3 3 ∷ [])
    ∷ draw 4 3 4 (at 0 0 ∷ at 3 3 ∷ []) ∷ [])
    (no_to 23 ∷ no_to 24 ∷ ok (pos 2) ∷ [])
    (rows (node_row 1 (at 0 0) ∷ node_row 2 (at 6 0) ∷ node_row 3 (at 0 0) ∷ node_row 4 (at 3 3) ∷ lone 5 (at 5 0) 0 ∷ [])
    (ditch 1 1 2 (at 0 0 ∷ at 6 0 ∷ []) ∷ ditch 2 3 4 (at 0 0 ∷ at 3 3 ∷ []) ∷ [])
    (0 ∷ []) 6 3 1)

-- ---- after 12, before 22, 20 and 21

-- a square with a ditch in it, and an isolated node inside and outside
abbrev square_and_ditch : Map
square_and_ditch =
    rows (node_row 1 (at 0 0) ∷ node_row 2 (at 5 5) ∷ node_row 3 (at 9 5) ∷ lone 4 (at 18 2) 1 ∷ lone 5 (at 30 5) 0 ∷ [])
    (edge_row 1 1 1 (fwd 1) (bwd 1) 1 0 (at 0 0 ∷ at 20 0 ∷ at 20 20 ∷ at 0 20 ∷ at 0 0 ∷ [])
    ∷ edge_row 2 2 3 (bwd 2) (fwd 2) 1 1 (at 5 5 ∷ at 9 5 ∷ []) ∷ [])
    (0 ∷ 1 ∷ []) 6 3 2

-- out of the square: 12, though it crosses; the square redrawn along the ditch, across it, with a point on it, past it
abbrev with_sides_lem : Case
with_sides_lem =
    refused square_and_ditch
    (map (λ k. draw k 4 5 (at 18 2 ∷ at 30 5 ∷ [])) (4 ∷ 11 ∷ 12 ∷ [])
    ++ map (λ c. redraw 1 (at 0 0 ∷ at 20 0 ∷ at 20 20 ∷ c ++ at 0 0 ∷ []))
    ((at 8 5 ∷ at 6 5 ∷ []) ∷ (at 8 4 ∷ []) ∷ (at 7 5 ∷ []) ∷ (at 11 4 ∷ []) ∷ []))
    (12 ∷ 12 ∷ 12 ∷ 23 ∷ 15 ∷ 24 ∷ 22 ∷ [])

-- no face row is left for a loop
abbrev no_row : Case
no_row =
    refused
    (rows bent.nodes bent.edges (0 ∷ 1 ∷ 2 ∷ 3 ∷ 4 ∷ 5 ∷ []) 5 2 6)
    (map (λ c. draw 12 3 3 (at 4 2 ∷ at 8 2 ∷ c ++ at 4 2 ∷ []))
    ((at 7 6 ∷ at 5 6 ∷ []) ∷ (at 6 8 ∷ []) ∷ (at 6 6 ∷ []) ∷ (at 6 4 ∷ []) ∷ []))
    (23 ∷ 15 ∷ 24 ∷ 20 ∷ [])

-- no edge number is left
abbrev no_number : Case
no_number =
    refused
    (rows bent.nodes bent.edges (0 ∷ []) 5 1000000 1)
    (map (draw 4 3 4) (three_ways ++ round ∷ []))
    (23 ∷ 15 ∷ 24 ∷ 21 ∷ [])

-- ---- the theorem

abbrev pub met : List Case
met =
    of_kind 4 ∷ of_kind 11 ∷ of_kind 12 ∷ at_corners ∷ on_one_line ∷ by_rank (two_edges 4 8)
    ∷ by_rank (two_edges 8 4) ∷ upward ∷ downward ∷ gravest_last ∷ gravest_first ∷ beside_nodes ∷ common_ends_lem
    ∷ own_edge ∷ by_place ∷ with_sides_lem ∷ no_row ∷ no_number ∷ []

-- all of them, by computation
pub WorkedMeetings : map (λ c. after (lent_of room c.start) c.tickets) met
    ≡ map (λ c. record { lent = lent_of room c.left; answers = c.answers }) met
unfolding opened
WorkedMeetings = refl
