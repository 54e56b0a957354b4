-- Worked examples beside the square sheet, as lists of claims: what tickets do to a map and answer, the edges of a
-- face, and tables that break one rule of form each. What is expected was worked out apart from the definitions.
use mathlib.Core.Path.{◌≡◌, refl}
use mathlib.Core.Bool.{true, false}
use mathlib.Core.List.{List, [], ◌∷◌, ◌++◌, map}
use mathlib.Core.Option.{some}
use Prim.Native.Nat.{ℕ}
use lib.IntN.{ℤ, pos, negsuc}
use lib.ListN.{get_or, set}
use Rattle.plane.specs.declared.Point.{Point}
use Rattle.curves.specs.Curves.{coordinates}
use Rattle.planar_maps.specs.Map.{fwd, bwd}
use Rattle.map.specs.declared.Answer.{Answer}
use Rattle.map.specs.declared.Head.{Head}
use Rattle.map.specs.Limits.{TwelvePoints}
use Rattle.map.specs.Rows.{Node, Edge, Map, Lent, Sizes, lent, empty_map, map_of, lent_of, counts}
use Rattle.map.specs.Form.{in_form}
use Rattle.map.specs.Ticket.{Listed, edges_of_face}
use Rattle.map.specs.Grow.{after}
use Rattle.map.proofs.Opened.{opened}
use Rattle.map.proofs.Sheet.{at, ok, no_to, node_row, edge_row}

-- tables of a few rows
abbrev pub room : Sizes
room = record { nodes = 9; edges = 8; faces = 6; limit = TwelvePoints }

-- from a map by tickets: what they answer, and the map after them
pub record Case : Type 0 where
  pub start : Map
  pub tickets : List (List ℤ)
  pub answers : List Answer
  pub left : Map

abbrev pub case : Map → List (List ℤ) → List Answer → Map → Case
case m ts rs m' = record { start = m; tickets = ts; answers = rs; left = m' }

-- the edges of a face of a map in a list: the list after the call, and the answer
pub record Listing : Type 0 where
  pub map : Map
  pub face : ℤ
  pub list : List ℤ
  pub gives : Listed

abbrev listing : Map → ℤ → List ℤ → Listed → Listing
listing m f l g = record { map = m; face = f; list = l; gives = g }

abbrev listed : List ℤ → Answer → Listed
listed l a = record { list = l; answer = a }

-- ---- words

-- kind 1 without a face
abbrev pub add : ℕ → ℕ → List ℤ
add x y = pos 1 ∷ negsuc 0 ∷ pos x ∷ pos y ∷ []

-- kinds 4, 11 and 12
abbrev pub draw : ℕ → ℕ → ℕ → List Point → List ℤ
draw k u v c = pos k ∷ pos u ∷ pos v ∷ coordinates c

abbrev pub lone : ℕ → Point → ℕ → Node
lone n p f = record { number = n; at = p; face = some f }

abbrev pub rows : List Node → List Edge → List ℕ → ℕ → ℕ → ℕ → Map
rows ns es fs a b c = record { nodes = ns; edges = es; faces = fs; next = counts a b c }

-- ---- maps and cases

-- a square, and two isolated nodes in it
abbrev pub square : Map
square =
    rows (node_row 1 (at 0 0) ∷ lone 2 (at 5 5) 1 ∷ lone 3 (at 5 9) 1 ∷ [])
    (edge_row 1 1 1 (fwd 1) (bwd 1) 1 0 (at 0 0 ∷ at 20 0 ∷ at 20 20 ∷ at 0 20 ∷ at 0 0 ∷ []) ∷ [])
    (0 ∷ 1 ∷ []) 4 2 2

-- kind 4 returns the edge; nodes left bare, by 5 and 13, take the face around them; 13 answers -1 when none healed
abbrev lone_edge_lem : Case
lone_edge_lem =
    case square
    (draw 4 2 3 (at 5 5 ∷ at 5 9 ∷ []) ∷ (pos 5 ∷ pos 2 ∷ []) ∷ draw 4 3 2 (at 5 9 ∷ at 5 5 ∷ [])
    ∷ (pos 13 ∷ pos 3 ∷ []) ∷ [])
    (ok (pos 2) ∷ ok (pos 0) ∷ ok (pos 3) ∷ ok (negsuc 0) ∷ [])
    (rows (node_row 1 (at 0 0) ∷ lone 2 (at 5 5) 1 ∷ lone 3 (at 5 9) 1 ∷ [])
    (edge_row 1 1 1 (fwd 1) (bwd 1) 1 0 (at 0 0 ∷ at 20 0 ∷ at 20 20 ∷ at 0 20 ∷ at 0 0 ∷ []) ∷ [])
    (0 ∷ 1 ∷ []) 4 4 2)

-- 12: the given face is not the point's face
abbrev given_face : Case
given_face =
    case square
    ((pos 1 ∷ pos 1 ∷ pos 30 ∷ pos 5 ∷ []) ∷ (pos 1 ∷ pos 0 ∷ pos 7 ∷ pos 7 ∷ [])
    ∷ (pos 1 ∷ pos 4 ∷ pos 7 ∷ pos 7 ∷ []) ∷ (pos 1 ∷ pos 1 ∷ pos 7 ∷ pos 7 ∷ [])
    ∷ (pos 1 ∷ pos 0 ∷ pos 30 ∷ pos 5 ∷ []) ∷ [])
    (no_to 12 ∷ no_to 12 ∷ no_to 4 ∷ ok (pos 4) ∷ ok (pos 5) ∷ [])
    (rows (node_row 1 (at 0 0) ∷ lone 2 (at 5 5) 1 ∷ lone 3 (at 5 9) 1 ∷ lone 4 (at 7 7) 1 ∷ lone 5 (at 30 5) 0 ∷ [])
    (edge_row 1 1 1 (fwd 1) (bwd 1) 1 0 (at 0 0 ∷ at 20 0 ∷ at 20 20 ∷ at 0 20 ∷ at 0 0 ∷ []) ∷ [])
    (0 ∷ 1 ∷ []) 6 2 2)

-- a square that stands on a corner
abbrev pub diamond : Map
diamond =
    rows (node_row 1 (at 0 10) ∷ [])
    (edge_row 1 1 1 (fwd 1) (bwd 1) 1 0 (at 0 10 ∷ at 10 0 ∷ at 20 10 ∷ at 10 20 ∷ at 0 10 ∷ []) ∷ [])
    (0 ∷ 1 ∷ []) 2 2 2

-- face of a point: above the left corner two segments are as high, and the greater slope counts; above the right one no
-- segment passes; the highest counts
abbrev around_the_diamond : Case
around_the_diamond =
    case diamond
    (add 0 15 ∷ add 20 15 ∷ add 10 25 ∷ add 10 10 ∷ [])
    (ok (pos 2) ∷ ok (pos 3) ∷ ok (pos 4) ∷ ok (pos 5) ∷ [])
    (rows (node_row 1 (at 0 10) ∷ lone 2 (at 0 15) 0 ∷ lone 3 (at 20 15) 0 ∷ lone 4 (at 10 25) 0 ∷ lone 5 (at 10 10) 1
    ∷ [])
    (edge_row 1 1 1 (fwd 1) (bwd 1) 1 0 (at 0 10 ∷ at 10 0 ∷ at 20 10 ∷ at 10 20 ∷ at 0 10 ∷ []) ∷ [])
    (0 ∷ 1 ∷ []) 6 2 2)

-- in form, but not drawn by tickets: edges 1 and 2 lie on one another
abbrev overlapping : Map
overlapping =
    rows (node_row 1 (at 0 0) ∷ node_row 2 (at 10 0) ∷ node_row 3 (at 1 0) ∷ node_row 4 (at 9 0) ∷ node_row 5 (at 20 5)
    ∷ [])
    (edge_row 1 1 2 (bwd 1) (fwd 1) 1 1 (at 0 0 ∷ at 10 0 ∷ [])
    ∷ edge_row 2 3 4 (bwd 2) (fwd 2) 2 2 (at 1 0 ∷ at 9 0 ∷ [])
    ∷ edge_row 3 5 5 (fwd 3) (bwd 3) 1 2 (at 20 5 ∷ at 30 5 ∷ at 22 5 ∷ at 22 0 ∷ at 20 5 ∷ []) ∷ [])
    (0 ∷ 1 ∷ 2 ∷ []) 6 4 3

-- of segments as high and as steep the lower edge number counts, then the earlier segment
abbrev lower-edge-number : Case
lower-edge-number =
    case overlapping
    (add 5 5 ∷ add 26 9 ∷ [])
    (ok (pos 6) ∷ ok (pos 7) ∷ [])
    (rows (node_row 1 (at 0 0) ∷ node_row 2 (at 10 0) ∷ node_row 3 (at 1 0) ∷ node_row 4 (at 9 0) ∷ node_row 5 (at 20 5)
    ∷ lone 6 (at 5 5) 1 ∷ lone 7 (at 26 9) 1 ∷ [])
    (edge_row 1 1 2 (bwd 1) (fwd 1) 1 1 (at 0 0 ∷ at 10 0 ∷ [])
    ∷ edge_row 2 3 4 (bwd 2) (fwd 2) 2 2 (at 1 0 ∷ at 9 0 ∷ [])
    ∷ edge_row 3 5 5 (fwd 3) (bwd 3) 1 2 (at 20 5 ∷ at 30 5 ∷ at 22 5 ∷ at 22 0 ∷ at 20 5 ∷ []) ∷ [])
    (0 ∷ 1 ∷ 2 ∷ []) 8 4 3)

-- a square of two edges; in both halves an isolated node, 3 and 4, and an island, edges 3 and 4
abbrev islands : Map
islands =
    rows (node_row 1 (at 0 0) ∷ node_row 2 (at 20 20) ∷ lone 3 (at 15 4) 1 ∷ lone 4 (at 5 15) 1 ∷ node_row 5 (at 12 2)
    ∷ node_row 6 (at 2 12) ∷ [])
    (edge_row 1 1 2 (fwd 2) (bwd 2) 1 0 (at 0 0 ∷ at 20 0 ∷ at 20 20 ∷ [])
    ∷ edge_row 2 2 1 (fwd 1) (bwd 1) 1 0 (at 20 20 ∷ at 0 20 ∷ at 0 0 ∷ [])
    ∷ edge_row 3 5 5 (fwd 3) (bwd 3) 2 1 (at 12 2 ∷ at 14 2 ∷ at 14 3 ∷ at 12 2 ∷ [])
    ∷ edge_row 4 6 6 (fwd 4) (bwd 4) 1 3 (at 2 12 ∷ at 3 14 ∷ at 3 12 ∷ at 2 12 ∷ []) ∷ [])
    (0 ∷ 1 ∷ 2 ∷ 3 ∷ []) 7 5 4

-- kind 12: the reference side takes the new number; isolated nodes and other rings go by what its ring encloses
abbrev islands_12 : Case
islands_12 =
    case islands
    (draw 12 1 2 (at 0 0 ∷ at 20 20 ∷ []) ∷ [])
    (ok (pos 5) ∷ [])
    (rows (node_row 1 (at 0 0) ∷ node_row 2 (at 20 20) ∷ lone 3 (at 15 4) 1 ∷ lone 4 (at 5 15) 4 ∷ node_row 5 (at 12 2)
    ∷ node_row 6 (at 2 12) ∷ [])
    (edge_row 1 1 2 (bwd 5) (bwd 2) 1 0 (at 0 0 ∷ at 20 0 ∷ at 20 20 ∷ [])
    ∷ edge_row 2 2 1 (fwd 5) (bwd 1) 4 0 (at 20 20 ∷ at 0 20 ∷ at 0 0 ∷ [])
    ∷ edge_row 3 5 5 (fwd 3) (bwd 3) 2 1 (at 12 2 ∷ at 14 2 ∷ at 14 3 ∷ at 12 2 ∷ [])
    ∷ edge_row 4 6 6 (fwd 4) (bwd 4) 4 3 (at 2 12 ∷ at 3 14 ∷ at 3 12 ∷ at 2 12 ∷ [])
    ∷ edge_row 5 1 2 (fwd 2) (fwd 1) 4 1 (at 0 0 ∷ at 20 20 ∷ []) ∷ [])
    (0 ∷ 1 ∷ 2 ∷ 3 ∷ 4 ∷ []) 7 6 5)

-- kind 11: the old face goes, left takes the lower new number
abbrev islands_11 : Case
islands_11 =
    case islands
    (draw 11 1 2 (at 0 0 ∷ at 20 20 ∷ []) ∷ [])
    (ok (pos 5) ∷ [])
    (rows (node_row 1 (at 0 0) ∷ node_row 2 (at 20 20) ∷ lone 3 (at 15 4) 5 ∷ lone 4 (at 5 15) 4 ∷ node_row 5 (at 12 2)
    ∷ node_row 6 (at 2 12) ∷ [])
    (edge_row 1 1 2 (bwd 5) (bwd 2) 5 0 (at 0 0 ∷ at 20 0 ∷ at 20 20 ∷ [])
    ∷ edge_row 2 2 1 (fwd 5) (bwd 1) 4 0 (at 20 20 ∷ at 0 20 ∷ at 0 0 ∷ [])
    ∷ edge_row 3 5 5 (fwd 3) (bwd 3) 2 5 (at 12 2 ∷ at 14 2 ∷ at 14 3 ∷ at 12 2 ∷ [])
    ∷ edge_row 4 6 6 (fwd 4) (bwd 4) 4 3 (at 2 12 ∷ at 3 14 ∷ at 3 12 ∷ at 2 12 ∷ [])
    ∷ edge_row 5 1 2 (fwd 2) (fwd 1) 4 5 (at 0 0 ∷ at 20 20 ∷ []) ∷ [])
    (0 ∷ 2 ∷ 3 ∷ 4 ∷ 5 ∷ []) 7 6 6)

-- the same edge from the other end: right is the reference side, and left takes the lower new number
abbrev islands_back : Case
islands_back =
    case islands
    (draw 11 2 1 (at 20 20 ∷ at 0 0 ∷ []) ∷ [])
    (ok (pos 5) ∷ [])
    (rows (node_row 1 (at 0 0) ∷ node_row 2 (at 20 20) ∷ lone 3 (at 15 4) 4 ∷ lone 4 (at 5 15) 5 ∷ node_row 5 (at 12 2)
    ∷ node_row 6 (at 2 12) ∷ [])
    (edge_row 1 1 2 (fwd 5) (bwd 2) 4 0 (at 0 0 ∷ at 20 0 ∷ at 20 20 ∷ [])
    ∷ edge_row 2 2 1 (bwd 5) (bwd 1) 5 0 (at 20 20 ∷ at 0 20 ∷ at 0 0 ∷ [])
    ∷ edge_row 3 5 5 (fwd 3) (bwd 3) 2 4 (at 12 2 ∷ at 14 2 ∷ at 14 3 ∷ at 12 2 ∷ [])
    ∷ edge_row 4 6 6 (fwd 4) (bwd 4) 5 3 (at 2 12 ∷ at 3 14 ∷ at 3 12 ∷ at 2 12 ∷ [])
    ∷ edge_row 5 2 1 (fwd 1) (fwd 2) 4 5 (at 20 20 ∷ at 0 0 ∷ []) ∷ [])
    (0 ∷ 2 ∷ 3 ∷ 4 ∷ 5 ∷ []) 7 6 6)

-- a square; node 3 is inside and 4 outside of what is drawn from node 2
abbrev inner : Map
inner =
    rows (node_row 1 (at 0 0) ∷ lone 2 (at 5 5) 1 ∷ lone 3 (at 10 10) 1 ∷ lone 4 (at 18 18) 1 ∷ [])
    (edge_row 1 1 1 (fwd 1) (bwd 1) 1 0 (at 0 0 ∷ at 20 0 ∷ at 20 20 ∷ at 0 20 ∷ at 0 0 ∷ []) ∷ [])
    (0 ∷ 1 ∷ []) 5 2 2

-- the left ring's area is negative: the reference side is right, left still takes the lower new number
abbrev clockwise_11 : Case
clockwise_11 =
    case inner
    (draw 11 2 2 (at 5 5 ∷ at 5 15 ∷ at 15 15 ∷ at 15 5 ∷ at 5 5 ∷ []) ∷ [])
    (ok (pos 2) ∷ [])
    (rows (node_row 1 (at 0 0) ∷ node_row 2 (at 5 5) ∷ lone 3 (at 10 10) 3 ∷ lone 4 (at 18 18) 2 ∷ [])
    (edge_row 1 1 1 (fwd 1) (bwd 1) 2 0 (at 0 0 ∷ at 20 0 ∷ at 20 20 ∷ at 0 20 ∷ at 0 0 ∷ [])
    ∷ edge_row 2 2 2 (fwd 2) (bwd 2) 2 3 (at 5 5 ∷ at 5 15 ∷ at 15 15 ∷ at 15 5 ∷ at 5 5 ∷ []) ∷ [])
    (0 ∷ 2 ∷ 3 ∷ []) 5 3 4)

-- and in 12 right takes the new number
abbrev clockwise_12 : Case
clockwise_12 =
    case inner
    (draw 12 2 2 (at 5 5 ∷ at 5 15 ∷ at 15 15 ∷ at 15 5 ∷ at 5 5 ∷ []) ∷ [])
    (ok (pos 2) ∷ [])
    (rows (node_row 1 (at 0 0) ∷ node_row 2 (at 5 5) ∷ lone 3 (at 10 10) 2 ∷ lone 4 (at 18 18) 1 ∷ [])
    (edge_row 1 1 1 (fwd 1) (bwd 1) 1 0 (at 0 0 ∷ at 20 0 ∷ at 20 20 ∷ at 0 20 ∷ at 0 0 ∷ [])
    ∷ edge_row 2 2 2 (fwd 2) (bwd 2) 1 2 (at 5 5 ∷ at 5 15 ∷ at 15 15 ∷ at 15 5 ∷ at 5 5 ∷ []) ∷ [])
    (0 ∷ 1 ∷ 2 ∷ []) 5 3 3)

-- in face 0 kind 11 does as 12
abbrev face_0_never_goes : Case
face_0_never_goes =
    case empty_map
    (add 0 0 ∷ draw 11 1 1 (at 0 0 ∷ at 0 5 ∷ at 5 5 ∷ at 0 0 ∷ []) ∷ [])
    (ok (pos 1) ∷ ok (pos 1) ∷ [])
    (rows (node_row 1 (at 0 0) ∷ [])
    (edge_row 1 1 1 (fwd 1) (bwd 1) 0 1 (at 0 0 ∷ at 0 5 ∷ at 5 5 ∷ at 0 0 ∷ []) ∷ [])
    (0 ∷ 1 ∷ []) 2 2 2)

-- edge 3 dangles in the upper half; node 4 is above it, 5 over the bend of what is drawn next, 6 in the lower half
abbrev dangling : Map
dangling =
    rows (node_row 1 (at 0 0) ∷ node_row 2 (at 20 20) ∷ node_row 3 (at 8 14) ∷ lone 4 (at 4 16) 1 ∷ lone 5 (at 10 12) 1
    ∷ lone 6 (at 10 4) 1 ∷ [])
    (edge_row 1 1 2 (fwd 2) (bwd 2) 1 0 (at 0 0 ∷ at 20 0 ∷ at 20 20 ∷ [])
    ∷ edge_row 2 2 1 (fwd 3) (bwd 1) 1 0 (at 20 20 ∷ at 0 20 ∷ at 0 0 ∷ [])
    ∷ edge_row 3 1 3 (bwd 3) (fwd 1) 1 1 (at 0 0 ∷ at 8 14 ∷ []) ∷ [])
    (0 ∷ 1 ∷ []) 7 4 2

-- enclosed: an edge used twice counts twice, and a segment ends before its greater x
abbrev used_twice : Case
used_twice =
    case dangling
    (draw 12 1 2 (at 0 0 ∷ at 10 8 ∷ at 20 20 ∷ []) ∷ [])
    (ok (pos 4) ∷ [])
    (rows (node_row 1 (at 0 0) ∷ node_row 2 (at 20 20) ∷ node_row 3 (at 8 14) ∷ lone 4 (at 4 16) 2 ∷ lone 5 (at 10 12) 2
    ∷ lone 6 (at 10 4) 1 ∷ [])
    (edge_row 1 1 2 (bwd 4) (bwd 2) 1 0 (at 0 0 ∷ at 20 0 ∷ at 20 20 ∷ [])
    ∷ edge_row 2 2 1 (fwd 3) (bwd 1) 2 0 (at 20 20 ∷ at 0 20 ∷ at 0 0 ∷ [])
    ∷ edge_row 3 1 3 (bwd 3) (fwd 4) 2 2 (at 0 0 ∷ at 8 14 ∷ [])
    ∷ edge_row 4 1 2 (fwd 2) (fwd 1) 2 1 (at 0 0 ∷ at 10 8 ∷ at 20 20 ∷ []) ∷ [])
    (0 ∷ 1 ∷ 2 ∷ []) 7 5 3)

-- in form, but not drawn by tickets: edges 3 and 4 of face 1 come in from outside
abbrev straddling : Map
straddling =
    rows (node_row 1 (at 0 0) ∷ node_row 2 (at 20 20) ∷ node_row 3 (at 30 5) ∷ node_row 4 (at 8 15) ∷ node_row 5 (at 9 12)
    ∷ [])
    (edge_row 1 1 2 (fwd 2) (bwd 2) 1 0 (at 0 0 ∷ at 20 0 ∷ at 20 20 ∷ [])
    ∷ edge_row 2 2 1 (fwd 1) (bwd 1) 1 0 (at 20 20 ∷ at 0 20 ∷ at 0 0 ∷ [])
    ∷ edge_row 3 3 4 (fwd 4) (fwd 3) 1 1 (at 30 5 ∷ at 25 30 ∷ at 8 15 ∷ [])
    ∷ edge_row 4 4 5 (bwd 4) (bwd 3) 1 1 (at 8 15 ∷ at 9 12 ∷ []) ∷ [])
    (0 ∷ 1 ∷ []) 6 5 2

-- other rings by the start node of their lowest edge
abbrev lowest_start : Case
lowest_start =
    case straddling
    (draw 12 1 2 (at 0 0 ∷ at 20 20 ∷ []) ∷ [])
    (ok (pos 5) ∷ [])
    (rows (node_row 1 (at 0 0) ∷ node_row 2 (at 20 20) ∷ node_row 3 (at 30 5) ∷ node_row 4 (at 8 15) ∷ node_row 5 (at 9 12)
    ∷ [])
    (edge_row 1 1 2 (bwd 5) (bwd 2) 1 0 (at 0 0 ∷ at 20 0 ∷ at 20 20 ∷ [])
    ∷ edge_row 2 2 1 (fwd 5) (bwd 1) 2 0 (at 20 20 ∷ at 0 20 ∷ at 0 0 ∷ [])
    ∷ edge_row 3 3 4 (fwd 4) (fwd 3) 1 1 (at 30 5 ∷ at 25 30 ∷ at 8 15 ∷ [])
    ∷ edge_row 4 4 5 (bwd 4) (bwd 3) 1 1 (at 8 15 ∷ at 9 12 ∷ [])
    ∷ edge_row 5 1 2 (fwd 2) (fwd 1) 2 1 (at 0 0 ∷ at 20 20 ∷ []) ∷ [])
    (0 ∷ 1 ∷ 2 ∷ []) 6 6 3)

-- 14: a node inside the curve; at its end is not inside
abbrev node_inside_lem : Case
node_inside_lem =
    case empty_map
    (add 0 0 ∷ add 12 0 ∷ add 6 0 ∷ draw 4 1 2 (at 0 0 ∷ at 12 0 ∷ []) ∷ draw 12 1 2 (at 0 0 ∷ at 12 0 ∷ [])
    ∷ draw 4 1 3 (at 0 0 ∷ at 6 0 ∷ []) ∷ [])
    (ok (pos 1) ∷ ok (pos 2) ∷ ok (pos 3) ∷ no_to 14 ∷ no_to 14 ∷ ok (pos 1) ∷ [])
    (rows (node_row 1 (at 0 0) ∷ lone 2 (at 12 0) 0 ∷ node_row 3 (at 6 0) ∷ [])
    (edge_row 1 1 3 (bwd 1) (fwd 1) 0 0 (at 0 0 ∷ at 6 0 ∷ []) ∷ [])
    (0 ∷ []) 4 2 1)

-- curves of 7 and 6 points, bent where they meet
abbrev twelve : Map
twelve =
    rows (node_row 1 (at 0 1) ∷ node_row 2 (at 6 1) ∷ node_row 3 (at 11 2) ∷ [])
    (edge_row 1 1 2 (fwd 2) (fwd 1) 0 0 (at 0 1 ∷ at 1 2 ∷ at 2 1 ∷ at 3 2 ∷ at 4 1 ∷ at 5 2 ∷ at 6 1 ∷ [])
    ∷ edge_row 2 2 3 (bwd 2) (bwd 1) 0 0 (at 6 1 ∷ at 7 2 ∷ at 8 1 ∷ at 9 2 ∷ at 10 1 ∷ at 11 2 ∷ []) ∷ [])
    (0 ∷ []) 4 3 1

-- curves of 7 and 7 points, bent where they meet
abbrev thirteen : Map
thirteen =
    rows (node_row 1 (at 0 1) ∷ node_row 2 (at 6 1) ∷ node_row 3 (at 12 1) ∷ [])
    (edge_row 1 1 2 (fwd 2) (fwd 1) 0 0 (at 0 1 ∷ at 1 2 ∷ at 2 1 ∷ at 3 2 ∷ at 4 1 ∷ at 5 2 ∷ at 6 1 ∷ [])
    ∷ edge_row 2 2 3 (bwd 2) (bwd 1) 0 0 (at 6 1 ∷ at 7 2 ∷ at 8 1 ∷ at 9 2 ∷ at 10 1 ∷ at 11 2 ∷ at 12 1 ∷ []) ∷ [])
    (0 ∷ []) 4 3 1

-- and straight where they meet
abbrev straight_thirteen : Map
straight_thirteen =
    rows (node_row 1 (at 0 1) ∷ node_row 2 (at 6 1) ∷ node_row 3 (at 12 2) ∷ [])
    (edge_row 1 1 2 (fwd 2) (fwd 1) 0 0 (at 0 1 ∷ at 1 2 ∷ at 2 1 ∷ at 3 2 ∷ at 4 1 ∷ at 5 2 ∷ at 6 1 ∷ [])
    ∷ edge_row 2 2 3 (bwd 2) (bwd 1) 0 0 (at 6 1 ∷ at 7 0 ∷ at 8 2 ∷ at 9 1 ∷ at 10 2 ∷ at 11 1 ∷ at 12 2 ∷ []) ∷ [])
    (0 ∷ []) 4 3 1

-- 18: 12 points are taken
abbrev heal_12 : Case
heal_12 =
    case twelve
    ((pos 10 ∷ pos 1 ∷ pos 2 ∷ []) ∷ [])
    (ok (pos 0) ∷ [])
    (rows (node_row 1 (at 0 1) ∷ node_row 3 (at 11 2) ∷ [])
    (edge_row 1 1 3 (bwd 1) (fwd 1) 0 0
    (at 0 1 ∷ at 1 2 ∷ at 2 1 ∷ at 3 2 ∷ at 4 1 ∷ at 5 2 ∷ at 6 1 ∷ at 7 2 ∷ at 8 1 ∷ at 9 2 ∷ at 10 1 ∷ at 11 2
    ∷ []) ∷ [])
    (0 ∷ []) 4 3 1)

-- 13 are not
abbrev heal_13 : Case
heal_13 =
    case thirteen
    ((pos 9 ∷ pos 1 ∷ pos 2 ∷ []) ∷ (pos 10 ∷ pos 1 ∷ pos 2 ∷ []) ∷ [])
    (no_to 18 ∷ no_to 18 ∷ [])
    thirteen

-- a straight joint is not counted; the healed edge runs as the first one
abbrev heal-straight : Case
heal-straight =
    case straight_thirteen
    ((pos 9 ∷ pos 2 ∷ pos 1 ∷ []) ∷ [])
    (ok (pos 3) ∷ [])
    (rows (node_row 1 (at 0 1) ∷ node_row 3 (at 12 2) ∷ [])
    (edge_row 3 1 3 (bwd 3) (fwd 3) 0 0
    (at 0 1 ∷ at 1 2 ∷ at 2 1 ∷ at 3 2 ∷ at 4 1 ∷ at 5 2 ∷ at 7 0 ∷ at 8 2 ∷ at 9 1 ∷ at 10 2 ∷ at 11 1 ∷ at 12 2
    ∷ []) ∷ [])
    (0 ∷ []) 4 4 1)

-- the last node number is left
abbrev late_nodes : Map
late_nodes =
    rows [] []
    (0 ∷ []) 999999 1 1

-- 21: 999,999 is taken, 1,000,000 is not
abbrev last_node : Case
last_node =
    case late_nodes
    (add 0 0 ∷ add 5 0 ∷ [])
    (ok (pos 999999) ∷ no_to 21 ∷ [])
    (rows (lone 999999 (at 0 0) 0 ∷ [])
    ([])
    (0 ∷ []) 1000000 1 1)

-- the last edge number is left
abbrev late_edges : Map
late_edges =
    rows (node_row 1 (at 0 0) ∷ lone 2 (at 5 5) 1 ∷ lone 3 (at 5 9) 1 ∷ [])
    (edge_row 1 1 1 (fwd 1) (bwd 1) 1 0 (at 0 0 ∷ at 20 0 ∷ at 20 20 ∷ at 0 20 ∷ at 0 0 ∷ []) ∷ [])
    (0 ∷ 1 ∷ []) 4 999999 2

-- kind 7 needs two edge numbers, kind 8 one; then none is left
abbrev last_edge : Case
last_edge =
    case late_edges
    ((pos 7 ∷ pos 1 ∷ pos 20 ∷ pos 20 ∷ []) ∷ (pos 8 ∷ pos 1 ∷ pos 20 ∷ pos 20 ∷ [])
    ∷ (pos 8 ∷ pos 1 ∷ pos 20 ∷ pos 4 ∷ []) ∷ draw 4 2 3 (at 5 5 ∷ at 5 9 ∷ []) ∷ [])
    (no_to 21 ∷ ok (pos 4) ∷ no_to 21 ∷ no_to 21 ∷ [])
    (rows (node_row 1 (at 0 0) ∷ lone 2 (at 5 5) 1 ∷ lone 3 (at 5 9) 1 ∷ node_row 4 (at 20 20) ∷ [])
    (edge_row 1 1 4 (fwd 999999) (bwd 999999) 1 0 (at 0 0 ∷ at 20 0 ∷ at 20 20 ∷ [])
    ∷ edge_row 999999 4 1 (fwd 1) (bwd 1) 1 0 (at 20 20 ∷ at 0 20 ∷ at 0 0 ∷ []) ∷ [])
    (0 ∷ 1 ∷ []) 5 1000000 2)

-- a square in two halves, with an isolated node in each; the last face number is left
abbrev halves : Map
halves =
    rows (node_row 1 (at 0 0) ∷ node_row 2 (at 20 20) ∷ lone 3 (at 15 4) 1 ∷ lone 4 (at 5 15) 2 ∷ [])
    (edge_row 1 1 2 (bwd 3) (bwd 2) 1 0 (at 0 0 ∷ at 20 0 ∷ at 20 20 ∷ [])
    ∷ edge_row 2 2 1 (fwd 3) (bwd 1) 2 0 (at 20 20 ∷ at 0 20 ∷ at 0 0 ∷ [])
    ∷ edge_row 3 1 2 (fwd 2) (fwd 1) 2 1 (at 0 0 ∷ at 20 20 ∷ []) ∷ [])
    (0 ∷ 1 ∷ 2 ∷ []) 5 4 999999

-- kind 11 needs two face numbers, 13 one, and none where a side is 0: then it answers 0
abbrev last_face : Case
last_face =
    case halves
    (draw 11 1 2 (at 0 0 ∷ at 15 8 ∷ at 20 20 ∷ []) ∷ (pos 13 ∷ pos 3 ∷ []) ∷ (pos 13 ∷ pos 1 ∷ []) ∷ [])
    (no_to 21 ∷ ok (pos 999999) ∷ ok (pos 0) ∷ [])
    (rows (node_row 1 (at 0 0) ∷ node_row 2 (at 20 20) ∷ lone 3 (at 15 4) 0 ∷ lone 4 (at 5 15) 0 ∷ [])
    (edge_row 2 2 1 (bwd 2) (fwd 2) 0 0 (at 20 20 ∷ at 0 20 ∷ at 0 0 ∷ []) ∷ [])
    (0 ∷ []) 5 4 1000000)

-- the same halves with no face number left
abbrev halves_spent : Map
halves_spent =
    rows (node_row 1 (at 0 0) ∷ node_row 2 (at 20 20) ∷ lone 3 (at 15 4) 1 ∷ lone 4 (at 5 15) 2 ∷ [])
    (edge_row 1 1 2 (bwd 3) (bwd 2) 1 0 (at 0 0 ∷ at 20 0 ∷ at 20 20 ∷ [])
    ∷ edge_row 2 2 1 (fwd 3) (bwd 1) 2 0 (at 20 20 ∷ at 0 20 ∷ at 0 0 ∷ [])
    ∷ edge_row 3 1 2 (fwd 2) (fwd 1) 2 1 (at 0 0 ∷ at 20 20 ∷ []) ∷ [])
    (0 ∷ 1 ∷ 2 ∷ []) 5 4 1000000

-- 13 gets 21; 14 leaves the lower number, also to the node in the face that goes
abbrev no_face-left : Case
no_face-left =
    case halves_spent
    ((pos 13 ∷ pos 3 ∷ []) ∷ (pos 14 ∷ pos 3 ∷ []) ∷ [])
    (no_to 21 ∷ ok (pos 0) ∷ [])
    (rows (node_row 1 (at 0 0) ∷ node_row 2 (at 20 20) ∷ lone 3 (at 15 4) 1 ∷ lone 4 (at 5 15) 1 ∷ [])
    (edge_row 1 1 2 (fwd 2) (bwd 2) 1 0 (at 0 0 ∷ at 20 0 ∷ at 20 20 ∷ [])
    ∷ edge_row 2 2 1 (fwd 1) (bwd 1) 1 0 (at 20 20 ∷ at 0 20 ∷ at 0 0 ∷ []) ∷ [])
    (0 ∷ 1 ∷ []) 5 4 1000000)

-- ---- edges of a face

-- face 1 with three rings: a square with a dangling edge, an island, a lone edge
abbrev rings : Map
rings =
    rows (node_row 1 (at 0 0) ∷ node_row 2 (at 12 2) ∷ node_row 3 (at 5 5) ∷ node_row 4 (at 2 12) ∷ node_row 5 (at 3 16)
    ∷ [])
    (edge_row 1 1 1 (bwd 3) (bwd 1) 1 0 (at 0 0 ∷ at 20 0 ∷ at 20 20 ∷ at 0 20 ∷ at 0 0 ∷ [])
    ∷ edge_row 2 2 2 (fwd 2) (bwd 2) 1 2 (at 12 2 ∷ at 14 3 ∷ at 14 2 ∷ at 12 2 ∷ [])
    ∷ edge_row 3 3 1 (fwd 1) (fwd 3) 1 1 (at 5 5 ∷ at 0 0 ∷ [])
    ∷ edge_row 4 4 5 (bwd 4) (fwd 4) 1 1 (at 2 12 ∷ at 3 16 ∷ []) ∷ [])
    (0 ∷ 1 ∷ 2 ∷ []) 6 5 3

-- rings from their lowest edge, e before -e, by first member; what is behind them stays
abbrev three_rings : Listing
three_rings =
    listing rings (pos 1)
    (pos 77 ∷ pos 77 ∷ pos 77 ∷ pos 77 ∷ pos 77 ∷ pos 77 ∷ pos 77 ∷ pos 77 ∷ pos 77 ∷ pos 77 ∷ [])
    (listed (pos 3 ∷ pos 1 ∷ negsuc 2 ∷ pos 3 ∷ pos 1 ∷ pos 2 ∷ pos 2 ∷ pos 4 ∷ negsuc 3 ∷ pos 77 ∷ []) (ok (pos 9)))

-- a ring of one
abbrev one-ring : Listing
one-ring =
    listing rings (pos 2)
    (pos 77 ∷ pos 77 ∷ pos 77 ∷ [])
    (listed (pos 1 ∷ negsuc 1 ∷ pos 77 ∷ []) (ok (pos 2)))

-- a list of just that length
abbrev just_room : Listing
just_room =
    listing rings (pos 0)
    (pos 77 ∷ pos 77 ∷ [])
    (listed (pos 1 ∷ negsuc 0 ∷ []) (ok (pos 2)))

-- 20: one number too short
abbrev no_room : Listing
no_room =
    listing rings (pos 0)
    (pos 77 ∷ [])
    (listed (pos 77 ∷ []) (no_to 20))

-- 4: no such face
abbrev no_face_lem : Listing
no_face_lem =
    listing rings (pos 3)
    (pos 77 ∷ pos 77 ∷ pos 77 ∷ [])
    (listed (pos 77 ∷ pos 77 ∷ pos 77 ∷ []) (no_to 4))

-- 4: -1 is no face
abbrev minus_one_lem : Listing
minus_one_lem =
    listing rings (negsuc 0)
    (pos 77 ∷ pos 77 ∷ pos 77 ∷ [])
    (listed (pos 77 ∷ pos 77 ∷ pos 77 ∷ []) (no_to 4))

-- ---- tables not in form

-- in form: an isolated node first, a square in two halves, one in it, two edges in a row, an island
abbrev pub base : Map
base =
    rows (lone 1 (at 30 30) 0 ∷ node_row 2 (at 0 0) ∷ node_row 3 (at 10 10) ∷ lone 4 (at 3 9) 2 ∷ node_row 5 (at 20 0)
    ∷ node_row 6 (at 20 5) ∷ node_row 7 (at 22 9) ∷ node_row 8 (at 40 40) ∷ [])
    (edge_row 1 2 3 (bwd 3) (bwd 2) 1 0 (at 0 0 ∷ at 6 0 ∷ at 10 10 ∷ [])
    ∷ edge_row 2 3 2 (fwd 3) (bwd 1) 2 0
    (at 10 10 ∷ at 9 11 ∷ at 8 10 ∷ at 7 11 ∷ at 6 10 ∷ at 5 11 ∷ at 4 10 ∷ at 3 11 ∷ at 2 10 ∷ at 1 11 ∷ at 0 10
    ∷ at 0 0 ∷ [])
    ∷ edge_row 3 2 3 (fwd 2) (fwd 1) 2 1 (at 0 0 ∷ at 10 10 ∷ [])
    ∷ edge_row 4 5 6 (fwd 5) (fwd 4) 0 0 (at 20 0 ∷ at 20 5 ∷ [])
    ∷ edge_row 5 6 7 (bwd 5) (bwd 4) 0 0 (at 20 5 ∷ at 22 9 ∷ [])
    ∷ edge_row 6 8 8 (fwd 6) (bwd 6) 3 0 (at 40 40 ∷ at 45 40 ∷ at 45 45 ∷ at 40 40 ∷ []) ∷ [])
    (0 ∷ 1 ∷ 2 ∷ 3 ∷ []) 9 7 4

-- the rows of two lone edges exchanged
abbrev exchanged : Map
exchanged =
    rows (node_row 1 (at 0 0) ∷ node_row 2 (at 5 0) ∷ node_row 3 (at 0 3) ∷ node_row 4 (at 5 3) ∷ [])
    (edge_row 2 3 4 (bwd 2) (fwd 2) 0 0 (at 0 3 ∷ at 5 3 ∷ [])
    ∷ edge_row 1 1 2 (bwd 1) (fwd 1) 0 0 (at 0 0 ∷ at 5 0 ∷ []) ∷ [])
    (0 ∷ []) 5 3 1

-- the next lefts of two lone edges exchanged
abbrev crossed : Map
crossed =
    rows (node_row 1 (at 0 0) ∷ node_row 2 (at 5 0) ∷ node_row 3 (at 0 3) ∷ node_row 4 (at 5 3) ∷ [])
    (edge_row 1 1 2 (bwd 2) (fwd 1) 0 0 (at 0 0 ∷ at 5 0 ∷ [])
    ∷ edge_row 2 3 4 (bwd 1) (fwd 2) 0 0 (at 0 3 ∷ at 5 3 ∷ []) ∷ [])
    (0 ∷ []) 5 3 1

-- no row of the start node
abbrev no_start : Map
no_start =
    rows (node_row 2 (at 5 0) ∷ [])
    (edge_row 1 1 2 (bwd 1) (fwd 1) 0 0 (at 0 0 ∷ at 5 0 ∷ []) ∷ [])
    (0 ∷ []) 3 2 1

-- no row of the end node
abbrev no_end : Map
no_end =
    rows (node_row 1 (at 5 0) ∷ [])
    (edge_row 1 1 2 (bwd 1) (fwd 1) 0 0 (at 5 0 ∷ at 0 0 ∷ []) ∷ [])
    (0 ∷ []) 3 2 1

-- no face 0
abbrev no_face_0 : Map
no_face_0 =
    rows [] [] (1 ∷ []) 1 1 2

-- the face table with the rectangles that the edges give
abbrev refitted : Lent → Lent
refitted l = lent l.nodes l.edges (lent_of room (map_of l)).faces l.head

-- number i of a table or of the head of the base changed
abbrev in_nodes : ℕ → ℤ → Lent
in_nodes i z = let l = lent_of room base in lent (set l.nodes i z) l.edges l.faces l.head

abbrev in_edges : ℕ → ℤ → Lent
in_edges i z =
    let l = lent_of room base in
    refitted (lent l.nodes (set l.edges i z) l.faces l.head)

abbrev in_faces : ℕ → ℤ → Lent
in_faces i z = let l = lent_of room base in lent l.nodes l.edges (set l.faces i z) l.head

abbrev head_by : List ℤ → Head
head_by l =
    record {
      nodes = get_or l 0 (pos 0);
      edges = get_or l 1 (pos 0);
      faces = get_or l 2 (pos 0);
      next_node = get_or l 3 (pos 0);
      next_edge = get_or l 4 (pos 0);
      next_face = get_or l 5 (pos 0);
      points = get_or l 6 (pos 0);
    }

abbrev in_head : ℕ → ℤ → Lent
in_head i z =
    let l = lent_of room base in
    lent l.nodes l.edges l.faces
    (head_by (set (pos 8 ∷ pos 6 ∷ pos 4 ∷ pos 9 ∷ pos 7 ∷ pos 4 ∷ pos 12 ∷ []) i z))

-- one cell each, and in each all other rules hold
abbrev pub spoiled : List Lent
spoiled =
    -- counts within the tables
    in_head 0 (negsuc 7)
    ∷ in_head 1 (negsuc 5)
    ∷ in_head 2 (negsuc 3)
    -- the next number is 1 to 1,000,000
    ∷ in_head 3 (pos 1000001)
    ∷ in_head 4 (pos 1000001)
    ∷ in_head 5 (pos 1000001)
    -- the record is 6 or 12; with 6 the curve of 12 points is too long
    ∷ in_head 6 (pos 0)
    ∷ in_head 6 (pos 7)
    ∷ in_head 6 (pos 13)
    ∷ in_head 6 (negsuc 11)
    ∷ in_head 6 (pos 6)
    -- rows past a count are all 0
    ∷ in_nodes 32 (pos 1)
    ∷ in_edges 192 (pos 1)
    ∷ in_faces 20 (pos 1)
    -- ranges of a node row: number, x, y, face
    ∷ in_nodes 0 (negsuc 0)
    ∷ in_nodes 1 (negsuc 29)
    ∷ in_nodes 1 (pos 1048576)
    ∷ in_nodes 2 (negsuc 29)
    ∷ in_nodes 2 (pos 1048576)
    ∷ in_nodes 7 (negsuc 1)
    -- ranges of an edge row: number, start, end, left, right
    ∷ in_edges 0 (negsuc 0)
    ∷ in_edges 1 (negsuc 1)
    ∷ in_edges 2 (negsuc 2)
    ∷ in_edges 5 (negsuc 0)
    ∷ in_edges 70 (negsuc 0)
    -- 2 to 12 points, in range; unused points are 0
    ∷ in_edges 7 (negsuc 2)
    ∷ in_edges 39 (pos 13)
    ∷ in_edges 10 (negsuc 5)
    ∷ in_edges 10 (pos 1048576)
    ∷ in_edges 14 (pos 1)
    -- range of a face row
    ∷ in_faces 5 (negsuc 0)
    -- numbers rise from 1, those of faces from 0
    ∷ in_nodes 12 (pos 1)
    ∷ in_nodes 0 (pos 0)
    ∷ in_head 2 (pos 5)
    -- numbers in use are below the next
    ∷ in_head 3 (pos 8)
    ∷ in_head 4 (pos 6)
    ∷ in_head 5 (pos 3)
    -- named faces exist
    ∷ in_nodes 3 (pos 4)
    ∷ in_edges 165 (pos 4)
    ∷ in_edges 166 (pos 4)
    -- a curve starts and ends on its nodes' points; neighbouring points differ
    ∷ in_edges 104 (pos 21)
    ∷ in_edges 138 (pos 23)
    ∷ in_edges 61 (pos 0)
    -- departures from one node differ in direction
    ∷ in_edges 11 (pos 6)
    -- a node has face -1 exactly when an edge ends there
    ∷ in_nodes 7 (pos 0)
    ∷ in_nodes 3 (negsuc 0)
    -- the next links name each directed edge once
    ∷ in_edges 99 (negsuc 3)
    -- a ring bears one face
    ∷ in_edges 5 (pos 2)
    -- each face has its rectangle: face 0 four zeros, and of face 2 least x, least y, greatest x, greatest y
    ∷ in_faces 3 (pos 45)
    ∷ in_faces 11 (pos 1)
    ∷ in_faces 12 (negsuc 0)
    ∷ in_faces 13 (pos 11)
    ∷ in_faces 14 (pos 10)
    ∷ []

-- where no one cell does it: order of edges, the next of d leaves the node where d arrives, named nodes exist, face 0
-- exists
abbrev pub misformed : List Lent
misformed = map (lent_of room) (exchanged ∷ crossed ∷ no_start ∷ no_end ∷ no_face_0 ∷ [])

-- ---- the theorem

abbrev pub cases : List Case
cases =
    lone_edge_lem ∷ given_face ∷ around_the_diamond ∷ lower-edge-number ∷ islands_12 ∷ islands_11 ∷ islands_back
    ∷ clockwise_11 ∷ clockwise_12 ∷ face_0_never_goes ∷ used_twice ∷ lowest_start ∷ node_inside_lem ∷ heal_12
    ∷ heal_13 ∷ heal-straight ∷ last_node ∷ last_edge ∷ last_face ∷ no_face-left ∷ []

abbrev pub listings : List Listing
listings =
    three_rings ∷ one-ring ∷ just_room ∷ no_room ∷ no_face_lem ∷ minus_one_lem ∷ []

-- all of them, by computation
pub record All : Type 0 where
  pub tickets : map (λ c. after (lent_of room c.start) c.tickets) cases
      ≡ map (λ c. record { lent = lent_of room c.left; answers = c.answers }) cases
  pub lists : map (λ c. edges_of_face (lent_of room c.map) c.face c.list) listings ≡ map (λ c. c.gives) listings
  pub form : map in_form (lent_of room base ∷ spoiled ++ misformed) ≡ true ∷ map (λ l. false) (spoiled ++ misformed)

pub Worked : All
unfolding opened
Worked = record { tickets = refl; lists = refl; form = refl }
