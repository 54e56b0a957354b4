-- Small sheets joined, by computation: the square and its neighbour both ways round, one sheet twice, too few rows,
-- sheets that are not whole or not in form, and a sheet that a ticket leaves out of form. Assumes nothing.
use mathlib.Core.Path.{◌≡◌, refl}
use mathlib.Core.Bool.{Bool, true, false}
use mathlib.Core.List.{List, [], ◌∷◌, map}
use mathlib.Core.Option.{none}
use Prim.Native.Nat.{ℕ}
use lib.IntN.{ℤ, pos, negsuc}
use Rattle.plane.specs.declared.Point.{Point}
use Rattle.curves.specs.Curves.{through, coordinates}
use Rattle.planar_maps.specs.Map.{Dart, fwd, bwd}
use Rattle.map.specs.declared.Answer.{Answer}
use Rattle.map.specs.Limits.{TwelvePoints}
use Rattle.map.specs.Rows.{Node, Edge, Map, Lent, Sizes, map_of, lent_of, counts}
use Rattle.map.specs.Form.{in_form}
use Rattle.map.specs.Ticket.{Outcome, refused}
use Rattle.map.specs.Grow.{grow}
use Rattle.joining.specs.Join.{entries, as_is, joined_sheet, tickets_for, join_tickets}
use Rattle.joining.proofs.Opened.{opened}

abbrev small : Sizes
small = record { nodes = 4; edges = 4; faces = 3; limit = TwelvePoints }

abbrev at : ℕ → ℕ → Point
at x y = record { x = x; y = y }

-- ---- tickets

abbrev node : ℕ → ℕ → List ℤ
node x y = pos 1 ∷ negsuc 0 ∷ pos x ∷ pos y ∷ []

abbrev cut : ℕ → ℕ → ℕ → List ℤ
cut e x y = pos 8 ∷ pos e ∷ pos x ∷ pos y ∷ []

abbrev edge : ℕ → ℕ → List Point → List ℤ
edge u v c = pos 12 ∷ pos u ∷ pos v ∷ coordinates c

-- ---- a square with one node, and its neighbour on the right with a node at either end of the common side

abbrev node_row : ℕ → Point → Node
node_row n p = record { number = n; at = p; face = none }

abbrev edge_row : ℕ → ℕ → ℕ → Dart → Dart → ℕ → ℕ → List Point → Edge
edge_row e u v a b l r c =
    record { number = e; start = u; end = v; next_left = a; next_right = b; left = l; right = r; curve = through c }

abbrev around : List Point
around = at 0 0 ∷ at 10 0 ∷ at 10 10 ∷ at 0 10 ∷ at 0 0 ∷ []

abbrev beyond : List Point
beyond = at 10 0 ∷ at 20 0 ∷ at 20 10 ∷ at 10 10 ∷ []

-- from top to bottom
abbrev side : List Point
side = at 10 10 ∷ at 10 0 ∷ []

abbrev square_rows : Map
square_rows =
    record {
      nodes = node_row 1 (at 0 0) ∷ [];
      edges = edge_row 1 1 1 (fwd 1) (bwd 1) 1 0 around ∷ [];
      faces = 0 ∷ 1 ∷ [];
      next = counts 2 2 2;
    }

abbrev square : Lent
square = lent_of small square_rows

abbrev neighbour : Lent
neighbour = lent_of small (
    record {
      nodes = node_row 1 (at 10 0) ∷ node_row 2 (at 10 10) ∷ [];
      edges = edge_row 1 1 2 (fwd 2) (bwd 2) 1 0 beyond ∷ edge_row 2 2 1 (fwd 1) (bwd 1) 1 0 side ∷ [];
      faces = 0 ∷ 1 ∷ [];
      next = counts 3 3 2;
    })

pub sheets_grown :
    map (λ ts. (grow small ts).lent) (
    (node 0 0 ∷ edge 1 1 around ∷ [])
    ∷ (node 10 0 ∷ node 10 10 ∷ edge 1 2 beyond ∷ edge 2 1 side ∷ [])
    ∷ [])
    ≡ square ∷ neighbour ∷ []
unfolding opened
sheets_grown = refl

abbrev both : Map
both =
    record {
      nodes = node_row 1 (at 0 0) ∷ node_row 2 (at 10 0) ∷ node_row 3 (at 10 10) ∷ [];
      edges =
          edge_row 1 1 2 (fwd 2) (bwd 3) 1 0 (at 0 0 ∷ at 10 0 ∷ [])
          ∷ edge_row 2 2 3 (fwd 3) (fwd 4) 1 2 (at 10 0 ∷ at 10 10 ∷ [])
          ∷ edge_row 3 3 1 (fwd 1) (bwd 4) 1 0 (at 10 10 ∷ at 0 10 ∷ at 0 0 ∷ [])
          ∷ edge_row 4 2 3 (bwd 2) (bwd 1) 2 0 beyond
          ∷ [];
      faces = 0 ∷ 1 ∷ 2 ∷ [];
      next = counts 4 5 3;
    }

-- the neighbour joins to the square: both its nodes cut the loop, and the common side exists backwards
pub neighbour_joins : joined_sheet square neighbour ≡ as_is (lent_of small both)
unfolding opened
neighbour_joins = refl

pub neighbour_tickets :
    join_tickets square neighbour ≡ cut 1 10 0 ∷ cut 2 10 10 ∷ edge 2 3 beyond ∷ []
unfolding opened
neighbour_tickets = refl

-- the square does not join to the neighbour: its node goes in, its loop has nodes inside, and nothing is left of it
pub square_refused : joined_sheet neighbour square ≡ refused neighbour 14
unfolding opened
square_refused = refl

pub square_tickets : tickets_for neighbour (entries (map_of square)) ≡ node 0 0 ∷ edge 3 3 around ∷ []
unfolding opened
square_tickets = refl

-- a sheet joined to itself: no tickets, and nothing changes
pub nothing_new : joined_sheet neighbour neighbour ≡ as_is neighbour
unfolding opened
nothing_new = refl

-- room for one of the two nodes: the second cut gets 20, and the first is undone
abbrev narrow : Sizes
narrow = record { nodes = 2; edges = 4; faces = 3; limit = TwelvePoints }

pub no_room : joined_sheet (lent_of narrow square_rows) neighbour ≡ refused (lent_of narrow square_rows) 20
unfolding opened
no_room = refl

-- ---- both are looked at under 1 and 2, the first sheet before the second

-- a number too many
abbrev ragged : Lent
ragged =
    record { nodes = pos 0 ∷ square.nodes; edges = square.edges; faces = square.faces; head = square.head }

-- the number in use is not below the next number
abbrev spoiled : Lent
spoiled = lent_of small (
    record { nodes = node_row 1 (at 0 0) ∷ []; edges = []; faces = 0 ∷ []; next = counts 1 1 1 })

pub looked_at : map (λ (p : Lent × Lent). joined_sheet p.0 p.1) (
    (ragged, spoiled) ∷ (spoiled, ragged) ∷ (square, ragged) ∷ (square, spoiled) ∷ [])
    ≡ refused ragged 1 ∷ refused spoiled 2 ∷ refused square 1 ∷ refused square 2 ∷ []
unfolding opened
looked_at = refl

-- ---- in form and not grown: cut where it turns back, this edge leaves two departures in one direction

abbrev turning : Lent
turning = lent_of small (
    record {
      nodes = node_row 1 (at 0 0) ∷ node_row 2 (at 5 0) ∷ [];
      edges = edge_row 1 1 2 (bwd 1) (fwd 1) 0 0 (at 0 0 ∷ at 10 0 ∷ at 5 0 ∷ []) ∷ [];
      faces = 0 ∷ [];
      next = counts 3 2 1;
    })

abbrev outcome : Outcome → Bool × Answer
outcome o = (in_form o.lent, o.answer)

-- no ticket follows, so it is carried out
pub left_out_of_form :
    map outcome (as_is turning ∷ joined_sheet turning (grow small (node 10 0 ∷ node 5 0 ∷ [])).lent ∷ [])
    ≡ (true, (as_is turning).answer) ∷ (false, (as_is turning).answer) ∷ []
unfolding opened
left_out_of_form = refl

-- the next ticket gets 2
pub found_out_of_form : joined_sheet turning (grow small (node 10 0 ∷ node 20 20 ∷ [])).lent ≡ refused turning 2
unfolding opened
found_out_of_form = refl
