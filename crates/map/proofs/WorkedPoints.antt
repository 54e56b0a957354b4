-- Worked examples of the record of points: curves of 6 points and more under either record, what 5, 18 and 2 say of
-- them, and creation. What is expected was worked out apart from the definitions. Assumes nothing.
use mathlib.Core.Path.{◌≡◌, refl}
use mathlib.Core.List.{List, [], ◌∷◌, ◌++◌, map}
use Prim.Native.Nat.{ℕ, ◌*◌}
use lib.IntN.{ℤ, pos, negsuc}
use Rattle.lists.specs.Tables.{table}
use Rattle.plane.specs.declared.Point.{Point}
use Rattle.planar_maps.specs.Map.{fwd, bwd}
use Rattle.map.specs.declared.Answer.{Answer}
use Rattle.map.specs.Limits.{PointLimit, SixPoints, TwelvePoints}
use Rattle.map.specs.Rows.{Map, Lent, Sizes, lent, empty_map, lent_of}
use Rattle.map.specs.Ticket.{Outcome, refused, ticket, emptied, edges_of_face}
use Rattle.map.specs.Grow.{Grown, after}
use Rattle.map.proofs.Opened.{opened}
use Rattle.map.proofs.Sheet.{at, ok, no_to, node_row, edge_row}
use Rattle.map.proofs.WorkedSides.{redraw}
use Rattle.map.proofs.WorkedMeetings.{ditch}
use Rattle.map.proofs.Worked.{Case, case, add, draw, lone, rows}

abbrev sizes : PointLimit → Sizes
sizes k = record { nodes = 3; edges = 2; faces = 1; limit = k }

-- n points on a parabola from (i,i²) on, of which none is surplus
abbrev bend : ℕ → ℕ → List Point
bend i n = table (λ a. at a (a * a)) i n

-- ---- drawn and redrawn

abbrev two_nodes : Point → Map
two_nodes p = rows (lone 1 (at 0 0) 0 ∷ lone 2 p 0 ∷ []) [] (0 ∷ []) 3 1 1

abbrev one_ditch : Point → List Point → Map
one_ditch p c = rows (node_row 1 (at 0 0) ∷ node_row 2 p ∷ []) (ditch 1 1 2 c ∷ []) (0 ∷ []) 3 2 1

-- by kind 4, 11 or 12: taken
abbrev taken : Point → List Point → ℕ → Case
taken p c kind = case (two_nodes p) (draw kind 1 2 c ∷ []) (ok (pos 1) ∷ []) (one_ditch p c)

-- turned down
abbrev not_taken : Point → List Point → Answer → ℕ → Case
not_taken p c a kind = case (two_nodes p) (draw kind 1 2 c ∷ []) (a ∷ []) (two_nodes p)

abbrev by_kind : (ℕ → Case) → List Case
by_kind c = map c (4 ∷ 11 ∷ 12 ∷ [])

-- by kind 6: a straight ditch bent
abbrev bent : Point → List Point → Answer → List Point → Case
bent p sent a left = case (one_ditch p (at 0 0 ∷ p ∷ [])) (redraw 1 sent ∷ []) (a ∷ []) (one_ditch p left)

-- points along a straight run, from (0,0) to (6,0): seven, of which five are surplus, and six
abbrev seven_straight : List Point
seven_straight = table (λ i. at i 0) 0 7

abbrev six_straight : List Point
six_straight = table (λ i. at i 0) 0 5 ++ at 6 0 ∷ []

abbrev straight : List Point
straight = at 0 0 ∷ at 6 0 ∷ []

-- the ends are left
abbrev thinned : List Point → ℕ → Case
thinned sent kind =
    case (two_nodes (at 6 0)) (draw kind 1 2 sent ∷ []) (ok (pos 1) ∷ []) (one_ditch (at 6 0) straight)

-- a bent ditch straightened
abbrev straightened : List Point → Answer → List Point → Case
straightened sent a left =
    case (one_ditch (at 6 0) (at 0 0 ∷ at 3 3 ∷ at 6 0 ∷ [])) (redraw 1 sent ∷ []) (a ∷ []) (one_ditch (at 6 0) left)

-- seven points, two of them equal neighbours
abbrev seven_equal : List Point
seven_equal = at 0 0 ∷ bend 0 6

-- ---- split and healed

-- two ditches, from (0,0) by p to q
abbrev halves : Point → Point → List Point → List Point → Map
halves p q c d =
    rows (node_row 1 (at 0 0) ∷ node_row 2 p ∷ node_row 3 q ∷ [])
    (edge_row 1 1 2 (fwd 2) (fwd 1) 0 0 c ∷ edge_row 2 2 3 (bwd 2) (bwd 1) 0 0 d ∷ [])
    (0 ∷ []) 4 3 1

abbrev healed : Point → List Point → Map
healed q c = rows (node_row 1 (at 0 0) ∷ node_row 3 q ∷ []) (ditch 1 1 3 c ∷ []) (0 ∷ []) 4 3 1

-- to six points, and to six as the straight joint is not counted
abbrev to_six : Case
to_six =
    case (halves (at 3 9) (at 5 25) (bend 0 4) (bend 3 3)) ((pos 10 ∷ pos 1 ∷ pos 2 ∷ []) ∷ [])
    (ok (pos 0) ∷ []) (healed (at 5 25) (bend 0 6))

abbrev new_six : Case
new_six =
    case (halves (at 3 9) (at 5 25) (bend 0 4) (bend 3 3)) ((pos 9 ∷ pos 1 ∷ pos 2 ∷ []) ∷ []) (ok (pos 3) ∷ [])
    (rows (node_row 1 (at 0 0) ∷ node_row 3 (at 5 25) ∷ []) (ditch 3 1 3 (bend 0 6) ∷ []) (0 ∷ []) 4 4 1)

abbrev straight-joint : Case
straight-joint =
    case (halves (at 3 6) (at 6 26) (bend 0 3 ++ at 3 6 ∷ []) (at 3 6 ∷ at 4 8 ∷ at 5 25 ∷ at 6 26 ∷ []))
    ((pos 10 ∷ pos 1 ∷ pos 2 ∷ []) ∷ []) (ok (pos 0) ∷ [])
    (healed (at 6 26) (bend 0 3 ++ at 4 8 ∷ at 5 25 ∷ at 6 26 ∷ []))

-- to seven
abbrev seven_halves : Map
seven_halves = halves (at 3 9) (at 6 36) (bend 0 4) (bend 3 4)

abbrev to_seven : Case
to_seven = case seven_halves ((pos 10 ∷ pos 1 ∷ pos 2 ∷ []) ∷ []) (ok (pos 0) ∷ []) (healed (at 6 36) (bend 0 7))

abbrev not_to_seven : Case
not_to_seven =
    case seven_halves ((pos 9 ∷ pos 1 ∷ pos 2 ∷ []) ∷ (pos 10 ∷ pos 2 ∷ pos 1 ∷ []) ∷ [])
    (no_to 18 ∷ no_to 18 ∷ []) seven_halves

-- six points split inside a segment: six and two
abbrev split_six : Case
split_six =
    case (one_ditch (at 15 0) (at 0 0 ∷ at 2 2 ∷ at 4 0 ∷ at 6 2 ∷ at 8 0 ∷ at 15 0 ∷ []))
    ((pos 8 ∷ pos 1 ∷ pos 9 ∷ pos 0 ∷ []) ∷ []) (ok (pos 3) ∷ [])
    (rows (node_row 1 (at 0 0) ∷ node_row 2 (at 15 0) ∷ node_row 3 (at 9 0) ∷ [])
    (edge_row 1 1 3 (fwd 2) (fwd 1) 0 0 (at 0 0 ∷ at 2 2 ∷ at 4 0 ∷ at 6 2 ∷ at 8 0 ∷ at 9 0 ∷ [])
    ∷ edge_row 2 3 2 (bwd 2) (bwd 1) 0 0 (at 9 0 ∷ at 15 0 ∷ []) ∷ [])
    (0 ∷ []) 4 3 1)

-- and at one of its points, by kind 7
abbrev split_bend : Case
split_bend =
    case (one_ditch (at 5 25) (bend 0 6)) ((pos 7 ∷ pos 1 ∷ pos 2 ∷ pos 4 ∷ []) ∷ []) (ok (pos 3) ∷ [])
    (rows (node_row 1 (at 0 0) ∷ node_row 2 (at 5 25) ∷ node_row 3 (at 2 4) ∷ [])
    (edge_row 2 1 3 (fwd 3) (fwd 2) 0 0 (bend 0 3) ∷ edge_row 3 3 2 (bwd 3) (bwd 2) 0 0 (bend 2 4) ∷ [])
    (0 ∷ []) 4 4 1)

-- ---- under each record

-- under either; 4 comes before 5
abbrev pub either : List Case
either =
    by_kind (taken (at 5 25) (bend 0 6)) ++ by_kind (thinned six_straight)
    ++ bent (at 5 25) (bend 0 6) (ok (pos 0)) (bend 0 6) ∷ straightened six_straight (ok (pos 0)) straight
    ∷ case (two_nodes (at 6 36)) (draw 4 1 3 (bend 0 13) ∷ []) (no_to 4 ∷ []) (two_nodes (at 6 36))
    ∷ to_six ∷ new_six ∷ straight-joint ∷ split_six ∷ split_bend ∷ []

abbrev pub six : List Case
six =
    by_kind (not_taken (at 6 36) (bend 0 7) (no_to 5)) ++ by_kind (not_taken (at 6 0) seven_straight (no_to 5))
    ++ by_kind (not_taken (at 5 25) seven_equal (no_to 5))
    ++ bent (at 6 36) (bend 0 7) (no_to 5) (at 0 0 ∷ at 6 36 ∷ [])
    ∷ straightened seven_straight (no_to 5) (at 0 0 ∷ at 3 3 ∷ at 6 0 ∷ []) ∷ not_to_seven ∷ []

abbrev pub twelve : List Case
twelve =
    by_kind (taken (at 6 36) (bend 0 7)) ++ by_kind (taken (at 11 121) (bend 0 12))
    ++ by_kind (not_taken (at 12 144) (bend 0 13) (no_to 5)) ++ by_kind (thinned seven_straight)
    ++ by_kind (not_taken (at 5 25) seven_equal (no_to 6))
    ++ bent (at 6 36) (bend 0 7) (ok (pos 0)) (bend 0 7) ∷ straightened seven_straight (ok (pos 0)) straight
    ∷ to_seven ∷ []

-- tables, head and answers: the record stays
abbrev run : PointLimit → Case → Grown
run k c = after (lent_of (sizes k) c.start) c.tickets

abbrev said : PointLimit → Case → Grown
said k c = record { lent = lent_of (sizes k) c.left; answers = c.answers }

-- ---- 2, and creation

-- a ditch of seven points in a map for six
abbrev seven_in_six : Lent
seven_in_six = lent_of (sizes SixPoints) (one_ditch (at 6 36) (bend 0 7))

-- the empty map with this record in its head
abbrev recording : ℤ → Lent
recording k = let l = lent_of (sizes TwelvePoints) empty_map in
    lent l.nodes l.edges l.faces (record {
      nodes = l.head.nodes;
      edges = l.head.edges;
      faces = l.head.faces;
      next_node = l.head.next_node;
      next_edge = l.head.next_edge;
      next_face = l.head.next_face;
      points = k;
    })

-- tables that hold something, and tables that are not whole
abbrev used : Lent
used = lent_of (sizes TwelvePoints) (one_ditch (at 6 36) (bend 0 7))

abbrev cut_short : Lent
cut_short = lent (pos 0 ∷ []) used.edges used.faces used.head

abbrev created : PointLimit → Outcome
created k = record { lent = lent_of (sizes k) empty_map; answer = ok (pos 0) }

-- 0, 5, 7, 11, 13, -6, -12 and the greatest number
abbrev others : List ℤ
others = pos 0 ∷ pos 5 ∷ pos 7 ∷ pos 11 ∷ pos 13 ∷ negsuc 5 ∷ negsuc 11 ∷ pos 9223372036854775807 ∷ []

-- ---- the theorem, by computation

pub record AllPoints : Type 0 where
  pub for_six : map (run SixPoints) (either ++ six) ≡ map (said SixPoints) (either ++ six)
  pub for_twelve_lem : map (run TwelvePoints) (either ++ twelve) ≡ map (said TwelvePoints) (either ++ twelve)
  pub out_of_form : ticket seven_in_six (add 9 9) ≡ refused seven_in_six 2
  pub not_listed : edges_of_face seven_in_six (pos 0) (pos 7 ∷ []) ≡ record { list = pos 7 ∷ []; answer = no_to 2 }
  -- 2 before 3, and for a list
  pub other_heads : map (λ k. ticket (recording k) []) others ≡ map (λ k. refused (recording k) 2) others
  pub other_lists : map (λ k. edges_of_face (recording k) (pos 0) (pos 7 ∷ [])) others
      ≡ map (λ k. record { list = pos 7 ∷ []; answer = no_to 2 }) others
  pub creates : map (emptied used) (pos 6 ∷ pos 12 ∷ []) ≡ map created (SixPoints ∷ TwelvePoints ∷ [])
  pub no_record : map (emptied used) others ≡ map (λ k. refused used 2) others
  pub not-whole : map (emptied cut_short) (pos 6 ∷ others) ≡ map (λ k. refused cut_short 1) (pos 6 ∷ others)

pub WorkedPoints : AllPoints
unfolding opened
WorkedPoints = record {
  for_six = refl;
  for_twelve_lem = refl;
  out_of_form = refl;
  not_listed = refl;
  other_heads = refl;
  other_lists = refl;
  creates = refl;
  no_record = refl;
  not-whole = refl;
}
