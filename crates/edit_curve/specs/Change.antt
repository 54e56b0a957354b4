-- The reasons of kind 6 as the functions ask them, by rows of the tables, the rows of an edge's nodes, and kind 6 from
-- 7 on.
use Rattle.std.specs.Prelude.{◌≡◌, Bool, List, [], ◌∷◌, ◌++◌, ℕ, ◌<◌, ℤ, pos, nat_abs}
use Rattle.curves.specs.Curves.{Curve, curve_of}
use Rattle.map.specs.declared.Head.{Head}
use Rattle.map.specs.Rows.{Lent, map_of}
use Rattle.map.specs.Edits.{change_edge_geom}
use Rattle.map.specs.Reasons.{Reasons, direction_taken, meeting_reasons, order_changes, change_geom_reasons}
use Rattle.map.specs.Ticket.{Outcome}
use Rattle.map_rows.specs.Rows.{node_at, node_map, edge_at, edge_map}
use Rattle.outcomes.specs.Outcomes.{edited_unless}
use Rattle.reason_curves.specs.Sent.{curve_reasons_at, edges_but}

-- 11, for the edge of row i
abbrev pub taken_at : List ℤ → ℕ → ℕ → List ℤ → Bool
taken_at edges count i c = direction_taken (edge_map edges count) (edge_at edges i).number (edge_at edges i).start
    (edge_at edges i).end (curve_of c)

-- kind 6 on the edge of row i, from 11 on
abbrev pub turn_reasons : List ℤ → ℕ → List ℤ → ℕ → ℕ → List ℤ → Reasons
turn_reasons nodes n edges count i c =
    (11, taken_at edges count i c)
    ∷ meeting_reasons (node_map nodes n) (edges_but edges count i) (curve_of c)
    ++ (19, order_changes (edge_map edges count) (edge_at edges i).number (curve_of c))
    ∷ []

-- kind 6 on the edge of row i, between node rows u and v, from 7 on but for 22
abbrev pub change_reasons : List ℤ → List ℤ → Head → ℕ → ℕ → ℕ → List ℤ → Reasons
change_reasons nodes edges h i u v c = curve_reasons_at (curve_of c) (node_at nodes u).at (node_at nodes v).at
    ++ turn_reasons nodes (nat_abs h.nodes) edges (nat_abs h.edges) i c

-- rows u and v are those of the nodes where the edge of row i starts and ends
pub record EndsAt (nodes edges : List ℤ) (h : Head) (i u v : ℕ) : Type 0 where
  pub start_in : u < nat_abs h.nodes
  pub end_in : v < nat_abs h.nodes
  pub start : (node_at nodes u).number ≡ (edge_at edges i).start
  pub end : (node_at nodes v).number ≡ (edge_at edges i).end

-- kind 6 along a curve on the edge e, from 7 on
abbrev pub changed_along : Lent → ℕ → Curve → Outcome
changed_along l e c = edited_unless l (change_geom_reasons (map_of l) e c) (change_edge_geom e c (map_of l), pos 0)
