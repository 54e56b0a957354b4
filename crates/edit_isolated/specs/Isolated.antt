-- The reasons of kind 4 as the functions ask them, by rows of the tables, and kind 4 from 7 on.
use Rattle.std.specs.Prelude.{not, ◌&&◌, ◌||◌, List, ◌∷◌, ◌++◌, ℕ, ℤ, pos, nat_abs}
use Rattle.std.proofs.Math.Option.{get_or}
use Rattle.lists.specs.Tests.{same}
use Rattle.lists.specs.Scans.{is_some}
use Rattle.curves.specs.Curves.{Curve, curve_of}
use Rattle.map.specs.declared.Head.{Head}
use Rattle.map.specs.Rows.{Lent, map_of, sizes_of, counts}
use Rattle.map.specs.Edits.{add_iso_edge}
use Rattle.map.specs.Reasons.{Reasons, meeting_reasons, add_iso_edge_reasons}
use Rattle.map.specs.Ticket.{Outcome}
use Rattle.map_rows.specs.Rows.{node_at, node_map}
use Rattle.head.specs.Heads.{sizes_in, room_at}
use Rattle.outcomes.specs.Outcomes.{edited_unless}
use Rattle.reason_curves.specs.Sent.{curve_reasons_at, edges_but}

-- kind 4 from 14 on
abbrev pub meeting_or_room_reasons : List ℤ → List ℤ → List ℤ → Head → List ℤ → Reasons
meeting_or_room_reasons nodes edges faces h c =
    meeting_reasons (node_map nodes (nat_abs h.nodes)) (edges_but edges (nat_abs h.edges) (nat_abs h.edges))
    (curve_of c)
    ++ room_at (sizes_in nodes edges faces) h (counts 0 1 0) (counts 0 1 0)

-- kind 4 between node rows u and v, from 7 on
abbrev pub isolated_reasons : List ℤ → List ℤ → List ℤ → Head → ℕ → ℕ → List ℤ → Reasons
isolated_reasons nodes edges faces h u v c =
    curve_reasons_at (curve_of c) (node_at nodes u).at (node_at nodes v).at
    ++ (9, same u v || not (is_some (node_at nodes u).face && is_some (node_at nodes v).face))
    ∷ (12, not (same (get_or (node_at nodes u).face 0) (get_or (node_at nodes v).face 0)))
    ∷ meeting_or_room_reasons nodes edges faces h c

-- kind 4 along a curve from the node a to the node b, from 7 on
abbrev pub isolated_along : Lent → ℕ → ℕ → Curve → Outcome
isolated_along l a b c = edited_unless l (add_iso_edge_reasons (sizes_of l) (map_of l) a b c)
    (add_iso_edge a b c (map_of l), pos (map_of l).next.edges)
