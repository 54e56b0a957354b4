-- Kinds 11 and 12 along a curve, from 7 on.
use Rattle.std.specs.Prelude.{ℕ, pos}
use Rattle.curves.specs.Curves.{Curve}
use Rattle.map.specs.declared.Variant.{Variant}
use Rattle.map.specs.Rows.{Lent, map_of, sizes_of}
use Rattle.map.specs.Edits.{add_edge}
use Rattle.map.specs.Reasons.{add_edge_reasons}
use Rattle.map.specs.Ticket.{Outcome}
use Rattle.outcomes.specs.Outcomes.{edited_unless}

-- from the node a to the node b
abbrev pub added_along : Variant → Lent → ℕ → ℕ → Curve → Outcome
added_along how l a b c = edited_unless l (add_edge_reasons how (sizes_of l) (map_of l) a b c)
    (add_edge how a b c (map_of l), pos (map_of l).next.edges)
