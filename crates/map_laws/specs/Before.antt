-- One ticket by the rule that document 02 (v) replaced: 6 turned a curve down for an inner point straight between its
-- neighbours, and no point was dropped. Kinds without a curve are as they were.
use Rattle.std.specs.Prelude.{Bool, true, not, ◌||◌, List, [], ◌∷◌, ◌++◌, ℤ, pos, nat_abs}
use Rattle.std.proofs.Math.Option.{Option, none, some}
use Rattle.curves.specs.Curves.{Curve, curve_of}
use Rattle.curves.specs.Tests.{neighbours_differ, straight_inside}
use Rattle.map.specs.declared.Variant.TheVariants.{New, Mod}
use Rattle.map.specs.Limits.{most_points}
use Rattle.map.specs.Rows.{Map, Lent, Sizes, map_of, sizes_of}
use Rattle.map.specs.Tickets.{Ticket, AddIsoNode, MoveIsoNode, RemoveIsoNode, AddIsoEdge, RemoveIsoEdge}
use Rattle.map.specs.Tickets.{ChangeEdgeGeom, NewEdgesSplit, ModEdgeSplit, NewEdgeHeal, ModEdgeHeal}
use Rattle.map.specs.Tickets.{AddEdgeNewFaces, AddEdgeModFace, RemEdgeNewFace, RemEdgeModFace, read}
use Rattle.map.specs.Edits.{add_iso_edge, change_edge_geom, add_edge}
use Rattle.map.specs.Reasons.{Reasons, first_reason, reasons, no_node, no_edge, bad_curve, add_iso_edge_reasons}
use Rattle.map.specs.Reasons.{change_geom_reasons, add_edge_reasons}
use Rattle.map.specs.Ticket.{Outcome, refused, unless, carried, lent_reasons}

abbrev pub curve_ticket_reasons_before : Sizes → Bool → List ℤ → (Curve → Reasons) → Reasons
curve_ticket_reasons_before s missing sent rest =
    let c = curve_of sent in
    (4, missing)
    ∷ (5, bad_curve (most_points s.limit) sent)
    ∷ (6, not (neighbours_differ c) || straight_inside c)
    ∷ rest c

-- the reasons against a ticket, and what it does where none holds: as they are now
abbrev pub unchanged : Sizes → Map → Ticket → Reasons × (Map × ℤ)
unchanged s m t = (reasons s m t, carried m t)

-- as they were
unfoldable pub rule_before : Sizes → Map → Ticket → Reasons × (Map × ℤ)
rule_before s m (AddIsoNode f x y) = unchanged s m (AddIsoNode f x y)
rule_before s m (MoveIsoNode n x y) = unchanged s m (MoveIsoNode n x y)
rule_before s m (RemoveIsoNode n) = unchanged s m (RemoveIsoNode n)
rule_before s m (AddIsoEdge u v sent) = (
  curve_ticket_reasons_before s (no_node m u || no_node m v) sent (add_iso_edge_reasons s m (nat_abs u) (nat_abs v)),
  (add_iso_edge (nat_abs u) (nat_abs v) (curve_of sent) m, pos m.next.edges),
)
rule_before s m (RemoveIsoEdge e) = unchanged s m (RemoveIsoEdge e)
rule_before s m (ChangeEdgeGeom e sent) = (
  curve_ticket_reasons_before s (no_edge m e) sent (change_geom_reasons m (nat_abs e)),
  (change_edge_geom (nat_abs e) (curve_of sent) m, pos 0),
)
rule_before s m (NewEdgesSplit e x y) = unchanged s m (NewEdgesSplit e x y)
rule_before s m (ModEdgeSplit e x y) = unchanged s m (ModEdgeSplit e x y)
rule_before s m (NewEdgeHeal e f) = unchanged s m (NewEdgeHeal e f)
rule_before s m (ModEdgeHeal e f) = unchanged s m (ModEdgeHeal e f)
rule_before s m (AddEdgeNewFaces u v sent) = (
  curve_ticket_reasons_before s (no_node m u || no_node m v) sent (add_edge_reasons New s m (nat_abs u) (nat_abs v)),
  (add_edge New (nat_abs u) (nat_abs v) (curve_of sent) m, pos m.next.edges),
)
rule_before s m (AddEdgeModFace u v sent) = (
  curve_ticket_reasons_before s (no_node m u || no_node m v) sent (add_edge_reasons Mod s m (nat_abs u) (nat_abs v)),
  (add_edge Mod (nat_abs u) (nat_abs v) (curve_of sent) m, pos m.next.edges),
)
rule_before s m (RemEdgeNewFace e) = unchanged s m (RemEdgeNewFace e)
rule_before s m (RemEdgeModFace e) = unchanged s m (RemEdgeModFace e)

abbrev pub judged_before : Lent → Map → Option Ticket → Outcome
judged_before l m none = refused l (first_reason (lent_reasons l ++ (3, true) ∷ []))
judged_before l m (some t) =
    let rule = rule_before (sizes_of l) m t in
    unless l (first_reason (lent_reasons l ++ rule.0)) rule.1

unfoldable pub ticket_before : Lent → List ℤ → Outcome
ticket_before l numbers = judged_before l (map_of l) (read numbers)
