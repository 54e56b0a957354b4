-- After every carried-out ticket all links obey the law, given that they did before. Assumes nothing.
use mathlib.Core.Path.{◌≡◌}
use lib.IntN.{nat_abs}
use Rattle.curves.specs.Curves.{point}
use Rattle.map.specs.declared.Variant.TheVariants.{New, Mod}
use Rattle.map.specs.Rows.{Map, Sizes}
use Rattle.map.specs.Tickets.{Ticket, AddIsoNode, MoveIsoNode, RemoveIsoNode, AddIsoEdge, RemoveIsoEdge, ChangeEdgeGeom}
use Rattle.map.specs.Tickets.{NewEdgesSplit, ModEdgeSplit, NewEdgeHeal, ModEdgeHeal, AddEdgeNewFaces, AddEdgeModFace}
use Rattle.map.specs.Tickets.{RemEdgeNewFace, RemEdgeModFace}
use Rattle.map.specs.Reasons.{first_reason, reasons, curve_in}
use Rattle.map.specs.Ticket.{carried}
use Rattle.map_laws.proofs.Reasons as facts
use Rattle.grown.proofs.Law.Lawful.{Obeys, Lawful}
use Rattle.grown.proofs.Law.Change.{add_node_obeys, move_node_obeys, remove_node_obeys, change_obeys}
use Rattle.grown.proofs.Law.Split.{split_obeys}
use Rattle.grown.proofs.Law.Heal.{heal_obeys}
use Rattle.grown.proofs.Law.Add.{add_lone_obeys, add_edge_obeys}
use Rattle.grown.proofs.Law.Remove.{remove_lone_obeys, remove_edge_obeys}

module _ (s : Sizes) (m : Map) (L : Lawful m) where
  -- each kind, from the facts that no reason holds
  pub carried_obeys : (t : Ticket) → first_reason (reasons s m t) ≡ 0 → Obeys (carried m t).0
  unfolding carried
  carried_obeys (AddIsoNode f x y) h = add_node_obeys m (point x y) L.law
  carried_obeys (MoveIsoNode n x y) h = move_node_obeys m (nat_abs n) (point x y) L.law
  carried_obeys (RemoveIsoNode n) h = remove_node_obeys m (nat_abs n) L.law
  carried_obeys (AddIsoEdge u v c) h = add_lone_obeys m L s (nat_abs u) (nat_abs v) (curve_in c)
      (facts.add-lone s m u v c h)
  carried_obeys (RemoveIsoEdge e) h = remove_lone_obeys m L (nat_abs e) (facts.remove_lone s m e h).has
  carried_obeys (ChangeEdgeGeom e c) h = change_obeys m (nat_abs e) (curve_in c) (facts.change s m e c h).order L.law
  carried_obeys (NewEdgesSplit e x y) h = let k = facts.split_new s m e x y h in
      split_obeys m (nat_abs e) (point x y) L k.has k.free k.on New
  carried_obeys (ModEdgeSplit e x y) h = let k = facts.split-mod s m e x y h in
      split_obeys m (nat_abs e) (point x y) L k.has k.free k.on Mod
  carried_obeys (NewEdgeHeal e f) h = heal_obeys m L (nat_abs e) (nat_abs f) (facts.heal_new s m e f h).0 New
  carried_obeys (ModEdgeHeal e f) h = heal_obeys m L (nat_abs e) (nat_abs f) (facts.heal-mod s m e f h) Mod
  carried_obeys (AddEdgeNewFaces u v c) h =
      add_edge_obeys m L s (nat_abs u) (nat_abs v) (curve_in c) New (facts.add_new s m u v c h)
  carried_obeys (AddEdgeModFace u v c) h =
      add_edge_obeys m L s (nat_abs u) (nat_abs v) (curve_in c) Mod (facts.add-mod s m u v c h)
  carried_obeys (RemEdgeNewFace e) h = remove_edge_obeys m L (nat_abs e) (facts.remove_new s m e h).has New
  carried_obeys (RemEdgeModFace e) h = remove_edge_obeys m L (nat_abs e) (facts.remove_mod s m e h) Mod
