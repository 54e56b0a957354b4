-- The faces whose rectangles a carried-out ticket may change, on tables in form.
use Rattle.std.specs.Prelude.{List, [], ◌∷◌, ◌++◌, map, ℕ, ◌-◌, nat_abs, length, get_or}
use Rattle.map.specs.Rows.{Edge, Map, edge}
use Rattle.map.specs.Tickets.{Ticket, AddIsoNode, MoveIsoNode, RemoveIsoNode, AddIsoEdge, RemoveIsoEdge, ChangeEdgeGeom}
use Rattle.map.specs.Tickets.{NewEdgesSplit, ModEdgeSplit, NewEdgeHeal, ModEdgeHeal, AddEdgeNewFaces, AddEdgeModFace}
use Rattle.map.specs.Tickets.{RemEdgeNewFace, RemEdgeModFace}
use Rattle.map.specs.Ticket.{carried}

-- the faces on the sides of an edge
abbrev pub faces_beside : Edge → List ℕ
faces_beside e = e.left ∷ e.right ∷ []

-- those of the last edge
abbrev pub faces_beside_last : List Edge → List ℕ
faces_beside_last es = get_or (map faces_beside es) (length es - 1) []

-- an edge drawn: its own sides, after it; any other edge: its sides before it, and the face that a removal makes
abbrev pub affected : Map → Ticket → List ℕ
affected m (AddIsoNode f x y) = []
affected m (MoveIsoNode n x y) = []
affected m (RemoveIsoNode n) = []
affected m (AddIsoEdge u v c) = faces_beside_last (carried m (AddIsoEdge u v c)).0.edges
affected m (RemoveIsoEdge e) = faces_beside (edge m (nat_abs e))
affected m (ChangeEdgeGeom e c) = faces_beside (edge m (nat_abs e))
affected m (NewEdgesSplit e x y) = faces_beside (edge m (nat_abs e))
affected m (ModEdgeSplit e x y) = faces_beside (edge m (nat_abs e))
affected m (NewEdgeHeal e f) = faces_beside (edge m (nat_abs e)) ++ faces_beside (edge m (nat_abs f))
affected m (ModEdgeHeal e f) = faces_beside (edge m (nat_abs e)) ++ faces_beside (edge m (nat_abs f))
affected m (AddEdgeNewFaces u v c) = faces_beside_last (carried m (AddEdgeNewFaces u v c)).0.edges
affected m (AddEdgeModFace u v c) = faces_beside_last (carried m (AddEdgeModFace u v c)).0.edges
affected m (RemEdgeNewFace e) = m.next.faces ∷ faces_beside (edge m (nat_abs e))
affected m (RemEdgeModFace e) = m.next.faces ∷ faces_beside (edge m (nat_abs e))
