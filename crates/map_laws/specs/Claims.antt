-- What refusals say of the drawing, and what is left of a curve without surplus points, over rational points; what the
-- record of points decides. Proved in proofs/: MeetingsTold.antt (`meetings_mean`, `meetings_told`), Surplus.antt
-- (`surplus_dropped`, `surplus_alike`, `same_outcome`), Recorded.antt (`records_created`, `record_stays`,
-- `twelve_alike`).
use Rattle.std.specs.Prelude.{◌≡◌, true, false, ◌≢◌, ◌↔◌, ℕ, ◌≤◌, ℤ, pos, nat_abs, length}
use mathlib.Core.List.{List, Memᴰ}
use Rattle.plane.specs.declared.Point.{Point}
use Rattle.plane.specs.declared.Contact.{Contact}
use Rattle.plane.specs.declared.Contact.TheVariants.{None, Touch, Crossing, Stretch}
use Rattle.curves.specs.Curves.{Curve, points, last_point, coordinates, is_run_to, max_points}
use Rattle.curves.specs.Tests.{neighbours_differ, straight_inside, is_simple}
use Rattle.curves.specs.Edits.{without_surplus}
use Rattle.geometry.specs.Spots.{Spot}
use Rattle.geometry.specs.Drawing.{OnCurve, ClearCurves, MeetCurves, CommonSpot}
use Rattle.map.specs.Limits.{most_points}
use Rattle.map.specs.Rows.{Edge, Map, Lent, Sizes, without_edge, lent}
use Rattle.map.specs.Form.{in_form}
use Rattle.map.specs.Tickets.{Ticket, AddIsoEdge, ChangeEdgeGeom, AddEdgeNewFaces, AddEdgeModFace}
use Rattle.map.specs.Reasons.{first_reason, reasons, curve_in, edge_meeting}
use Rattle.map.specs.Ticket.{carried, ticket, emptied}
use Rattle.map.specs.Grow.{after}
use Rattle.map_laws.specs.Before.{ticket_before}

-- ---- document 02 (iv): 23, 15 and 24

-- a segment of the curve and one of these edges have this contact: for `Stretch` two different spots are on both, for
-- `Crossing` one spot is on both and an end of neither (`geometry.specs.Meaning`)
pub record MeetsOne (k : Contact) (c : Curve) (es : List Edge) : Type 0 where
  pub edge : Edge
  pub among : Memᴰ edge es
  pub meet : MeetCurves k c edge.curve

-- the curve and one of these edges have a spot in common that is not an end of both
pub record SharesOne (c : Curve) (es : List Edge) : Type 0 where
  pub edge : Edge
  pub among : Memᴰ edge es
  pub spot : CommonSpot c edge.curve

abbrev pub Crosses : Curve → List Edge → Type 0
Crosses c es = (MeetsOne Stretch c es → ⊥) × MeetsOne Crossing c es

abbrev pub Touches : Curve → List Edge → Type 0
Touches c es = (MeetsOne Stretch c es → ⊥) × (MeetsOne Crossing c es → ⊥) × SharesOne c es

-- no spot in common but common ends
abbrev pub AllClear : Curve → List Edge → Type 0
AllClear c es = (e : Edge) → Memᴰ e es → ClearCurves c e.curve

-- what was found is what is there
pub record MeetingMeans (c : Curve) (es : List Edge) : Type 0 where
  pub stretch : (edge_meeting es c ≡ Stretch) ↔ MeetsOne Stretch c es
  pub crossing : (edge_meeting es c ≡ Crossing) ↔ Crosses c es
  pub touch : (edge_meeting es c ≡ Touch) ↔ Touches c es
  pub none : (edge_meeting es c ≡ None) ↔ AllClear c es

-- all curves that 6 and 7 let pass, whatever the edges
abbrev pub MeetingsMean : Type 0
MeetingsMean = (c : Curve) (es : List Edge) → neighbours_differ c ≡ true → is_simple c ≡ true → MeetingMeans c es

-- what the answer to a curve says of it and the other edges
pub record Told (answer : ℕ) (c : Curve) (es : List Edge) : Type 0 where
  pub stretch : answer ≡ 23 → MeetsOne Stretch c es
  pub crossing : answer ≡ 15 → Crosses c es
  pub touch : answer ≡ 24 → Touches c es
  pub clear : answer ≡ 0 → AllClear c es
  -- what comes after them
  pub later : 19 ≤ answer → answer ≤ 22 → AllClear c es

-- all tickets that draw a curve, on all maps, in form or not
pub record MeetingsTold : Type 0 where
  pub add-isolated :
      (s : Sizes) (m : Map) (u v : ℤ) (sent : List ℤ)
      → Told (first_reason (reasons s m (AddIsoEdge u v sent))) (curve_in sent) m.edges
  pub change :
      (s : Sizes) (m : Map) (e : ℤ) (sent : List ℤ)
      → Told (first_reason (reasons s m (ChangeEdgeGeom e sent))) (curve_in sent) (without_edge (nat_abs e) m.edges)
  pub add_new :
      (s : Sizes) (m : Map) (u v : ℤ) (sent : List ℤ)
      → Told (first_reason (reasons s m (AddEdgeNewFaces u v sent))) (curve_in sent) m.edges
  pub add-mod :
      (s : Sizes) (m : Map) (u v : ℤ) (sent : List ℤ)
      → Told (first_reason (reasons s m (AddEdgeModFace u v sent))) (curve_in sent) m.edges

-- ---- document 02 (v): surplus points

-- what is left of the curve c is d
pub record Thinned (c d : Curve) : Type 0 where
  -- they are the same spots of the plane, of whole coordinates or not
  pub spots : (P : Spot) → OnCurve P d ↔ OnCurve P c
  pub first : d.first ≡ c.first
  pub last : last_point d ≡ last_point c
  -- no inner point is left straight between its neighbours
  pub bent : straight_inside d ≡ false
  -- nothing is added, and d is c where nothing is surplus
  pub given : (p : Point) → Memᴰ p (points d) → Memᴰ p (points c)
  pub fewer : length (points d) ≤ length (points c)
  pub none : straight_inside c ≡ false → d ≡ c
  -- two equal neighbours are left exactly if there were two, and a line that doubles back, or is otherwise not simple,
  -- is left so: 6 and 7 would be the same by either
  pub differ : neighbours_differ d ≡ neighbours_differ c
  pub simple : neighbours_differ c ≡ true → is_simple d ≡ is_simple c

abbrev pub SurplusDropped : Type 0
SurplusDropped = (c : Curve) → Thinned c (without_surplus c)

-- the numbers of what is left
abbrev pub numbers_left : List ℤ → List ℤ
numbers_left sent = coordinates (points (curve_in sent))

-- points that 5 lets pass, and what is left of them sent instead: the same reasons and the same edit, on all maps
abbrev pub Alike : (List ℤ → Ticket) → Type 0
Alike t = (s : Sizes) (m : Map) (sent : List ℤ) → is_run_to (most_points s.limit) sent ≡ true
    → (reasons s m (t (numbers_left sent)) ≡ reasons s m (t sent))
    × (carried m (t (numbers_left sent)) ≡ carried m (t sent))

pub record SurplusAlike : Type 0 where
  pub add-isolated : (u v : ℤ) → Alike (AddIsoEdge u v)
  pub change : (e : ℤ) → Alike (ChangeEdgeGeom e)
  pub add_new : (u v : ℤ) → Alike (AddEdgeNewFaces u v)
  pub add-mod : (u v : ℤ) → Alike (AddEdgeModFace u v)

-- on all tables, every ticket that did not get 6 before, those carried out among them, has the same outcome
abbrev pub SameOutcome : Type 0
SameOutcome = (l : Lent) (t : List ℤ) → (ticket_before l t).answer.refusal ≢ 6 → ticket l t ≡ ticket_before l t

-- ---- document 02 (ix): the record of points

-- a map that is created records the number that it is created for, whatever the tables held
abbrev pub RecordsCreated : Type 0
RecordsCreated = (l : Lent) (k : ℤ) → (emptied l k).answer.refusal ≡ 0 → (emptied l k).lent.head.points ≡ k

-- on all tables, no list of tickets changes the record
abbrev pub RecordStays : Type 0
RecordStays = (l : Lent) (ts : List (List ℤ)) → (after l ts).lent.head.points ≡ l.head.points

-- the same tables and head, but that 12 is recorded
abbrev pub for_twelve : Lent → Lent
for_twelve l = lent l.nodes l.edges l.faces (record {
  nodes = l.head.nodes;
  edges = l.head.edges;
  faces = l.head.faces;
  next_node = l.head.next_node;
  next_edge = l.head.next_edge;
  next_face = l.head.next_face;
  points = pos max_points;
})

-- on all tables in form, a ticket that gets neither 5 nor 18 has the same outcome with 12 recorded
abbrev pub TwelveAlike : Type 0
TwelveAlike = (l : Lent) (t : List ℤ) → in_form l ≡ true
    → (ticket l t).answer.refusal ≢ 5 → (ticket l t).answer.refusal ≢ 18
    → ticket (for_twelve l) t ≡ record { lent = for_twelve (ticket l t).lent; answer = (ticket l t).answer }
