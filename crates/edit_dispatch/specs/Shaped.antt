-- A ticket on tables in form, by what its numbers are read as; the kind of a first number, and the count of a kind.
use Rattle.std.specs.Prelude.{◌≡◌, Bool, true, false, cond, ◌&&◌, List, [], ◌∷◌, ℕ, zero, suc, ◌-◌, ◌%◌, ◌<◌, leb, eqb, ℤ, pos, negsuc}
use Rattle.std.specs.Prelude.{map, get_or, length, drop, Some, None, option_map}
use Rattle.std.specs.Prelude as std
use Rattle.std.proofs.Math.Option.{Option, none, some}
use Rattle.map.specs.declared.Variant.TheVariants.{New, Mod}
use Rattle.map.specs.Rows.{Lent}
use Rattle.map.specs.Tickets.{Ticket, AddIsoNode, MoveIsoNode, RemoveIsoNode, AddIsoEdge, RemoveIsoEdge, ChangeEdgeGeom}
use Rattle.map.specs.Tickets.{one, two, three, one_curve, two_curve, read}
use Rattle.map.specs.Ticket.{Outcome, refused}
use Rattle.outcomes.specs.Outcomes.{decided, edited}
use Rattle.outcomes.specs.Variants.{split_ticket, heal_ticket, add_ticket, remove_ticket}
use Rattle.edit_dispatch.specs.declared.Kind.{Kind}
use Rattle.edit_dispatch.specs.declared.Routine.{Routine}
use Rattle.edit_dispatch.specs.declared.Routine.TheVariants.{AddNode, MoveNode, RemoveNode, AddIsolatedEdge}
use Rattle.edit_dispatch.specs.declared.Routine.TheVariants.{RemoveIsolatedEdge, ChangeCurve, Split, Heal}
use Rattle.edit_dispatch.specs.declared.Routine.TheVariants.{AddEdge, RemoveEdge}

-- 3 where they are no ticket
abbrev pub shaped : Lent → Option Ticket → Outcome
shaped l none = refused l 3
shaped l (some t) = decided l t

-- the same of the rows, with the rectangles still those of before
abbrev pub shaped_rows : Lent → Option Ticket → Outcome
shaped_rows l none = refused l 3
shaped_rows l (some t) = edited l t

-- ---- kinds

-- the kinds 1 to 14
abbrev pub routines : List Routine
routines =
    AddNode ∷ MoveNode ∷ RemoveNode ∷ AddIsolatedEdge ∷ RemoveIsolatedEdge ∷ ChangeCurve
    ∷ Split New ∷ Split Mod ∷ Heal New ∷ Heal Mod ∷ AddEdge New ∷ AddEdge Mod ∷ RemoveEdge New ∷ RemoveEdge Mod ∷ []

abbrev pub routine_of : ℤ → std.Option Routine
routine_of (pos zero) = None
routine_of (pos (suc k)) = get_or (map Some routines) k None
routine_of (negsuc k) = None

-- the arguments of a routine, and whether a curve follows
abbrev pub shape : Routine → ℕ × Bool
shape AddNode = (3, false)
shape MoveNode = (3, false)
shape RemoveNode = (1, false)
shape AddIsolatedEdge = (2, true)
shape RemoveIsolatedEdge = (1, false)
shape ChangeCurve = (1, true)
shape (Split how) = (3, false)
shape (Heal how) = (2, false)
shape (AddEdge how) = (2, true)
shape (RemoveEdge how) = (1, false)

abbrev pub kind : ℕ → Bool → Routine → Kind
kind n c r = record { arguments = n; curve = c; routine = r }

abbrev pub kind_for : Routine → Kind
kind_for r = kind (shape r).0 (shape r).1 r

-- the kind of a first number
abbrev pub kind_sent : ℤ → std.Option Kind
kind_sent z = option_map kind_for (routine_of z)

-- so many numbers after the first: the arguments, or these and pairs
abbrev pub count_fits : Kind → ℕ → Bool
count_fits k n = cond k.curve (leb k.arguments n && eqb (n % 2) (k.arguments % 2)) (eqb n k.arguments)

-- what the numbers after the first are read as
abbrev pub read_for : Routine → List ℤ → Option Ticket
read_for AddNode = three AddIsoNode
read_for MoveNode = three MoveIsoNode
read_for RemoveNode = one RemoveIsoNode
read_for AddIsolatedEdge = two_curve AddIsoEdge
read_for RemoveIsolatedEdge = one RemoveIsoEdge
read_for ChangeCurve = one_curve ChangeEdgeGeom
read_for (Split how) = three (split_ticket how)
read_for (Heal how) = two (heal_ticket how)
read_for (AddEdge how) = two_curve (add_ticket how)
read_for (RemoveEdge how) = one (remove_ticket how)

-- a ticket with a routine's count of numbers, which is read by that routine
pub record Asked (r : Routine) (t : List ℤ) : Type 0 where
  pub some : 0 < length t
  pub fits : count_fits (kind_for r) (length t - 1) ≡ true
  pub reads : read t ≡ read_for r (drop 1 t)

-- ---- what a routine does to edges

-- how many edges its ticket names, by its first numbers
abbrev pub edges_named : Routine → ℕ
edges_named AddNode = 0
edges_named MoveNode = 0
edges_named RemoveNode = 0
edges_named AddIsolatedEdge = 0
edges_named RemoveIsolatedEdge = 1
edges_named ChangeCurve = 1
edges_named (Split how) = 1
edges_named (Heal how) = 2
edges_named (AddEdge how) = 0
edges_named (RemoveEdge how) = 1

-- whether it draws an edge
abbrev pub draws_edge : Routine → Bool
draws_edge AddNode = false
draws_edge MoveNode = false
draws_edge RemoveNode = false
draws_edge AddIsolatedEdge = true
draws_edge RemoveIsolatedEdge = false
draws_edge ChangeCurve = false
draws_edge (Split how) = false
draws_edge (Heal how) = false
draws_edge (AddEdge how) = true
draws_edge (RemoveEdge how) = false
