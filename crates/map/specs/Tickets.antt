-- Tickets: fourteen kinds, chosen by the first number; a curve is x, y pairs. The numbers are kept as they were sent.
use Rattle.std.specs.Prelude.{cond, List, [], ◌∷◌, zero, suc, ◌%◌, ℤ, pos, negsuc, length, get_or}
use Rattle.std.proofs.Math.Option.{Option, none, some}
use Rattle.lists.specs.Tests.{same}

-- the table of kinds: what follows the first number
pub data Ticket : Type 0 where
  AddIsoNode : (face x y : ℤ) → Ticket
  MoveIsoNode : (node x y : ℤ) → Ticket
  RemoveIsoNode : (node : ℤ) → Ticket
  AddIsoEdge : (start end : ℤ) (curve : List ℤ) → Ticket
  RemoveIsoEdge : (edge : ℤ) → Ticket
  ChangeEdgeGeom : (edge : ℤ) (curve : List ℤ) → Ticket
  NewEdgesSplit ModEdgeSplit : (edge x y : ℤ) → Ticket
  NewEdgeHeal ModEdgeHeal : (edge other : ℤ) → Ticket
  AddEdgeNewFaces AddEdgeModFace : (start end : ℤ) (curve : List ℤ) → Ticket
  RemEdgeNewFace RemEdgeModFace : (edge : ℤ) → Ticket

-- one, two or three numbers, or one or two and a curve; any other count is wrong
abbrev pub one : (ℤ → Ticket) → List ℤ → Option Ticket
one k [] = none
one k (a ∷ []) = some (k a)
one k (a ∷ b ∷ r) = none

abbrev pub two : (ℤ → ℤ → Ticket) → List ℤ → Option Ticket
two k [] = none
two k (a ∷ r) = one (k a) r

abbrev pub three : (ℤ → ℤ → ℤ → Ticket) → List ℤ → Option Ticket
three k [] = none
three k (a ∷ r) = two (k a) r

-- an odd count for a curve is wrong
abbrev pub curve : (List ℤ → Ticket) → List ℤ → Option Ticket
curve k r = cond (same (length r % 2) 0) (some (k r)) none

abbrev pub one_curve : (ℤ → List ℤ → Ticket) → List ℤ → Option Ticket
one_curve k [] = none
one_curve k (a ∷ r) = curve (k a) r

abbrev pub two_curve : (ℤ → ℤ → List ℤ → Ticket) → List ℤ → Option Ticket
two_curve k [] = none
two_curve k (a ∷ r) = one_curve (k a) r

-- the kinds 1 to 14
abbrev pub kinds : List (List ℤ → Option Ticket)
kinds =
    three AddIsoNode ∷ three MoveIsoNode ∷ one RemoveIsoNode ∷ two_curve AddIsoEdge ∷ one RemoveIsoEdge
    ∷ one_curve ChangeEdgeGeom
    ∷ three NewEdgesSplit ∷ three ModEdgeSplit ∷ two NewEdgeHeal ∷ two ModEdgeHeal
    ∷ two_curve AddEdgeNewFaces ∷ two_curve AddEdgeModFace ∷ one RemEdgeNewFace ∷ one RemEdgeModFace ∷ []

-- the ticket that a run of numbers is; none for an unknown kind or a wrong count
unfoldable pub read : List ℤ → Option Ticket
read [] = none
read (pos zero ∷ r) = none
read (pos (suc k) ∷ r) = get_or kinds k (λ s. none) r
read (negsuc k ∷ r) = none
