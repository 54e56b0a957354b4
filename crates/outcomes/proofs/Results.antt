-- What a test or an edit answered, as its number: 0 where it is Ok, and never 0 where it is Err; and a call that hands a
-- refusal on. Assumes nothing.
use Rattle.std.specs.Prelude.{Result, Ok, Err}
use Rattle.std.specs.Result.{IsErrAnd}
use mathlib.Core.Path.{◌≡◌, ap}
use mathlib.Core.List.{List}
use Prim.Native.Nat.{◌<◌}
use lib.Dec.{lit<}
use lib.IntN.{ℤ}
use Rattle.map.specs.declared.Head.{Head}
use Rattle.map.specs.declared.Refusal.{Refusal}
use Rattle.map.specs.declared.Refusal.TheVariants.{NotWhole, NotInForm, UnknownTicket, NoSuchRow, OutOfRange}
use Rattle.map.specs.declared.Refusal.TheVariants.{EqualNeighbours, NotSimple, EndsDiffer, NotIsolated, PointTaken}
use Rattle.map.specs.declared.Refusal.TheVariants.{DirectionTaken, FacesDiffer, NotOnCurve, NodeInside, Crosses}
use Rattle.map.specs.declared.Refusal.TheVariants.{NoSharedNode, OtherEdgeEnds, TooManyPoints, OrderChanges, NoRoom}
use Rattle.map.specs.declared.Refusal.TheVariants.{NumbersSpent, SidesChange, Overlaps, Touches, ListedTwice}
use Rattle.map.specs.Refusals.{number, refusal_of}
use Rattle.map.specs.Rows.{Map, map_of, sizes_of, lent}
use Rattle.map.specs.Tickets.{Ticket}
use Rattle.map.specs.Reasons.{Reasons, first_reason, reasons}
use Rattle.outcomes.specs.declared.Carried.{Carried}
use Rattle.outcomes.specs.Outcomes.{decided, edited, edited_unless, done_of, outcome}
use Rattle.outcomes.proofs.Formed.{decided-refused, edited-refused, unless_refused_lem}

pub number_some : (e : Refusal) → 0 < number e
number_some NotWhole = lit< tt
number_some NotInForm = lit< tt
number_some UnknownTicket = lit< tt
number_some NoSuchRow = lit< tt
number_some OutOfRange = lit< tt
number_some EqualNeighbours = lit< tt
number_some NotSimple = lit< tt
number_some EndsDiffer = lit< tt
number_some NotIsolated = lit< tt
number_some PointTaken = lit< tt
number_some DirectionTaken = lit< tt
number_some FacesDiffer = lit< tt
number_some NotOnCurve = lit< tt
number_some NodeInside = lit< tt
number_some Crosses = lit< tt
number_some NoSharedNode = lit< tt
number_some OtherEdgeEnds = lit< tt
number_some TooManyPoints = lit< tt
number_some OrderChanges = lit< tt
number_some NoRoom = lit< tt
number_some NumbersSpent = lit< tt
number_some SidesChange = lit< tt
number_some Overlaps = lit< tt
number_some Touches = lit< tt
number_some ListedTwice = lit< tt

-- the refusal that a `?` hands on
pub handed_on : {A : Type 0} (r : Result A Refusal) (e : Refusal) → IsErrAnd r (λ d. d ≡ e) → r ≡ Err e
handed_on (Ok x) e h = absurd h
handed_on (Err d) e h = ap Err h

-- its number
pub handed_number : {A : Type 0} (r : Result A Refusal) (e : Refusal) → IsErrAnd r (λ d. d ≡ e) → refusal_of r ≡ number e
handed_number r e h = ap refusal_of (handed_on r e h)

-- an edit that hands on the refusal e, which is the first reason
module _ (nodes edges faces : List ℤ) (h : Head) (d : Result Carried Refusal) (e : Refusal)
    (k : IsErrAnd d (λ x. x ≡ e)) where
  pub unless-handed : (rs : Reasons) (c : Map × ℤ) → first_reason rs ≡ number e
      → outcome nodes edges faces (done_of h d) ≡ edited_unless (lent nodes edges faces h) rs c
  unless-handed rs c f = unless_refused_lem nodes edges faces h rs c (number e) (number_some e)
      (ap (done_of h) (handed_on d e k)) f

  pub decided-handed : (t : Ticket)
      → first_reason (reasons (sizes_of (lent nodes edges faces h)) (map_of (lent nodes edges faces h)) t) ≡ number e
      → outcome nodes edges faces (done_of h d) ≡ decided (lent nodes edges faces h) t
  decided-handed t f = decided-refused nodes edges faces h t (number e) (number_some e)
      (ap (done_of h) (handed_on d e k)) f

  pub edited-handed : (t : Ticket)
      → first_reason (reasons (sizes_of (lent nodes edges faces h)) (map_of (lent nodes edges faces h)) t) ≡ number e
      → outcome nodes edges faces (done_of h d) ≡ edited (lent nodes edges faces h) t
  edited-handed t f = edited-refused nodes edges faces h t (number e) (number_some e)
      (ap (done_of h) (handed_on d e k)) f
