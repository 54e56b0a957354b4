-- The reasons to turn a call down by their names, and document 01's number of each.
use Rattle.std.specs.Prelude.{ℕ, ℤ, pos, Result, Ok, Err}
use Rattle.map.specs.declared.Answer.{Answer}
use Rattle.map.specs.declared.Refusal.{Refusal}
use Rattle.map.specs.declared.Refusal.TheVariants.{NotWhole, NotInForm, UnknownTicket, NoSuchRow, OutOfRange}
use Rattle.map.specs.declared.Refusal.TheVariants.{EqualNeighbours, NotSimple, EndsDiffer, NotIsolated, PointTaken}
use Rattle.map.specs.declared.Refusal.TheVariants.{DirectionTaken, FacesDiffer, NotOnCurve, NodeInside, Crosses}
use Rattle.map.specs.declared.Refusal.TheVariants.{NoSharedNode, OtherEdgeEnds, TooManyPoints, OrderChanges, NoRoom}
use Rattle.map.specs.declared.Refusal.TheVariants.{NumbersSpent, SidesChange, Overlaps, Touches, ListedTwice}

abbrev pub number : Refusal → ℕ
number NotWhole = 1
number NotInForm = 2
number UnknownTicket = 3
number NoSuchRow = 4
number OutOfRange = 5
number EqualNeighbours = 6
number NotSimple = 7
number EndsDiffer = 8
number NotIsolated = 9
number PointTaken = 10
number DirectionTaken = 11
number FacesDiffer = 12
number NotOnCurve = 13
number NodeInside = 14
number Crosses = 15
number NoSharedNode = 16
number OtherEdgeEnds = 17
number TooManyPoints = 18
number OrderChanges = 19
number NoRoom = 20
number NumbersSpent = 21
number SidesChange = 22
number Overlaps = 23
number Touches = 24
number ListedTwice = 28

-- the number that a test answers: 0 where it has nothing against the call
abbrev pub refusal_of : {A : Type 0} → Result A Refusal → ℕ
refusal_of (Ok x) = 0
refusal_of (Err r) = number r

-- refusal and value of a call that gives a value
abbrev pub answer_of : Result ℤ Refusal → Answer
answer_of (Ok v) = record { refusal = 0; value = v }
answer_of (Err r) = record { refusal = number r; value = pos 0 }
