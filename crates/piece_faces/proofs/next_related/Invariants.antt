-- What was passed has no bit that is asked for.
use mathlib.Core.Path.{◌≡◌}
use Prim.Native.Nat.{◌-◌}
use Rattle.piece_faces.specs.Bits.{span, related_but}
use Rattle.piece_faces.proofs.next_related.Given as goal

abbrev pub invariant-loop-y : goal.invariant-loop-y
invariant-loop-y l = related_but l.graph l.v l.from l.but ≡ related_but l.graph l.v l.y l.but

abbrev pub decreases-loop-y : goal.decreases-loop-y
decreases-loop-y l = span - l.y
