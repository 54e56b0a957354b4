-- `piece_labels::root_of` meets its contract: where labels lead from row r is where they lead from row j. Assumes
-- nothing.
use mathlib.Core.Path.{◌≡◌}
use Prim.Native.Nat.{◌≤◌}
use Rattle.piece_labels.specs.Labels.{root_from}
use Rattle.piece_labels.proofs.root_of.Given as goal

abbrev pub invariant-loop-r : goal.invariant-loop-r
invariant-loop-r l = (l.r ≤ l.j) × (root_from l.labels l.r l.r ≡ root_from l.labels l.j l.j)

abbrev pub decreases-loop-r : goal.decreases-loop-r
decreases-loop-r l = l.r
