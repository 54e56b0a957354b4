-- `reason_departures::turn_changes` meets its contract: the departures from the node are listed, and a scan of those is
-- a scan of all. Assumes nothing.
use mathlib.Core.Path.{◌≡◌}
use mathlib.Core.Bool.{Bool, not}
use mathlib.Core.List.{List}
use Prim.Native.Nat.{ℕ}
use lib.IntN.{ℤ}
use lib.ListN.{drop}
use Rattle.lists.specs.Tests.{same}
use Rattle.lists.specs.Scans.{any_of}
use Rattle.reason_departures.specs.Turning.{turns_at}
use Rattle.reason_departures.proofs.turn_changes.Given as goal

-- the turn from p changes
abbrev pub changes : List ℤ → ℕ → ℕ → List ℤ → ℕ → Bool
changes l n own c p = not (same (turns_at l n n c p) (turns_at l n own c p))

abbrev pub invariant-loop-p : goal.invariant-loop-p
invariant-loop-p l =
    let f = changes l.edges.rows.now l.edges.count l.own l.c in
    any_of f (drop l.p-index l.listed) ≡ any_of f l.listed
