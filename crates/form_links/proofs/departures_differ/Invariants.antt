-- `form_links::departures_differ` meets its contract: the positions that are passed are chained, and none repeats an
-- earlier one. Assumes nothing.
use mathlib.Core.Path.{◌≡◌}
use mathlib.Core.Bool.{false}
use Prim.Native.Nat.{ℕ, ◌*◌, ◌-◌, ◌<◌, ◌≤◌}
use lib.ListN.{length}
use Rattle.form_links.specs.Chains.{slot, repeats, Chained}
use Rattle.form_links.proofs.departures_differ.Given as goal

abbrev pub invariant-loop-i : goal.invariant-loop-i
invariant-loop-i l = (l.i ≤ l.count) × (length l.last ≡ 9000) × (length l.back ≡ 4000)
    × Chained (slot l.edges l.starts) (l.i * 2) l.last l.back
    × ((q : ℕ) → q < l.i * 2 → repeats l.edges (slot l.edges l.starts) q ≡ false)

abbrev pub decreases-loop-i : goal.decreases-loop-i
decreases-loop-i l = l.count - l.i
