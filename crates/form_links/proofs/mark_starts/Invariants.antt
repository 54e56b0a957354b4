-- `form_links::mark_starts` meets its contract: the rows where the positions that are passed start are marked. Assumes
-- nothing.
use mathlib.Core.Path.{◌≡◌}
use mathlib.Core.Bool.{cond}
use Prim.Native.Nat.{ℕ, ◌*◌, ◌-◌, ◌≤◌}
use lib.ListN.{length, get_or}
use Rattle.form_links.specs.Chains.{starts_in}
use Rattle.form_links.proofs.mark_starts.Given as goal

abbrev pub invariant-loop-p : goal.invariant-loop-p
invariant-loop-p l = (l.p ≤ l.count * 2) × (length l.marks ≡ length l.initial.marks)
    × ((i : ℕ) → get_or l.marks i 0 ≡ cond (starts_in l.starts l.p i) 1 (get_or l.initial.marks i 0))

abbrev pub decreases-loop-p : goal.decreases-loop-p
decreases-loop-p l = l.p-end - l.p
