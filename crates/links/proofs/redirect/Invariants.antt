-- `links::redirect` meets its contract: one pass over the rows left, from what the rows passed left, is the two sweeps
-- of all. Assumes nothing.
use mathlib.Core.Path.{◌≡◌}
use mathlib.Core.List.{List}
use Prim.Native.Nat.{ℕ, ◌+◌, ◌*◌, ◌-◌, ◌≤◌}
use lib.IntN.{ℤ}
use lib.ListN.{length}
use Rattle.lists.specs.Tables.{sweep}
use Rattle.tables.specs.Tables.{replace_at}
use Rattle.links.proofs.redirect.Given as goal

-- a link of row i
abbrev pub link : ℕ → ℤ → ℤ → List ℤ → ℕ → List ℤ
link k old new t i = replace_at old new t (i * 32 + k)

-- both
abbrev pub row : ℤ → ℤ → List ℤ → ℕ → List ℤ
row old new t i = link 4 old new (link 3 old new t i) i

abbrev pub invariant-loop-i : goal.invariant-loop-i
invariant-loop-i l =
    (l.i ≤ l.count) × (length l.edges ≡ length l.initial.edges)
    × (sweep (row l.old l.new) l.edges l.i (l.count - l.i)
    ≡ sweep (row l.old l.new) l.initial.edges 0 l.count)

abbrev pub decreases-loop-i : goal.decreases-loop-i
decreases-loop-i l = l.count - l.i
