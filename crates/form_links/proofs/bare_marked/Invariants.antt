-- `form_links::bare_marked` meets its contract: what is left of the rows decides. Assumes nothing.
use mathlib.Core.Path.{◌≡◌}
use mathlib.Core.Bool.{Bool, beq}
use mathlib.Core.List.{List}
use Prim.Native.Nat.{ℕ, ◌+◌, ◌*◌, ◌-◌, ◌≤◌}
use lib.IntN.{ℤ, pos, negsuc}
use lib.ListN.{get_or}
use Rattle.lists.specs.Tests.{same}
use Rattle.lists.specs.Scans.{all_of}
use Rattle.lists.specs.Tables.{table}
use Rattle.tables.specs.Tables.{same_z}
use Rattle.form_links.proofs.bare_marked.Given as goal

-- row i is marked right
abbrev pub bareTest : List ℤ → List ℕ → ℕ → Bool
bareTest nodes marks i = beq (same_z (get_or nodes (i * 4 + 3) (pos 0)) (negsuc 0)) (same (get_or marks i 0) 1)

abbrev pub invariant-loop-i : goal.invariant-loop-i
invariant-loop-i l = (l.i ≤ l.n) × (all_of (bareTest l.nodes l.marks) (table (λ k. k) l.i (l.n - l.i))
    ≡ all_of (bareTest l.nodes l.marks) (table (λ k. k) 0 l.n))

abbrev pub decreases-loop-i : goal.decreases-loop-i
decreases-loop-i l = l.n - l.i
