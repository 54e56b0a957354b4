-- `links::way_taken` meets its contract. Assumes nothing.
use mathlib.Core.Path.{◌≡◌}
use mathlib.Core.Bool.{Bool}
use Prim.Native.Nat.{ℕ, ◌*◌, ◌-◌, ◌≤◌}
use Rattle.lists.specs.Scans.{any_of}
use Rattle.lists.specs.Tables.{table}
use Rattle.plane.specs.Directions.{way_to}
use Rattle.links.specs.Linking.{positions}
use Rattle.links.proofs.ByRows.{taken}
use Rattle.links.proofs.way_taken.Given as goal

-- whether one of the positions left has the direction
abbrev pub any_from : (ℕ → Bool) → ℕ → ℕ → Bool
any_from f p n = any_of f (table (λ q. q) p (n - p))

abbrev pub invariant-loop-i : goal.invariant-loop-i
invariant-loop-i l =
    let f = taken l.edges.rows.now l.node l.own (way_to l.v.from l.v.to) in
    (l.i ≤ l.edges.count) × (any_from f (l.i * 2) (l.edges.count * 2) ≡ any_of f (positions l.edges.count))

abbrev pub decreases-loop-i : goal.decreases-loop-i
decreases-loop-i l = l.edges.count - l.i
