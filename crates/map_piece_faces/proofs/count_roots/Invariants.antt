-- `map_piece_faces::count_roots` meets its contract: what is counted, with what is left, is the count of all.
-- Assumes nothing.
use mathlib.Core.Path.{◌≡◌}
use Prim.Native.Nat.{◌+◌, ◌-◌, ◌≤◌}
use Rattle.lists.specs.Scans.{count_of}
use Rattle.lists.specs.Tables.{table}
use Rattle.map_piece_faces.specs.InFaces.{is_root}
use Rattle.map_piece_faces.proofs.count_roots.Given as goal

abbrev pub invariant-loop-i : goal.invariant-loop-i
invariant-loop-i l =
    (l.i ≤ l.n) × (l.roots ≤ l.i) × (l.roots + count_of (is_root l.labels) (table (λ k. k) l.i (l.n - l.i))
    ≡ count_of (is_root l.labels) (table (λ k. k) 0 l.n))

abbrev pub decreases-loop-i : goal.decreases-loop-i
decreases-loop-i l = l.n - l.i
