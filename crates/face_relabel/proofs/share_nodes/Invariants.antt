-- `face_relabel::share_nodes` meets its contract: a sweep of the rows left, which are as they were, from what those
-- passed left, is the sweep of all. Assumes nothing.
use mathlib.Core.Path.{◌≡◌}
use Prim.Native.Nat.{ℕ, ◌*◌, ◌-◌, ◌≤◌}
use lib.IntN.{pos}
use lib.ListN.{length, get_or}
use Rattle.lists.specs.Tables.{sweep}
use Rattle.face_relabel.specs.Sharing.{node_shared}
use Rattle.face_relabel.proofs.share_nodes.Given as goal

abbrev pub invariant-loop-i : goal.invariant-loop-i
invariant-loop-i l =
    (l.i ≤ l.n) × (length l.nodes ≡ length l.initial.nodes) × ((j : ℕ) → l.i * 4 ≤ j → get_or l.nodes j (pos 0) ≡ get_or l.initial.nodes j (pos 0))
    × (sweep (node_shared l.initial.nodes l.n l.edges l.count l.s) l.nodes l.i (l.n - l.i) ≡ sweep (node_shared l.initial.nodes l.n l.edges l.count l.s) l.initial.nodes 0 l.n)

abbrev pub decreases-loop-i : goal.decreases-loop-i
decreases-loop-i l = l.n - l.i
