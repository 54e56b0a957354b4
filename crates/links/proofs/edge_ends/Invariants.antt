-- `links::edge_ends` meets its contract: what is counted, with what is left, is the count of all. Assumes nothing.
use mathlib.Core.Path.{◌≡◌}
use Prim.Native.Nat.{◌+◌, ◌*◌, ◌-◌, ◌≤◌}
use Rattle.lists.specs.Scans.{count_of as count_of}
use Rattle.lists.specs.Tables.{table}
use Rattle.links.specs.Linking.{positions, leaves_node}
use Rattle.links.proofs.edge_ends.Given as goal

abbrev pub invariant-loop-p : goal.invariant-loop-p
invariant-loop-p l =
    (l.p ≤ l.edges.count * 2) × (l.n ≤ l.p) × (l.n + count_of (leaves_node l.edges.rows.now l.node) (table (λ q. q) l.p (l.edges.count * 2 - l.p))
    ≡ count_of (leaves_node l.edges.rows.now l.node) (positions l.edges.count))

abbrev pub decreases-loop-p : goal.decreases-loop-p
decreases-loop-p l = l.p-end - l.p
