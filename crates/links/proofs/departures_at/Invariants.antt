-- `links::departures_at` meets its contract: what is written, with what is left, is what is kept of all. Assumes
-- nothing.
use mathlib.Core.Path.{◌≡◌}
use Prim.Native.Nat.{◌+◌, ◌*◌, ◌-◌, ◌≤◌}
use lib.ListN.{length}
use lib.Seq.{sets}
use Rattle.links.specs.Linking.{leaves_node, departures_of}
use Rattle.links.proofs.Listed.{left}
use Rattle.links.proofs.departures_at.Given as goal

abbrev pub invariant-loop-i : goal.invariant-loop-i
invariant-loop-i l =
    (l.i ≤ l.edges.count) × (l.k ≤ l.i * 2) × (length l.list ≡ length l.initial.list)
    × (sets l.list l.k (left (leaves_node l.edges.rows.now l.node) (l.i * 2) (l.edges.count * 2))
    ≡ sets l.initial.list 0 (departures_of l.edges.rows.now l.edges.count l.node))
    × (l.k + length (left (leaves_node l.edges.rows.now l.node) (l.i * 2) (l.edges.count * 2))
    ≡ length (departures_of l.edges.rows.now l.edges.count l.node))

abbrev pub decreases-loop-i : goal.decreases-loop-i
decreases-loop-i l = l.edges.count - l.i
