-- `reason_curves::edge_meeting` meets its contract: the graver of what was found and of what the curve does with the
-- other edges from row i on is the whole. Assumes nothing.
use mathlib.Core.Path.{◌≡◌}
use mathlib.Core.Bool.{not}
use mathlib.Core.List.{List, map}
use Prim.Native.Nat.{ℕ, ◌-◌, ◌≤◌}
use lib.IntN.{ℤ}
use Rattle.lists.specs.Tests.{same}
use Rattle.lists.specs.Scans.{keep}
use Rattle.lists.specs.Tables.{table}
use Rattle.plane.specs.declared.Contact.{Contact}
use Rattle.curves.specs.Curves.{Curve, curve_of}
use Rattle.curves.specs.Tests.{graver}
use Rattle.map.specs.Reasons.{edge_meeting}
use Rattle.map_rows.specs.Rows.{edge_at}
use Rattle.reason_curves.specs.Sent.{edges_but}
use Rattle.reason_curves.proofs.edge_meeting.Given as goal

-- the gravest that the curve does with another edge from row i on
abbrev pub from : List ℤ → ℕ → ℕ → Curve → ℕ → Contact
from l n own c i = edge_meeting (map (edge_at l) (keep (λ j. not (same j own)) (table (λ j. j) i (n - i)))) c

abbrev pub invariant-loop-i : goal.invariant-loop-i
invariant-loop-i l =
    (l.i ≤ l.edges.count)
    × (graver l.found (from l.edges.rows.now l.edges.count l.own (curve_of l.c) l.i)
    ≡ edge_meeting (edges_but l.edges.rows.now l.edges.count l.own) (curve_of l.c))

abbrev pub decreases-loop-i : goal.decreases-loop-i
decreases-loop-i l = l.edges.count - l.i
