-- `curves::odd_below` meets its contract: the segments passed and those left add up to all. Assumes nothing.
use mathlib.Core.Path.{◌≡◌}
use Prim.Native.Nat.{◌-◌, ◌≤◌}
use Rattle.lists.specs.Tests.{◌⊕◌}
use Rattle.lists.specs.Scans.{odd_count}
use Rattle.plane.specs.Below.{passes_below}
use Rattle.curves.specs.Curves.{curve_of}
use Rattle.curves.specs.Measures.{odd_below}
use Rattle.curves.proofs.Turns.{segments_from}
use Rattle.curves.proofs.odd_below.Given as goal

abbrev pub invariant-loop-i : goal.invariant-loop-i
invariant-loop-i l = (l.i ≤ l.n) × (l.odd ⊕ odd_count (segments_from l.c l.i) (passes_below l.p) ≡ odd_below (curve_of l.c) l.p)

abbrev pub decreases-loop-i : goal.decreases-loop-i
decreases-loop-i l = l.n - l.i
