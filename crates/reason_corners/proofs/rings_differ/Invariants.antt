-- `reason_corners::rings_differ` meets its contract: the reverse lies on what is left of the ring exactly where it lies
-- on the ring. Assumes nothing.
use mathlib.Core.Path.{◌≡◌}
use Prim.Native.Nat.{ℕ, ◌+◌, ◌*◌, ◌-◌, ◌<◌}
use Rattle.planar_maps.specs.Map.{fwd, bwd}
use Rattle.map.specs.Rows.{Map}
use Rattle.map.specs.Darts.{ring, among}
use Rattle.reason_corners.specs.Drawing.{Joined}
use Rattle.reason_corners.proofs.Walked.{meets}
use Rattle.reason_corners.proofs.rings_differ.Given as goal

abbrev pub invariant-loop-n : goal.invariant-loop-n
invariant-loop-n l =
    (l.p < l.edges.count * 2 + 2) × ((new : ℕ) (m : Map) → Joined l.edges.rows.now l.edges.count l.k.start l.k.end new m
    → among (ring m (fwd new)) (bwd new) ≡ meets l.edges.rows.now l.edges.count new m (l.edges.count * 2 + 2 - l.n) l.p)

abbrev pub decreases-loop-n : goal.decreases-loop-n
decreases-loop-n l = l.n-end - l.n
