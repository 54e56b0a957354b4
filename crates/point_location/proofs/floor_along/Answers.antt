-- `point_location::floor_along` meets its contract: the segments from point k on, from the highest so far, are all
-- segments from the first. Assumes nothing.
use mathlib.Core.Path.{◌≡◌, sym, ap, ◌∙◌}
use mathlib.Core.List.{List}
use Rattle.std.specs.Prelude.{Option}
use Prim.Native.Nat.{ℕ, ◌+◌, ◌-◌, ◌/◌, ◌<◌}
use native.Mathlib.Omega.{arith}
use lib.IntN.{ℤ}
use lib.ListN.{length}
use Rattle.lists.specs.Scans.{fold}
use Rattle.plane.specs.declared.Point.{Point}
use Rattle.plane.specs.Below.{Segment}
use Rattle.curves.specs.Curves.{point_at}
use Rattle.curves.proofs.Runs.{two-points, curve_is}
use Rattle.curves.proofs.Turns.{segments_from, segments_step, segments-end}
use Rattle.map.specs.Faces.{Floor}
use Rattle.point_location.specs.Highest.{highest_floor, passed}
use Rattle.point_location.proofs.floor_along.Goals as goal

-- a turn
turn : (g : Option Floor → Segment → Option Floor) (l : List ℤ) (k n : ℕ) {h r : Option Floor} {a b : Point} → n + 1
    ≡ length l / 2 → k < n → a ≡ point_at l k → b ≡ point_at l (k + 1)
    → r ≡ g h (record { from = a; to = b }) → fold g r (segments_from l (k + 1)) ≡ fold g h (segments_from l k)
turn g l k n all taken ea eb er = rw (segments_step l k all taken, er, ea, eb)

pub loop-k-init : goal.loop-k-init
loop-k-init c = (omega arith, c.requires.0, rw (curve_is c.requires.2))

pub loop-k-preserved : goal.loop-k-preserved
loop-k-preserved c =
    let s = c in
    let a = s.args in
    let b = c in
    let all : c.point_count-n.result - 1 + 1 ≡ length a.c.now / 2 =
    omega (arith, two-points s.requires.2, c.point_count-n.ensures) in (
      omega arith,
      c.floor_with-best.ensures.1,
      turn (passed a.p a.left a.right) a.c.now _ _ all c.loop-k-test.true
          c.point_at.ensures.0 c.point_at-in-loop-k.ensures.0 c.floor_with-best.ensures.0
          ∙ b.loop-k.invariant.2,
    )

pub returns : goal.returns
returns c =
    let s = c in
    let a = s.args in
    let all : c.point_count-n.result - 1 + 1 ≡ length a.c.now / 2 =
    omega (arith, two-points s.requires.2, c.point_count-n.ensures) in (
      sym (ap (fold (passed a.p a.left a.right) (highest_floor c.loop-k.best))
          (segments-end a.c.now _ all c.loop-k-test.false)) ∙ c.loop-k.invariant.2,
      c.loop-k.invariant.1,
    )

pub overflow_sub-n : goal.overflow_sub-n
overflow_sub-n c = omega (arith, two-points c.requires.2, c.point_count-n.ensures)
