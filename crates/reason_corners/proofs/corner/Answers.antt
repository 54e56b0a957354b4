-- `reason_corners::corner` meets its contract. Assumes nothing.
use mathlib.Core.Path.{◌≡◌, ap, ap₂, ◌∙◌}
use mathlib.Core.Bool.{◌&&◌, true}
use mathlib.Core.List.{List}
use Prim.Native.Nat.{ℕ, ◌*◌}
use native.Mathlib.Omega.{arith}
use lib.IntN.{ℤ}
use mir.Syntax.{w64}
use mir.Facts.{to_z-of_z}
use Rattle.lists.proofs.Bools.{same_false, eq1}
use Rattle.lists.proofs.Keeps.{keep_cong}
use Rattle.plane.specs.Directions.{Way}
use Rattle.curves.specs.Curves.{curve_of, start_way}
use Rattle.curves.specs.Edits.{course}
use Rattle.darts.specs.Positions.{way_with}
use Rattle.links.specs.Linking.{positions, leaves_node, departures_but, first_met}
use Rattle.links.proofs.FirstMet.{position_below}
use Rattle.reason_corners.specs.Drawing.{departing}
use Rattle.reason_corners.proofs.corner.Goals as goal

-- the new edge's position is none of the rows'
leaving_all : (l : List ℤ) (e : ℕ) (z : ℤ) → departures_but l e z (e * 2) (e * 2) ≡ departing l e z
leaving_all l e z =
    keep_cong _ _ (positions e) (λ q m.
    let b = position_below e q m in
    let s = same_false q (e * 2) (λ x. omega arith) in
    rw s (eq1 (λ x. x && true && true) (λ x. x) tt (leaves_node l z q)))

pub returns : goal.returns
returns c =
    let a = c.args in
    let w = way_with a.edges.rows.now a.edges.count a.c.now in
    let v = start_way (course a.back (curve_of a.c.now)) in
    c.first_clockwise.ensures
    ∙ ap₂ (λ (v : Way) (z : ℤ). first_met w v
    (departures_but a.edges.rows.now a.edges.count z (a.edges.count * 2) (a.edges.count * 2)))
    c.first_step.ensures.way (to_z-of_z {w = w64} c.ranges.node)
    ∙ ap (first_met w v) (leaving_all a.edges.rows.now a.edges.count a.node)
