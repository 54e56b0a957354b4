-- `reason_sides::area_changes` meets its contract: what is left of an area is positive where less is lost. Assumes
-- nothing.
use mathlib.Core.Path.{ap, ap₂, ◌∙◌}
use mathlib.Core.Bool.{Bool, not, beq}
use lib.IntN.{pos, ◌-ℤ◌}
use lib.Signed.{lt_z}
use mir.Syntax.{w64}
use mir.Facts.{to_z-of_z}
use Rattle.integers.specs.Signs.{sent}
use Rattle.integers.specs.Order.{sgn}
use Rattle.lists.specs.Tests.{◌⊕◌}
use Rattle.lists.proofs.Bools.{eq2}
use Rattle.plane.specs.Areas.{is_positive}
use Rattle.map.specs.Darts.{ring}
use Rattle.map.specs.Faces.{ring_area}
use Rattle.map_rows.specs.Rows.{edge_map}
use Rattle.darts.specs.Positions.{dart_at}
use Rattle.rings.proofs.Sums.{positive_is}
use Rattle.reason_sides.proofs.Areas.{left_positive}
use Rattle.reason_sides.proofs.area_changes.Goals as goal

pub returns : goal.returns
returns c =
    let a = c.args in
    let m = edge_map a.edges.rows.now a.edges.count in
    let whole = ring_area m (ring m (dart_at a.edges.rows.now a.p)) in
    let area = sent {z = c.ring_area-area.result} c.ring_area-area.type_inv ∙ c.ring_area-area.ensures in
    let lost = to_z-of_z {w = w64} {z = a.lost} c.ranges.lost in
    ap₂ (λ (x y : Bool). not (beq x y)) (ap (lt_z (pos 0)) area ∙ positive_is whole)
    (ap₂ lt_z lost area ∙ left_positive a.lost whole)
    ∙ eq2 (λ x y. not (beq x y)) (λ x y. x ⊕ y) tt (is_positive (sgn whole)) (is_positive (sgn (whole -ℤ a.lost)))
