-- `edit_heal::heal_rows` meets its contract. Assumes nothing.
use mathlib.Core.Path.{◌∙◌}
use mir.Syntax.{w64}
use mir.Facts.{to_z-of_z}
use Rattle.map_rows.specs.Cells.{cells_of}
use Rattle.edit_heal.specs.Heals.{led_to_healed, healed_incidence, healed_written}
use Rattle.edit_heal.proofs.heal_rows.Goals as goal

pub returns : goal.returns
returns c =
    let r = c in
    let d = r in
    let s = d in
    let a = s.args in
    let z = to_z-of_z {w = w64} s.ranges.number in
    let t = d.lead_to_healed.ensures ∙ (λ j. led_to_healed a.edges.now a.e a.s.first a.s.second (z j)) in
    let g = r.healed_incidence-healed.ensures ∙ (λ j. healed_incidence (t j) a.i a.s.first a.s.second (z j)) in
    c.write_healed.ensures
    ∙ (λ j. healed_written a.how (t j) a.e a.i a.j (cells_of (g j) a.l))
