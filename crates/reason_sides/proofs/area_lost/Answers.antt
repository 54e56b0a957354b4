-- `reason_sides::area_lost` meets its contract: the areas of two curves differ by a number that fits. Assumes nothing.
use mathlib.Core.Path.{◌≡◌, sym, ap, ap₂, ◌∙◌, subst}
use lib.IntN.{◌-ℤ◌}
use mir.Syntax.{w64}
use mir.Val.{SFits, to_z, of_z}
use mir.Facts.{to_z-of_z}
use Rattle.integers.specs.Signs.{sent}
use Rattle.curves.specs.Curves.{curve_of}
use Rattle.curves.specs.Measures.{curve_area}
use Rattle.map_rows.specs.Rows.{edge_at}
use Rattle.map_rows.proofs.RowCurves.{run_at_lem, curve_at}
use Rattle.rings.proofs.Reversed.{run-within}
use Rattle.reason_sides.proofs.Areas.{lost_fits}
use Rattle.reason_sides.proofs.area_lost.Goals as goal

module _ (c : goal.After-area_of-2) where
  read : to_z w64 (of_z w64 c.area_of.result) -ℤ to_z w64 (of_z w64 c.area_of-2.result)
      ≡ curve_area (edge_at c.args.edges.now c.args.i).curve -ℤ curve_area (curve_of c.args.c.now)
  read = ap₂ ◌-ℤ◌ (sent {z = c.area_of.result} c.area_of.type_inv ∙ c.area_of.ensures
      ∙ ap curve_area c.curve_of.ensures.1)
      (sent {z = c.area_of-2.result} c.area_of-2.type_inv ∙ c.area_of-2.ensures)

  fits : SFits w64 (to_z w64 (of_z w64 c.area_of.result) -ℤ to_z w64 (of_z w64 c.area_of-2.result))
  fits = subst (SFits w64) (sym read) (lost_fits (rw (curve_at c.requires.0) at (run-within (run_at_lem c.requires.0)))
      (run-within c.requires.1))

pub overflow_sub-result : goal.overflow_sub-result
overflow_sub-result c = fits c

pub returns : goal.returns
returns c = to_z-of_z (fits c) ∙ read c
