-- `reason_sides::areas_change` meets its contract: the one ring gains what the other loses. Assumes nothing.
use mathlib.Core.Path.{◌≡◌, sym, ap, ap₂, ◌∙◌, subst}
use mathlib.Core.Bool.{◌||◌}
use Prim.Native.Nat.{◌*◌, ◌+◌}
use lib.IntN.{ℤ, pos, ◌-ℤ◌}
use mir.Syntax.{w64}
use mir.Val.{SFits, to_z, of_z}
use mir.Facts.{to_z-of_z}
use Rattle.integers.specs.Signs.{sent}
use Rattle.integers.specs.Solver.{con, ◌⊖◌, ◌≐◌, solve}
use Rattle.curves.specs.Curves.{curve_of}
use Rattle.curves.specs.Measures.{curve_area}
use Rattle.map.specs.Darts.{ring}
use Rattle.map.specs.Faces.{ring_area}
use Rattle.map_rows.specs.Rows.{edge_at, edge_map}
use Rattle.map_rows.proofs.Rows.{edge-row_of}
use Rattle.map_rows.proofs.RowCurves.{run_at_lem, curve_at}
use Rattle.darts.specs.Positions.{dart_at}
use Rattle.rings.proofs.Reversed.{run-within}
use Rattle.reason_sides.specs.Passing.{sign_changes}
use Rattle.reason_sides.proofs.Areas.{lost_fits}
use Rattle.reason_sides.proofs.areas_change.Lts as lts
use Rattle.reason_sides.proofs.areas_change.Tie as tie
use Rattle.reason_sides.proofs.areas_change.Reads as reads
use Rattle.reason_sides.proofs.areas_change.Goals as goal

-- places in the code, by their names in what is generated
abbrev After-area_lost-lost : Type 0
After-area_lost-lost = lts.After-area_lost tie.the-claims reads.Pre reads.Post

module _ (c : After-area_lost-lost) where
  abbrev row : ℤ
  row = curve_area (edge_at c.args.edges.rows.now c.args.i).curve

  abbrev new : ℤ
  new = curve_area (curve_of c.args.c.now)

  lost-is : to_z w64 (of_z w64 c.area_lost-lost.result) ≡ row -ℤ new
  lost-is = sent {z = c.area_lost-lost.result} c.area_lost-lost.type_inv ∙ c.area_lost-lost.ensures

  gain-is : pos 0 -ℤ to_z w64 (of_z w64 c.area_lost-lost.result) ≡ new -ℤ row
  gain-is = ap (λ (z : ℤ). pos 0 -ℤ z) lost-is ∙ solve 2 (λ x y. con (pos 0) ⊖ (x ⊖ y) ≐ y ⊖ x) tt row new

  gain-fits : SFits w64 (pos 0 -ℤ to_z w64 (of_z w64 c.area_lost-lost.result))
  gain-fits = let r = edge-row_of c.args.edges.ranged c.args.i c.requires.1 in
      subst (SFits w64) (sym gain-is) (lost_fits (run-within c.requires.2)
      (rw (curve_at r) at (run-within (run_at_lem r))))

pub returns : goal.returns
returns c =
    let a = c.args in
    let m = edge_map a.edges.rows.now a.edges.count in
    ap₂ ◌||◌
    (c.area_changes.ensures ∙ ap (sign_changes (ring_area m (ring m (dart_at a.edges.rows.now (a.i * 2)))))
    (lost-is c.before.before))
    (c.area_changes-2.ensures ∙ ap (sign_changes (ring_area m (ring m (dart_at a.edges.rows.now (a.i * 2 + 1)))))
    (to_z-of_z (gain-fits c.before.before) ∙ gain-is c.before.before))

pub area_lost-lost-requires : goal.area_lost-lost-requires
area_lost-lost-requires c = (edge-row_of c.args.edges.ranged c.args.i c.requires.1, c.requires.2)

pub overflow_sub-lost : goal.overflow_sub-lost
overflow_sub-lost c = gain-fits c.before
