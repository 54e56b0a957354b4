-- `rings::dart_area` meets its contract: the area of the edge, or its opposite. Assumes nothing.
use mathlib.Core.Path.{◌≡◌, sym, ap, ◌∙◌, subst}
use Prim.Native.Nat.{◌/◌}
use native.Mathlib.Omega.{arith}
use lib.Dec.{lit<}
use lib.IntN.{pos, neg_ℤ, ◌-ℤ◌}
use mir.Syntax.{w64}
use mir.Val.{to_z, of_z, SFits}
use mir.Facts.{to_z-of_z}
use Rattle.integers.specs.Machine.{fits-within}
use Rattle.integers.specs.Signs.{sent}
use Rattle.curves.specs.Measures.{curve_area}
use Rattle.map_rows.specs.Rows.{edge_at}
use Rattle.map_rows.proofs.RowCurves.{run_at_lem, curve_at}
use Rattle.darts.proofs.Positions.{even_of, odd_of}
use Rattle.darts.proofs.Steps.{negative_is}
use Rattle.rings.proofs.Reversed.{within_neg, curve_most, run-within, area-reversed}
use Rattle.rings.proofs.dart_area.Lts as lts
use Rattle.rings.proofs.dart_area.Tie as tie
use Rattle.rings.proofs.dart_area.Reads as reads
use Rattle.rings.proofs.dart_area.Goals as goal

-- places in the code, by their names in what is generated
abbrev After-area_of-a : Type 0
After-area_of-a = lts.After-area_of tie.the-claims reads.Pre reads.Post

module _ (c : After-area_of-a) where
  -- the edge's area as it is read
  read : to_z w64 (of_z w64 c.area_of-a.result)
      ≡ curve_area (edge_at c.args.edges.now (c.args.p / 2)).curve
  read = sent {z = c.area_of-a.result} c.area_of-a.type_inv ∙ c.area_of-a.ensures
      ∙ ap curve_area c.curve_of.ensures.1

  opposite : pos 0 -ℤ to_z w64 (of_z w64 c.area_of-a.result)
      ≡ neg_ℤ (curve_area (edge_at c.args.edges.now (c.args.p / 2)).curve)
  opposite = negative_is (to_z w64 (of_z w64 c.area_of-a.result)) ∙ ap neg_ℤ read

  opposite-fits : SFits w64 (pos 0 -ℤ to_z w64 (of_z w64 c.area_of-a.result))
  opposite-fits =
      let row = c.requires in
      let h = within_neg curve_most (rw (curve_at row) at (run-within (run_at_lem row))) in
      subst (SFits w64) (sym opposite) (fits-within w64 curve_most _ (lit< tt) h.least h.most)

pub returns-then-p-eq0 : goal.returns-then-p-eq0
returns-then-p-eq0 c = rw (even_of c.args.p c.if-p-eq0.true).test (read c.before)

pub returns-else-p-eq0 : goal.returns-else-p-eq0
returns-else-p-eq0 c =
    let a = c.args in
    rw (odd_of a.p (let h = c.if-p-eq0.false in omega arith)).test
    (to_z-of_z (opposite-fits c.before) ∙ opposite c.before
    ∙ sym (area-reversed (edge_at a.edges.now (a.p / 2)).curve))

pub overflow_sub-result : goal.overflow_sub-result
overflow_sub-result c = opposite-fits c.before
