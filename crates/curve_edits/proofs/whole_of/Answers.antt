-- `curve_edits::whole_of` meets its contract. Assumes nothing.
use mathlib.Core.Path.{sym, ap, ◌∙◌}
use mathlib.Core.List.{[]}
use native.Mathlib.Omega.{arith}
use Rattle.curve_edits.specs.Lines.{line_of}
use Rattle.curve_edits.proofs.Lines.{empty_count}
use Rattle.curve_edits.proofs.Curves.{whole-points}
use Rattle.curve_edits.proofs.whole_of.Goals as goal

pub with_points-requires : goal.with_points-requires
with_points-requires c = (
  c.requires,
  omega arith,
  omega arith,
  omega (arith, empty_count c.empty.result c.empty.ensures),
)

pub returns : goal.returns
returns c =
    let s = c in
    c.with_points.ensures.0 [] c.empty.ensures
    ∙ ap line_of (rw c.point_count.ensures (sym (whole-points s.requires)))
