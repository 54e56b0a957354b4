-- `edge_rows::undraw_edge` meets its contract: the tests look at the row unlinked and not yet gone. Assumes nothing.
use mathlib.Core.Path.{ap, ap₂, ◌∙◌}
use mathlib.Core.List.{List}
use lib.IntN.{ℤ}
use mir.Syntax.{w64}
use mir.Facts.{to_z-of_z}
use Rattle.tables.specs.Tables.{closed}
use Rattle.links.proofs.LinkedEdges.{unlinked_edge_kept}
use Rattle.edge_rows.specs.Holds.{isolated_without}
use Rattle.edge_rows.proofs.undraw_edge.Goals as goal

pub invariant_of-unlinked : goal.invariant_of-unlinked
invariant_of-unlinked c =
    record { ranged = rw c.unlink_edge.ensures (unlinked_edge_kept c.requires.0 c.args.i c.requires.1) }

pub returns : goal.returns
returns c =
    let s = c in
    let a = s.args in
    let u = c.unlink_edge.ensures in (
      c.remove_row.ensures ∙ ap (λ (l : List ℤ). closed 32 l a.count a.i) u,
      c.is_isolated_without-start.ensures
          ∙ ap₂ (λ (l : List ℤ) (z : ℤ). isolated_without l a.count a.i z) u (to_z-of_z {w = w64} s.ranges.u),
      c.is_isolated_without-end.ensures
          ∙ ap₂ (λ (l : List ℤ) (z : ℤ). isolated_without l a.count a.i z) u (to_z-of_z {w = w64} s.ranges.v),
    )
