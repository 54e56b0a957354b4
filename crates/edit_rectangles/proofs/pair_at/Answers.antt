-- `edit_rectangles::pair_at` meets its contract. Assumes nothing.
use borrow.Author.Rules.{rules}
use mathlib.Core.Path.{◌∙◌}
use Rattle.integers.specs.Signs.{sent}
use Rattle.map_rows.proofs.Rows.{edge_cells_lem}
use Rattle.edit_rectangles.proofs.pair_at.Goals as goal

pub returns : goal.returns
returns c =
    let s = c in
    let e = edge_cells_lem s.args.edges.now s.args.i s.requires.ranges in
    let l = sent c.left-1.given ∙ e.left in
    let r = sent c.right-1.given ∙ e.right in
    λ j. record { left = l j; right = r j }
