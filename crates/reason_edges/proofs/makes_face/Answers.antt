-- `reason_edges::makes_face` meets its contract: the lower face is 0 where one is. Assumes nothing.
use borrow.Author.Rules.{sfits_of}
use mathlib.Core.Path.{refl, ap, ◌∙◌}
use mathlib.Core.Bool.{Bool, not, ◌&&◌}
use Prim.Native.Nat.{◌+◌, ◌*◌}
use lib.IntN.{pos}
use lib.ListN.{get_or}
use lib.Dec.{lit≤}
use Rattle.lists.specs.Tests.{same}
use Rattle.lists.proofs.Bools.{eq4}
use Rattle.map.specs.Edits.{is_new}
use Rattle.map_rows.specs.Rows.{edge_at}
use Rattle.map_rows.proofs.Rows.{edge_cells_lem}
use Rattle.outcomes.proofs.Words.{number_test, small_fits}
use Rattle.reason_edges.proofs.Words.{lower-zero, new_told}
use Rattle.reason_edges.proofs.makes_face.Goals as goal

pub returns : goal.returns
returns c =
    let s = c in
    let a = s.args in
    let l = a.edges.now in
    let i = a.i in
    let x = get_or l (i * 32 + 5) (pos 0) in
    let y = get_or l (i * 32 + 6) (pos 0) in
    let cells = edge_cells_lem l i s.requires.ranges in
    let left = (edge_at l i).left in
    let right = (edge_at l i).right in
    let fx = sfits_of c.left-1.given in
    let fy = sfits_of c.right-1.given in
    rw (
      c.eq.ensures ∙ new_told a.how,
      number_test x y left right fx fy cells.left cells.right,
      number_test x (pos 0) left 0 fx (small_fits 0 (lit≤ tt)) cells.left refl,
      number_test y (pos 0) right 0 fy (small_fits 0 (lit≤ tt)) cells.right refl,
    )
    (eq4 (λ n d p q. n && d && p && q) (λ n d p q. n && d && (p && q)) tt (is_new a.how) (not (same left right))
    (not (same left 0)) (not (same right 0))
    ∙ ap (λ (b : Bool). is_new a.how && not (same left right) && b) (lower-zero left right))
