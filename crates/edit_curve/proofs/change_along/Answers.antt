-- `edit_curve::change_along` meets its contract: the first reason is answered, and else the curve is written. Assumes
-- nothing.
use mathlib.Core.Path.{refl, sym}
use lib.IntN.{pos}
use Rattle.map_rows.proofs.Rows.{edge-row_of}
use Rattle.outcomes.proofs.Formed.{edge_rows_lem, unless-carried}
use Rattle.outcomes.proofs.Results.{unless-handed}
use Rattle.edit_curve.proofs.Changed.{change-lent}
use Rattle.edit_curve.proofs.change_along.Goals as goal

pub returns-in_err-check_redraw : goal.returns-in_err-check_redraw
returns-in_err-check_redraw c =
    let a = c.args in
    unless-handed a.nodes.now a.edges.now a.faces.now a.h _ _ c.from_residual.ensures.1 _ _
    (sym c.in_err-check_redraw.ensures)

pub write_curve-requires : goal.write_curve-requires
write_curve-requires c = let p = c.requires in (edge-row_of (edge_rows_lem p.0) c.args.i p.1, p.3)

pub returns : goal.returns
returns c =
    let w = c.write_curve in
    let a = c.args in
    let p = c.requires in
    unless-carried a.nodes.now a.edges.now a.faces.now a.h _ _ a.nodes.now w.new.edges
    a.faces.now a.h (pos 0) refl (sym c.in_ok-check_redraw.ensures)
    (change-lent p.0 a.i p.1 a.c.now p.3 w.ensures) refl
