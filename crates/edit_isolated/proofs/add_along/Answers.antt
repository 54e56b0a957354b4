-- `edit_isolated::add_along` meets its contract: the first reason is answered, and else the edge is drawn. Assumes
-- nothing.
use mathlib.Core.Path.{refl, sym, ap, ◌∙◌}
use lib.Signed.{non_neg}
use Rattle.integers.specs.Signs.{sent}
use Rattle.map_rows.proofs.Rows.{node-row_of}
use Rattle.outcomes.proofs.Formed.{node_rows_lem, edge-next, unless-carried}
use Rattle.outcomes.proofs.Words.{count_read}
use Rattle.outcomes.proofs.Results.{unless-handed}
use Rattle.edge_rows.proofs.Formed.{held}
use Rattle.edit_isolated.proofs.IsolatedReasons.{isolated-free}
use Rattle.edit_isolated.proofs.Added.{add-reasons, add-lent, add-value}
use Rattle.edit_isolated.proofs.add_along.Goals as goal

pub returns-in_err-check_isolated : goal.returns-in_err-check_isolated
returns-in_err-check_isolated c =
    let a = c.args in
    let p = c.requires in
    unless-handed a.nodes.now a.edges.now a.faces.now a.h _ _ c.from_residual.ensures.1 _ _
    (add-reasons p.0 a.u a.v p.1 p.2 a.c.now ∙ sym c.in_err-check_isolated.ensures)

pub face_of-face-requires : goal.face_of-face-requires
face_of-face-requires c =
    let a = c.args in
    let free = isolated-free a.nodes.now a.edges.now a.faces.now a.h a.u a.v a.c.now
    (sym c.in_ok-check_isolated.ensures) in
    (node-row_of (node_rows_lem c.requires.0) a.u c.requires.1, free.0)

pub draw-head-requires : goal.draw-head-requires
draw-head-requires c =
    let x = c.face_of-face in
    let a = c.args in
    let free = isolated-free a.nodes.now a.edges.now a.faces.now a.h a.u a.v a.c.now
    (sym c.in_ok-check_isolated.ensures) in
    record {
      held = held c.requires.0;
      start = c.requires.1;
      end = c.requires.2;
      run = c.requires.3;
      room = free.1;
      number = free.2;
      natural = ap non_neg (sent x.type_inv ∙ x.ensures);
    }

pub returns : goal.returns
returns c =
    let d = c.draw-head in
    let x = c.face_of-face in
    let a = c.args in
    let p = c.requires in
    let k = edge-next p.0 in
    unless-carried a.nodes.now a.edges.now a.faces.now a.h _ _
    d.new.nodes d.new.edges a.faces.now d.result _ refl
    (add-reasons p.0 a.u a.v p.1 p.2 a.c.now ∙ sym c.in_ok-check_isolated.ensures)
    (add-lent p.0 a.u a.v p.1 p.2 (sent x.type_inv ∙ x.ensures) d.ensures)
    (add-value p.0 ∙ k.0 ∙ sym (count_read a.h.next_edge k.0 k.2))

pub check_isolated-requires : goal.check_isolated-requires
check_isolated-requires c = let p = c.requires in (held p.0, p.1, p.2, p.3)
