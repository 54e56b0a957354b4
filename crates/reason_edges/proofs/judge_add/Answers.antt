-- `reason_edges::judge_add` meets its contract: turned down before 20, or by 20 or 21, or by none. Assumes nothing.
use mathlib.Core.Path.{sym, ap, ◌∙◌}
use native.Mathlib.Omega.{arith}
use lib.Signed.{non_neg}
use Rattle.integers.specs.Signs.{sent}
use Rattle.map_rows.proofs.Rows.{node-row_of}
use Rattle.head.proofs.Words.{edges_natural, edges_read}
use Rattle.outcomes.proofs.Formed.{node_rows_lem, counted}
use Rattle.reason_edges.proofs.Drawing.{rows-read}
use Rattle.outcomes.proofs.Results.{number_some, handed_number}
use Rattle.reason_edges.proofs.Adding.{corner_told, splits_told, rows_turned, rows_late, rows_known}
use Rattle.reason_edges.proofs.judge_add.Goals as goal

pub returns-in_err-check_drawing-clause-refused : goal.returns-in_err-check_drawing-clause-refused
returns-in_err-check_drawing-clause-refused c =
    let a = c.args in
    handed_number _ _ c.from_residual.ensures.1
    ∙ rows_turned c.requires.0 a.how a.u a.v a.c.now (number_some _) c.in_err-check_drawing.ensures

pub returns-in_err-check_room-clause-refused : goal.returns-in_err-check_room-clause-refused
returns-in_err-check_room-clause-refused c =
    let a = c.args in
    let f = c.requires.0 in
    let e = edges_read (counted f) c.to_usize.ensures in
    handed_number _ _ c.from_residual-in_err-check_room.ensures.1
    ∙ rows_late f a.how a.u a.v a.c.now (sym c.in_ok-check_drawing.ensures)
    (corner_told f a.how a.u a.v a.c.now c.requires.1 e c.first_step.ensures.way (sent c.corner_face-face.type_inv)
    c.corner_face-face.ensures) (splits_told f a.how a.u a.v a.c.now e c.splits_face-splits.ensures)
    c.makes_second-second.ensures c.in_err-check_room.ensures

pub returns-clause-refused : goal.returns-clause-refused
returns-clause-refused c =
    let a = c.args in
    let f = c.requires.0 in
    let e = edges_read (counted f) c.to_usize.ensures in
    rows_late f a.how a.u a.v a.c.now (sym c.in_ok-check_drawing.ensures)
    (corner_told f a.how a.u a.v a.c.now c.requires.1 e c.first_step.ensures.way (sent c.corner_face-face.type_inv)
    c.corner_face-face.ensures) (splits_told f a.how a.u a.v a.c.now e c.splits_face-splits.ensures)
    c.makes_second-second.ensures c.in_ok-check_room.ensures

pub returns-clause-judged : goal.returns-clause-judged
returns-clause-judged c =
    let a = c.args in
    let f = c.requires.0 in
    let e = edges_read (counted f) c.to_usize.ensures in
    rows_known f a.how a.u a.v a.c.now
    (corner_told f a.how a.u a.v a.c.now c.requires.1 e c.first_step.ensures.way (sent c.corner_face-face.type_inv)
    c.corner_face-face.ensures) (splits_told f a.how a.u a.v a.c.now e c.splits_face-splits.ensures)

pub to_usize-requires : goal.to_usize-requires
to_usize-requires c = edges_natural (counted c.requires.0)

pub invariant_of-drawn : goal.invariant_of-drawn
invariant_of-drawn c =
    record { ranged = rows-read c.requires.0 (edges_read (counted c.requires.0) c.to_usize.ensures) }

pub corner_face-face-requires : goal.corner_face-face-requires
corner_face-face-requires c = (
  node-row_of (node_rows_lem c.requires.0) c.args.u c.requires.1,
  c.first_step.ensures.from,
  c.first_step.ensures.to,
)

pub splits_face-splits-requires : goal.splits_face-splits-requires
splits_face-splits-requires c =
    let f = c.requires.0 in
    let e = edges_read (counted f) c.to_usize.ensures in (
      node-row_of (node_rows_lem f) c.args.u c.requires.1,
      node-row_of (node_rows_lem f) c.args.v c.requires.2,
      omega (arith, e, (counted f).edges.most),
      c.requires.3,
    )

pub makes_second-second-requires : goal.makes_second-second-requires
makes_second-second-requires c = let a = c.args in
    let f = c.requires.0 in
    ap non_neg (corner_told f a.how a.u a.v a.c.now c.requires.1 (edges_read (counted f) c.to_usize.ensures)
    c.first_step.ensures.way (sent c.corner_face-face.type_inv) c.corner_face-face.ensures)

pub check_room-requires : goal.check_room-requires
check_room-requires c = counted c.requires.0
