-- `reason_edges::check_drawing` meets its contract: each test answers its reason, in order. Assumes nothing.
use borrow.Author.Rules.{rules}
use mathlib.Core.Path.{◌≡◌, sym, ◌∙◌}
use mir.Syntax.{w64}
use mir.Facts.{to_z-of_z}
use Rattle.curves.specs.Curves.{curve_of}
use Rattle.map.specs.Rows.{map_of, lent}
use Rattle.map.specs.Reasons.{direction_taken}
use Rattle.map_rows.specs.Rows.{node_at, edge_map}
use Rattle.map_rows.proofs.Rows.{node-row_of}
use Rattle.head.proofs.Words.{nodes_natural, nodes_read, edges_natural, edges_read}
use Rattle.outcomes.proofs.Formed.{counted, node_rows_lem}
use Rattle.outcomes.proofs.Results.{number_some, handed_number}
use Rattle.reason_departures.proofs.Taken.{direction_is}
use Rattle.reason_edges.proofs.Drawing.{number-cell, rows-read, own_none, drawn_early, drawn-taken}
use Rattle.reason_edges.proofs.Drawing.{drawn_differ, drawn-meets}
use Rattle.reason_edges.proofs.check_drawing.Goals as goal
use Rattle.reason_edges.proofs.check_drawing.Goals.{After-direction_taken}

pub returns-in_err-check_curve : goal.returns-in_err-check_curve
returns-in_err-check_curve c =
    let a = c.args in
    handed_number _ _ c.from_residual.ensures.1
    ∙ drawn_early c.requires.0 (edges_read (counted c.requires.0) c.to_usize-2.ensures) a.u a.v c.requires.1
    c.requires.2 c.requires.3 (number_some _) c.in_err-check_curve.ensures

-- 11, with the numbers as they were read
told : (c : After-direction_taken)
    → let a = c.args in
    c.direction_taken.result
    ≡ direction_taken (edge_map a.edges.now c.to_usize-2.result)
    (map_of (lent a.nodes.now a.edges.now a.faces.now a.h)).next.edges
    (node_at a.nodes.now a.u).number (node_at a.nodes.now a.v).number (curve_of a.c.now)
told c =
    let a = c.args in
    let f = c.requires.0 in
    let e = edges_read (counted f) c.to_usize-2.ensures in
    c.direction_taken.ensures
    ∙ direction_is (rows-read f e) _ _ (curve_of a.c.now) (own_none f e)
    (to_z-of_z {w = w64} (search rules) ∙ number-cell (node_rows_lem f) a.u c.requires.1)
    (to_z-of_z {w = w64} (search rules) ∙ number-cell (node_rows_lem f) a.v c.requires.2)

pub returns-then-direction_taken : goal.returns-then-direction_taken
returns-then-direction_taken c =
    let a = c.args in
    drawn-taken c.requires.0 (edges_read (counted c.requires.0) c.to_usize-2.ensures) a.u a.v c.requires.1 c.requires.2
    c.requires.3 (sym c.in_ok-check_curve.ensures) (told c.before) c.if-direction_taken.true

pub returns-then-corners_differ : goal.returns-then-corners_differ
returns-then-corners_differ c =
    let a = c.args in
    drawn_differ c.requires.0 (edges_read (counted c.requires.0) c.to_usize-2.ensures) a.u a.v c.requires.1 c.requires.2
    c.requires.3 (sym c.in_ok-check_curve.ensures) (told c.before.before.before.before) c.if-direction_taken.false
    c.corners_differ.ensures c.if-corners_differ.true

pub returns : goal.returns
returns c =
    let a = c.args in
    let k = counted c.requires.0 in
    drawn-meets c.requires.0 (edges_read k c.to_usize-2.ensures) a.u a.v c.requires.1 c.requires.2
    c.requires.3 (sym c.in_ok-check_curve.ensures) (told c.before.before.before.before.before.before.before)
    c.if-direction_taken.false c.corners_differ.ensures c.if-corners_differ.false
    (nodes_read k c.to_usize.ensures) c.check_meeting.ensures

pub to_usize-requires : goal.to_usize-requires
to_usize-requires c = nodes_natural (counted c.requires.0)

pub to_usize-requires-2 : goal.to_usize-requires-2
to_usize-requires-2 c = edges_natural (counted c.requires.0)

pub check_curve-requires : goal.check_curve-requires
check_curve-requires c = let s = c in let rows = node_rows_lem s.requires.0 in
    (node-row_of rows _ s.requires.1, node-row_of rows _ s.requires.2, s.requires.3)

pub overflow_mul-u : goal.overflow_mul-u
overflow_mul-u c = let r = node_rows_lem c.requires.0 in search rules

pub offset_bounds-nodes-u : goal.offset_bounds-nodes-u
offset_bounds-nodes-u c = let r = node_rows_lem c.requires.0 in search rules

pub bounds-nodes-u : goal.bounds-nodes-u
bounds-nodes-u c = let r = node_rows_lem c.requires.0 in search rules

pub overflow_mul-v : goal.overflow_mul-v
overflow_mul-v c = let r = node_rows_lem c.requires.0 in search rules

pub offset_bounds-nodes-v : goal.offset_bounds-nodes-v
offset_bounds-nodes-v c = let r = node_rows_lem c.requires.0 in search rules

pub bounds-nodes-v : goal.bounds-nodes-v
bounds-nodes-v c = let r = node_rows_lem c.requires.0 in search rules

pub invariant_of-placed : goal.invariant_of-placed
invariant_of-placed c =
    record { ranged = rw (nodes_read (counted c.requires.0) c.to_usize.ensures) (node_rows_lem c.requires.0) }

pub invariant_of-drawn : goal.invariant_of-drawn
invariant_of-drawn c =
    record { ranged = rows-read c.requires.0 (edges_read (counted c.requires.0) c.to_usize-2.ensures) }

pub corners_differ-requires : goal.corners_differ-requires
corners_differ-requires c = let rows = node_rows_lem c.requires.0 in
    (node-row_of rows _ c.requires.1, node-row_of rows _ c.requires.2, c.requires.3)
